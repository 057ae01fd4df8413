use Rattle.std.proofs.Common.{◌∙◌}
use Rattle.command_line.proofs.Adding.{known, known_if}
use Rattle.command_line.proofs.commands.files_line.Goals as goal

pub returns : goal.returns
returns c =
    let check = c.in_ok-check.ensures ∙ known _ _ _ _ c.in_ok-reports_line.ensures c.in_ok-one_word.ensures.shape in
    known_if c.with-2.result _ _ _ _ check c.in_ok-two_words.ensures.shape c.with-2.ensures
