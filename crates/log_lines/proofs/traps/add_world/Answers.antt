use Rattle.std.proofs.Common.{ap, ◌∙◌, ◌++◌}
use Rattle.log_lines.proofs.Pieces.{added}
use Rattle.log_lines.proofs.traps.add_world.Goals as goal

pub returns : goal.returns
returns c =
    let first = c.args.line.now.items in
    let word = c.add.ensures ∙ ap (λ word. first ++ word) c.word_of.ensures.value in
    let head = added first _ _ _ _ word c.add_head.ensures.text in
    let hgatp = added first _ _ _ _ (added first _ _ _ _ head c.add-2.ensures) c.add_hex.ensures.text in
    let vsatp = added first _ _ _ _ (added first _ _ _ _ hgatp c.add-3.ensures) c.add_hex-2.ensures.text in
    added first _ _ _ _ (added first _ _ _ _ vsatp c.add_crossing.ensures.text) c.add-4.ensures
