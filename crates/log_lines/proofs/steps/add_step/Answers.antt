use Rattle.log_lines.proofs.Pieces.{added}
use Rattle.log_lines.proofs.steps.add_step.Goals as goal

pub returns : goal.returns
returns c =
    let first = c.args.line.now.items in
    let head = added first _ _ _ _ c.add.ensures c.add_head.ensures.text in
    let word = added first _ _ _ _ (added first _ _ _ _ head c.add-2.ensures) c.add_optional_word.ensures.text in
    let written = added first _ _ _ _ (added first _ _ _ _ word c.add_written.ensures.text) c.add_written-2.ensures.text in
    let memory = added first _ _ _ _ (added first _ _ _ _ written c.add_memory.ensures.text) c.add_memory-2.ensures.text in
    added first _ _ _ _ memory c.add-3.ensures
