use Rattle.step_logs.proofs.StaleLines.{found_noted, none_noted}
use Rattle.step_logs.proofs.stale_uses.StaleUses.note_found.Goals as goal

pub returns-in_ok-note_leaves-in-Some : goal.returns-in_ok-note_leaves-in-Some
returns-in_ok-note_leaves-in-Some c = λ s is last shows running events.
    found_noted s c.args.before.now c.args.event.now c.in-Some.field-0 c.args.self.now c.args.steps.now c.note_leaves.new.steps
    c.in_ok-note_leaves-in-Some.ensures c.in-Some.is is last shows running events

pub returns-in-None : goal.returns-in-None
returns-in-None c = λ s is last shows running events. none_noted s c.args.event.now c.args.steps.now c.in-None.is running events
