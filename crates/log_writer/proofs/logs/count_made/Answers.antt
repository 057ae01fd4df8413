use Rattle.std.proofs.Common.{arith, ◌≡◌, ◌∙◌, ◌+◌, ap, sym, subst, suc, ℕ, List}
use Rattle.std.specs.List.{list_any}
use Rattle.machine_defs.specs.declared.events.Event.{Event}
use Rattle.machine_defs.specs.Runs.{is_instruction}
use Rattle.run_log.specs.Counts.{AreCounts}
use Rattle.step_logs.specs.Befores.{key_before}
use Rattle.step_logs.specs.declared.befores.Before.{Before}
use Rattle.log_writer.proofs.Counting.{counts_stay}
use Rattle.log_writer.proofs.logs.count_made.Goals as goal

pub returns-in_ok-count : goal.returns-in_ok-count
returns-in_ok-count c = λ origin from steps few is events are.
    c.in_ok-count.ensures origin from steps few (c.key.ensures ∙ ap (λ (b : Before). key_before b) is)
    (ap (λ (es : List Event). list_any is_instruction es) events ∙ sym c.has_instruction.ensures ∙ c.if-has_instruction.true) are

pub returns-else-has_instruction : goal.returns-else-has_instruction
returns-else-has_instruction c = λ origin from steps few is events are.
    let next : suc steps ≡ steps + 1 = omega arith in
    subst (λ (n : ℕ). AreCounts origin from n c.args.counts.now) next
    (counts_stay origin from steps c.args.counts.now
    (ap (λ (es : List Event). list_any is_instruction es) events ∙ sym c.has_instruction.ensures ∙ c.if-has_instruction.false) are)
