use Rattle.std.proofs.Common.{◌+◌, sym, subst, Bool}
use Rattle.run_log.specs.Log.{AreCountsIf}
use Rattle.log_writer.proofs.logs.count_step.Goals as goal

pub returns-in_ok-count_made : goal.returns-in_ok-count_made
returns-in_ok-count_made c = λ origin from steps few is events are.
    subst (λ (asked : Bool). AreCountsIf asked origin from (steps + 1) c.count_made.new.counts) (sym c.if-asked.true)
    (c.in_ok-count_made.ensures origin from steps few is events
    (subst (λ (asked : Bool). AreCountsIf asked origin from steps c.args.counts.now) c.if-asked.true are))

pub returns-else-asked : goal.returns-else-asked
returns-else-asked c = λ origin from steps few is events are.
    subst (λ (asked : Bool). AreCountsIf asked origin from (steps + 1) c.args.counts.now) (sym c.if-asked.false)
    (subst (λ (asked : Bool). AreCountsIf asked origin from steps c.args.counts.now) c.if-asked.false are)
