use Rattle.nesthv_top.specs.declared.ends.Ended.{Ended}
use Rattle.guest_commands.proofs.Statuses.{comes, of_done}
use Rattle.trace_top.specs.Endings.{SaysOfLog}
use Rattle.trace_top.specs.Tracing.{asked_in, trace_command, trace_words}
use Rattle.std.proofs.Common.{refl}
use Rattle.trace_top.proofs.Ending.{log_planned, never_replays}
use Rattle.trace_top.proofs.tracing.trace_words.Goals as goal

pub returns-clause-log : goal.returns-clause-log
returns-clause-log g c = λ zero.
    of_done (λ (ended : Ended). SaysOfLog g.O.Sink (g.S.Store.files c.args.store.now) (trace_command c.args.words.now) (asked_in c.args.words.now) ended c.args.out.now c.obey-ended.new.out)
    c.obey-ended.result (rw c.finish.ensures.status at zero) c.obey-ended.ensures.log

pub returns-clause-comes : goal.returns-clause-comes
returns-clause-comes g c =
    let ended = c.obey-ended.ensures in
    rw c.finish.ensures.status (comes _ (trace_words c.args.words.now) _ _ c.obey-ended.result ended.words (never_replays c.args.words.now) ended.reads.fault
    (log_planned g.O.Sink c.args.out.now c.obey-ended.new.out _ (trace_command c.args.words.now) (asked_in c.args.words.now) c.obey-ended.result (trace_words c.args.words.now)
    (never_replays c.args.words.now) ended.words refl ended.log) ended.faults.read ended.faults.write)

pub returns-clause-ended : goal.returns-clause-ended
returns-clause-ended g c = (
  c.obey-ended.result,
  c.finish.ensures.status,
  (c.obey-ended.ensures.words, c.obey-ended.ensures.reads, c.obey-ended.ensures.faults, c.obey-ended.ensures.log, c.finish.ensures.line),
)
