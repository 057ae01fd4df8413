use Rattle.std.proofs.Common.{arith}
use Rattle.guest_exit.specs.View.{machine_of}
use Rattle.guest_turns.proofs.PlainRuns.{entered_counted, entered_plain, entered_run, none_counted, none_plain, none_run}
use Rattle.guest_turns.proofs.plain_runs.plain_run_of.Goals as goal

-- no entry
pub returns-then-k-eq0-clause-run : goal.returns-then-k-eq0-clause-run
returns-then-k-eq0-clause-run c = none_run c.args.guest.now c.args.memory.now c.requires.hosted

pub returns-then-k-eq0-clause-plain : goal.returns-then-k-eq0-clause-plain
returns-then-k-eq0-clause-plain c = none_plain (machine_of c.args.guest.now c.args.memory.now) c.args.k

pub returns-then-k-eq0-clause-account : goal.returns-then-k-eq0-clause-account
returns-then-k-eq0-clause-account c = none_counted (machine_of c.args.guest.now c.args.memory.now) c.args.tally.now

-- and one
pub returns-clause-run : goal.returns-clause-run
returns-clause-run c =
    entered_run c.args.guest.now c.enter_plain.new.guest c.args.memory.now c.enter_plain.new.memory c.enter_plain.result c.args.tally.now c.enter_plain.new.tally
    c.requires.hosted c.enter_plain.ensures.entered

pub returns-clause-plain : goal.returns-clause-plain
returns-clause-plain c =
    entered_plain c.args.guest.now c.enter_plain.new.guest c.args.memory.now c.enter_plain.new.memory c.args.k c.enter_plain.result c.args.tally.now c.enter_plain.new.tally
    (omega (arith, c.enter_plain.ensures.within, c.limit-most.ensures.longest.most)) c.enter_plain.ensures.plain c.enter_plain.ensures.entered

pub returns-clause-account : goal.returns-clause-account
returns-clause-account c =
    entered_counted c.args.guest.now c.enter_plain.new.guest c.args.memory.now c.enter_plain.new.memory c.enter_plain.result c.args.tally.now c.enter_plain.new.tally
    c.enter_plain.ensures.entered
