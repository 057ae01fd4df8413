use Rattle.std.proofs.Common.{rules, ◌≡◌, None}
use Rattle.nesthv_top.proofs.CommandReads.{no_command_says}
use Rattle.trace_top.specs.Tracing.{asked_in, trace_command}
use Rattle.trace_top.proofs.Asking.{unasked}
use Rattle.trace_top.proofs.tracing.obey.Goals as goal

pub returns-in_default-clause-reads : goal.returns-in_default-clause-reads
returns-in_default-clause-reads g c =
    let none : asked_in c.args.words.now ≡ None = search rules in
    no_command_says g.S.Store (trace_command c.args.words.now) c.args.store.now (unasked c.args.words.now none)
