use Rattle.std.proofs.Common.{◌≡◌, true, false, rules}
use Rattle.std.specs.Prelude.{is_ok}
use Rattle.log_writer.proofs.Logging.{logged, logged_front}
use Rattle.log_writer.proofs.logs.log_of.Goals as goal

pub returns-in_err-counts-clause-log : goal.returns-in_err-counts-clause-log
returns-in_err-counts-clause-log g c =
    let failed : is_ok c.from_residual.result ≡ false = search rules in
    rw failed (logged_front g.O.Sink c.args.kinds.now (g.R.TryRunner.machine c.args.runner.now) c.args.from c.args.steps c.args.out.now c.log_steps.new.out
    (c.in_err-counts.ensures.bytes (g.R.TryRunner.machine c.args.runner.now) c.run.ensures.machine c.requires.orderly))

pub returns-in_err-put-clause-log : goal.returns-in_err-put-clause-log
returns-in_err-put-clause-log g c =
    let failed : is_ok c.from_residual-in_err-put.result ≡ false = search rules in
    let m = g.R.TryRunner.machine c.args.runner.now in
    rw failed (logged g.O.Sink c.args.kinds.now m c.args.from c.args.steps c.args.out.now c.log_steps.new.out c.put.new.out false c.in_ok-counts.counts
    (c.in_ok-counts.ensures.counted m c.run.ensures.machine) (c.in_ok-counts.ensures.bytes m c.run.ensures.machine c.requires.orderly) c.in_err-put.ensures.bytes)

pub returns-clause-log : goal.returns-clause-log
returns-clause-log g c =
    let m = g.R.TryRunner.machine c.args.runner.now in
    logged g.O.Sink c.args.kinds.now m c.args.from c.args.steps c.args.out.now c.log_steps.new.out c.put.new.out true c.in_ok-counts.counts
    (c.in_ok-counts.ensures.counted m c.run.ensures.machine) (c.in_ok-counts.ensures.bytes m c.run.ensures.machine c.requires.orderly) c.in_ok-put.ensures.bytes
