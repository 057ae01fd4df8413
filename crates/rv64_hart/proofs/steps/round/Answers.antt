use Rattle.std.proofs.Common.{rules, ◌+◌, ◌<◌, ◌^◌, Some, true, false, refl}
use Rattle.rv64_hart.specs.Steps.{progress}
use Rattle.rv64_hart.proofs.Runs.{steps_more}
use Rattle.rv64_hart.proofs.steps.round.Goals as goal

pub returns-in-Continues-clause-run : goal.returns-in-Continues-clause-run
returns-in-Continues-clause-run c =
    let made = c.attempts-stretch in
    let small : c.attempts-stretch.new.hart.tally.now.trace < 2 ^ 64 = search rules in
    record {
      steps = steps_more c.args.watch made.result.made (made.result.made + 1) (progress c.args.hart.now.state.now c.args.hart.now.memory.now c.args.hart.now.tally.now.trace false) (progress made.new.hart.state.now made.new.hart.memory.now made.new.hart.tally.now.trace false)
          (Some (progress c.trap_step.new.state made.new.hart.memory.now made.new.hart.tally.now.trace false)) refl (made.ensures.run.steps c.args.watch) (c.in-Continues.ensures.steps made.new.hart.tally.now.trace small);
      exits = tt;
      only = made.ensures.run.only;
      serves = search rules;
      same = made.ensures.run.same;
    }

pub returns-in-Ends-clause-run : goal.returns-in-Ends-clause-run
returns-in-Ends-clause-run c =
    let made = c.attempts-stretch in
    let small : c.attempts-stretch.new.hart.tally.now.trace < 2 ^ 64 = search rules in
    record {
      steps = steps_more c.args.watch made.result.made (made.result.made + 1) (progress c.args.hart.now.state.now c.args.hart.now.memory.now c.args.hart.now.tally.now.trace false) (progress made.new.hart.state.now made.new.hart.memory.now made.new.hart.tally.now.trace false)
          (Some (progress c.trap_step.new.state made.new.hart.memory.now made.new.hart.tally.now.trace true)) refl (made.ensures.run.steps c.args.watch) (c.in-Ends.ensures.steps made.new.hart.tally.now.trace small);
      exits = tt;
      only = made.ensures.run.only;
      serves = search rules;
      same = made.ensures.run.same;
    }
