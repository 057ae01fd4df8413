use Rattle.std.proofs.Common.{◌+◌, ◌∙◌, refl, rules}
use Rattle.rv64_hart.proofs.PlainSteps.{plain_runs}
use Rattle.rv64_hart.proofs.Runs.{runs_both}
use Rattle.rv64_hart.proofs.steps.instructions.Goals as goal

pub returns-in-Some-clause-run : goal.returns-in-Some-clause-run
returns-in-Some-clause-run c =
    let common = c.common_instructions-common in
    let last = c.last-last in
    record {
      steps = runs_both common.result.made last.result.made (common.result.made + last.result.made) c.args.hart.now.state.now c.args.hart.now.memory.now c.args.hart.now.tally.now.trace common.new.state common.new.memory common.new.tally.trace
          last.new.hart.state.now last.new.hart.memory.now last.new.hart.tally.now.trace refl
          (plain_runs common.result.made c.args.hart.now.state.now c.args.hart.now.memory.now c.args.hart.now.tally.now.trace common.new.state common.new.memory common.new.tally.trace common.ensures.run.steps) last.ensures.run.steps;
      raises = last.ensures.run.raises;
      only = (last.ensures.run.only.0 ∙ common.ensures.run.only.0, last.ensures.run.only.1 ∙ common.ensures.run.only.1);
      serves = last.ensures.run.serves;
      same = last.ensures.run.same;
    }

pub returns-in-None-clause-run : goal.returns-in-None-clause-run
returns-in-None-clause-run c =
    let common = c.common_instructions-common in
    record {
      steps = plain_runs common.result.made c.args.hart.now.state.now c.args.hart.now.memory.now c.args.hart.now.tally.now.trace common.new.state common.new.memory common.new.tally.trace common.ensures.run.steps;
      raises = tt;
      only = common.ensures.run.only;
      serves = common.ensures.run.serves;
      same = search rules;
    }
