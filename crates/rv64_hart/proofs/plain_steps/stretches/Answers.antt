use Rattle.std.proofs.Common.{◌+◌, ◌∙◌, refl, rules}
use Rattle.rv64_hart.proofs.Runs.{plain_both}
use Rattle.rv64_hart.proofs.plain_steps.stretches.Goals as goal

pub returns-then-is_some-clause-steps : goal.returns-then-is_some-clause-steps
returns-then-is_some-clause-steps c =
    let now = c.loop-taken in
    let stretch = c.stretch-stretch in
    plain_both now.taken stretch.result.made (now.taken + stretch.result.made) c.args.state.now c.args.memory.now c.args.tally.now.trace now.state now.memory now.tally.trace
    stretch.new.state stretch.new.memory stretch.new.tally.trace refl now.invariant.steps stretch.ensures.run.steps

pub loop-taken-preserved : goal.loop-taken-preserved
loop-taken-preserved c =
    let now = c.loop-taken in
    let stretch = c.stretch-stretch in
    record {
      steps = plain_both now.taken stretch.result.made (now.taken + stretch.result.made) c.args.state.now c.args.memory.now c.args.tally.now.trace now.state now.memory now.tally.trace
          stretch.new.state stretch.new.memory stretch.new.tally.trace refl now.invariant.steps stretch.ensures.run.steps;
      within = search rules;
      serves = stretch.ensures.run.serves;
      tally = (stretch.ensures.run.only.0 ∙ now.invariant.tally.0, stretch.ensures.run.only.1 ∙ now.invariant.tally.1);
      context = (stretch.ensures.run.context.0 ∙ now.invariant.context.0, stretch.ensures.run.context.1 ∙ now.invariant.context.1);
    }
