use Rattle.std.proofs.Common.{rules}
use Rattle.rv64_hart.proofs.Runs.{steps_to}
use Rattle.rv64_hart.proofs.harts.steps.Goals as goal

pub loop-taken-preserved : goal.loop-taken-preserved
loop-taken-preserved c =
    record {
      steps = steps_to _ _ _ _ _ _ _ _ _ _ _ _ _ c.loop-taken.invariant.steps c.round-round.ensures.run.steps (search rules) (search rules) (search rules) (search rules);
      within = search rules;
      serves = search rules;
      quiet = search rules;
      tally = search rules;
    }

pub returns-in-Ends-clause-steps : goal.returns-in-Ends-clause-steps
returns-in-Ends-clause-steps c =
    steps_to _ _ _ _ _ _ _ _ _ _ _ _ _ c.loop-taken.invariant.steps c.round-round.ensures.run.steps (search rules) (search rules) (search rules) (search rules)

pub returns-in-Left-clause-steps : goal.returns-in-Left-clause-steps
returns-in-Left-clause-steps c =
    steps_to _ _ _ _ _ _ _ _ _ _ _ _ _ c.loop-taken.invariant.steps c.round-round.ensures.run.steps (search rules) (search rules) (search rules) (search rules)
