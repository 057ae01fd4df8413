use Rattle.step_logs.proofs.HeldCounts.{fences_uninterrupted}
use Rattle.step_logs.proofs.tries.held_before.Goals as goal

pub held_with-requires : goal.held_with-requires
held_with-requires g c = record {
  none =
      fences_uninterrupted (g.R.TryRunner.machine c.args.runner.now) c.args.act.now _ _ c.in-Fences.is c.requires.act;
}
