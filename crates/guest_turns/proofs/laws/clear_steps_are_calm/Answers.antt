use Rattle.guest_turns.proofs.ClearSteps.{clear_are_calm}
use Rattle.guest_turns.proofs.laws.clear_steps_are_calm.Goals as goal

pub returns : goal.returns
returns c = clear_are_calm
