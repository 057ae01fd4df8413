use Rattle.trap_delegation.proofs.Restored.{goes_to_hs}
use Rattle.trap_delegation.proofs.laws.trap_targets.Goals as goal

pub returns : goal.returns
returns c = goes_to_hs
