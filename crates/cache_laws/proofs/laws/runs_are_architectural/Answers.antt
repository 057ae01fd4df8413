use Rattle.cache_laws.proofs.FreeRuns.{folding_runs_are_active, guests_are_architectural, runs_are_architectural}
use Rattle.cache_laws.proofs.FreeSteps.{fenced_by_walks, nothing_is_known, uncached_by_walks}
use Rattle.cache_laws.proofs.laws.runs_are_architectural.Goals as goal

pub returns-clause-machines : goal.returns-clause-machines
returns-clause-machines c = runs_are_architectural

pub returns-clause-guests : goal.returns-clause-guests
returns-clause-guests c = guests_are_architectural

pub returns-clause-wider : goal.returns-clause-wider
returns-clause-wider c = folding_runs_are_active

pub returns-clause-uncached : goal.returns-clause-uncached
returns-clause-uncached c = uncached_by_walks

pub returns-clause-unknown : goal.returns-clause-unknown
returns-clause-unknown c = nothing_is_known

pub returns-clause-fenced : goal.returns-clause-fenced
returns-clause-fenced c = fenced_by_walks
