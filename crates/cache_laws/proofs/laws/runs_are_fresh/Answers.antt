use Rattle.cache_laws.proofs.FirstRuns.{guests_first_fresh, runs_first_fresh}
use Rattle.cache_laws.proofs.FreshRuns.{guests_cache_fresh, guests_use_fresh, runs_cache_fresh, runs_use_fresh}
use Rattle.cache_laws.proofs.laws.runs_are_fresh.Goals as goal

pub returns-clause-cached : goal.returns-clause-cached
returns-clause-cached c = runs_cache_fresh

pub returns-clause-uses : goal.returns-clause-uses
returns-clause-uses c = runs_use_fresh

pub returns-clause-guests_cached : goal.returns-clause-guests_cached
returns-clause-guests_cached c = guests_cache_fresh

pub returns-clause-guests_uses : goal.returns-clause-guests_uses
returns-clause-guests_uses c = guests_use_fresh

pub returns-clause-first : goal.returns-clause-first
returns-clause-first c = runs_first_fresh

pub returns-clause-guests_first : goal.returns-clause-guests_first
returns-clause-guests_first c = guests_first_fresh
