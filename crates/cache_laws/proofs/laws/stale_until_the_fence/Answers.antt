use Rattle.cache_laws.proofs.ShortRuns.{fenced_faults, fenced_faults_freely, fenced_first_faults, may_drop_stale, may_use_stale, other_fences_keep_first, stale_first_is_used, stale_is_used}
use Rattle.cache_laws.proofs.laws.stale_until_the_fence.Goals as goal

pub returns-clause-used : goal.returns-clause-used
returns-clause-used c = stale_is_used

pub returns-clause-faults : goal.returns-clause-faults
returns-clause-faults c = fenced_faults

pub returns-clause-may_use : goal.returns-clause-may_use
returns-clause-may_use c = may_use_stale

pub returns-clause-may_drop : goal.returns-clause-may_drop
returns-clause-may_drop c = may_drop_stale

pub returns-clause-faults_freely : goal.returns-clause-faults_freely
returns-clause-faults_freely c = fenced_faults_freely

pub returns-clause-first_used : goal.returns-clause-first_used
returns-clause-first_used c = stale_first_is_used

pub returns-clause-first_kept : goal.returns-clause-first_kept
returns-clause-first_kept c = other_fences_keep_first

pub returns-clause-first_faults : goal.returns-clause-first_faults
returns-clause-first_faults c = fenced_first_faults
