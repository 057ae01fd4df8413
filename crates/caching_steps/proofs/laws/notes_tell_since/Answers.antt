use Rattle.caching_steps.proofs.Steps.{remembers_at_start, remembers_on, tells_since}
use Rattle.caching_steps.proofs.laws.notes_tell_since.Goals as goal

pub returns-clause-start : goal.returns-clause-start
returns-clause-start c = remembers_at_start

pub returns-clause-goes : goal.returns-clause-goes
returns-clause-goes c = remembers_on

pub returns-clause-tells : goal.returns-clause-tells
returns-clause-tells c = tells_since
