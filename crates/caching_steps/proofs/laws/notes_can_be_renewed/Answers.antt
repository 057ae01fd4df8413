use Rattle.caching_steps.proofs.Names.{names_suffice}
use Rattle.caching_steps.proofs.Steps.{remembers_alike}
use Rattle.caching_steps.proofs.laws.notes_can_be_renewed.Goals as goal

pub returns-clause-alike : goal.returns-clause-alike
returns-clause-alike c = remembers_alike

pub returns-clause-names : goal.returns-clause-names
returns-clause-names c = names_suffice
