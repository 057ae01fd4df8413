use Rattle.guest_turns.proofs.Accounts.{turns_count_alike}
use Rattle.guest_turns.proofs.Steps.{runs_make_at_most}
use Rattle.guest_turns.proofs.laws.turns_count_alike.Goals as goal

pub returns-clause-alike : goal.returns-clause-alike
returns-clause-alike c = turns_count_alike

pub returns-clause-most : goal.returns-clause-most
returns-clause-most c = runs_make_at_most
