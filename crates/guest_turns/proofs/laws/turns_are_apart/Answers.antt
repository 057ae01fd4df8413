use Rattle.guest_turns.proofs.TurnLists.{order_has_no_effect, runs_its_own_turns, turns_keep_count}
use Rattle.guest_turns.proofs.laws.turns_are_apart.Goals as goal

pub returns-clause-own : goal.returns-clause-own
returns-clause-own c = runs_its_own_turns

pub returns-clause-count : goal.returns-clause-count
returns-clause-count c = turns_keep_count

pub returns-clause-order : goal.returns-clause-order
returns-clause-order c = order_has_no_effect
