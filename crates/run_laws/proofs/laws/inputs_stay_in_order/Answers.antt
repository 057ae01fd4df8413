use Rattle.run_laws.proofs.UnreadInputs.{inputs_stay, start_has_inputs}
use Rattle.run_laws.proofs.laws.inputs_stay_in_order.Goals as goal

pub returns-clause-start : goal.returns-clause-start
returns-clause-start c = start_has_inputs

pub returns-clause-runs : goal.returns-clause-runs
returns-clause-runs c = inputs_stay
