use Rattle.fill_laws.proofs.Filling.{few_fills, fills_go_on, only_spaces}
use Rattle.fill_laws.proofs.Stepping.{steps_go_on}
use Rattle.fill_laws.proofs.laws.fills_go_on.Goals as goal

pub returns-clause-only : goal.returns-clause-only
returns-clause-only c = only_spaces

pub returns-clause-few : goal.returns-clause-few
returns-clause-few c = few_fills

pub returns-clause-fills : goal.returns-clause-fills
returns-clause-fills c = fills_go_on

pub returns-clause-steps : goal.returns-clause-steps
returns-clause-steps c = steps_go_on
