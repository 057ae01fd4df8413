use Rattle.fill_laws.proofs.Running.{runs_compose, events_compose}
use Rattle.fill_laws.proofs.laws.runs_compose.Goals as goal

pub returns-clause-states : goal.returns-clause-states
returns-clause-states c = runs_compose

pub returns-clause-events : goal.returns-clause-events
returns-clause-events c = events_compose
