use Rattle.std.proofs.Common.{ap, sym, ◌∙◌}
use Rattle.run_positions.specs.Positions.{begin_of}
use Rattle.run_positions.specs.Stops.{stops_at}
use Rattle.run_positions.proofs.Stopping.{last_yes}
use Rattle.run_positions.proofs.positions.Positions.noted.Goals as goal

pub returns-then-hold-clause-found : goal.returns-then-hold-clause-found
returns-then-hold-clause-found g c = λ low before.
    let p = c.args.self.now in
    let stops = c.args.stops.now in
    last_yes (begin_of g.R.Runner p) stops p.place
    (ap (λ m. stops_at stops m) (sym c.requires.held.machine) ∙ sym c.hold.ensures ∙ c.if-hold.true)
