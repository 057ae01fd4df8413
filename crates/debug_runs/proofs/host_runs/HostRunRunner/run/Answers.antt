use Rattle.std.proofs.Common.{◌∙◌, ap, refl}
use Rattle.debug_runs.proofs.OneGuest.{can_make_turn, still_one, turned_one}
use Rattle.machine_defs.specs.Machine.{Machine}
use Rattle.machine_defs.specs.Runs.{run}
use Rattle.debug_runs.proofs.host_runs.HostRunRunner.run.Goals as goal

pub turn-requires : goal.turn-requires
turn-requires c = record {
  can =
      rw c.new.ensures (can_make_turn c.self.inside.host c.args.k _ c.self.invariant.one c.self.invariant.active c.rooms_are_small.ensures (rw c.self.view_is c.requires.early) c.requires.few refl refl);
}

pub invariant_of-self : goal.invariant_of-self
invariant_of-self c = still_one c.self.inside.host c.turn.new.self c.args.k c.self.invariant c.turn.ensures.machines c.turn.ensures.shares.retired

pub returns-clause-machine : goal.returns-clause-machine
returns-clause-machine c = turned_one c.self.inside.host c.turn.new.self c.args.k c.self.invariant c.turn.ensures.machines ∙ ap (λ (m : Machine). run m c.args.k) c.self.view_is

pub returns-clause-most : goal.returns-clause-most
returns-clause-most c =
    rw (turned_one c.self.inside.host c.turn.new.self c.args.k c.self.invariant c.turn.ensures.machines ∙ ap (λ (m : Machine). run m c.args.k) c.self.view_is)
    (c.turns_count_alike.ensures.most c.args.self.now c.args.k)
