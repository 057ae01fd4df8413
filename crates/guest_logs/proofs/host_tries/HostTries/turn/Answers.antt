use Rattle.std.proofs.Common.{◌∙◌, ap, refl}
use Rattle.debug_runs.proofs.OneGuest.{can_make_turn}
use Rattle.machine_defs.specs.Machine.{Machine}
use Rattle.machine_defs.specs.Runs.{run}
use Rattle.guest_logs.proofs.Alone.{changed_one, still_alone}
use Rattle.guest_logs.proofs.host_tries.HostTries.turn.Goals as goal

pub turn-requires : goal.turn-requires
turn-requires c = record {
  can =
      rw c.new.ensures (can_make_turn c.self.inside.host c.args.k _ c.self.invariant.one c.self.invariant.active c.rooms_are_small.ensures (rw c.self.view_is c.requires.early) c.requires.few refl refl);
}

pub invariant_of-self : goal.invariant_of-self
invariant_of-self c =
    still_alone c.self.inside.host c.turn.new.self (λ m. run m c.args.k) c.self.invariant c.turn.ensures.machines c.turn.ensures.shares.retired

pub returns-clause-machine : goal.returns-clause-machine
returns-clause-machine c =
    changed_one c.self.inside.host.machines c.turn.new.self.machines (λ m. run m c.args.k) c.self.invariant.one c.turn.ensures.machines
    ∙ ap (λ (m : Machine). run m c.args.k) c.self.view_is

pub returns-clause-most : goal.returns-clause-most
returns-clause-most c =
    rw (changed_one c.self.inside.host.machines c.turn.new.self.machines (λ m. run m c.args.k) c.self.invariant.one c.turn.ensures.machines
    ∙ ap (λ (m : Machine). run m c.args.k) c.self.view_is)
    (c.turns_count_alike.ensures.most c.args.self.now c.args.k)
