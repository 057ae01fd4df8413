use Rattle.std.proofs.Common.{arith, ◌≡◌, ◌∙◌, ◌+◌, ap, subst}
use Rattle.machine_defs.specs.Machine.{Machine}
use Rattle.machine_defs.specs.Runs.{events, plain_count, run}
use Rattle.guest_logs.proofs.Alone.{changed_one, still_alone}
use Rattle.guest_logs.proofs.host_tries.HostTriesTryRunner.run_plain.Goals as goal

pub run_plain-requires : goal.run_plain-requires
run_plain-requires c = record {
  can = record {
    guest = record { there = omega (arith, c.self.invariant.one); active = c.self.invariant.active 0 };
    room =
        rw (c.new.ensures, c.self.view_is)
        (record { steps = c.requires.early; entries = omega arith; taken = omega (arith, c.requires.early) });
  };
}

pub invariant_of-self : goal.invariant_of-self
invariant_of-self c =
    still_alone c.self.inside.host c.run_plain.new.self (λ m. run m c.run_plain.result) c.self.invariant c.run_plain.ensures.machines
    c.run_plain.ensures.shares.retired

pub returns-clause-machine : goal.returns-clause-machine
returns-clause-machine c =
    changed_one c.self.inside.host.machines c.run_plain.new.self.machines (λ m. run m c.run_plain.result) c.self.invariant.one
    c.run_plain.ensures.machines
    ∙ ap (λ (m : Machine). run m c.run_plain.result) c.self.view_is

pub returns-clause-plain : goal.returns-clause-plain
returns-clause-plain c =
    let made = c.run_plain.result in
    subst (λ (m : Machine). plain_count (events m made) ≡ made) c.self.view_is c.run_plain.ensures.plain.plain

pub returns-clause-within : goal.returns-clause-within
returns-clause-within c = c.run_plain.ensures.plain.within

pub returns-clause-most : goal.returns-clause-most
returns-clause-most c =
    let made = c.run_plain.result in
    let steps = subst (λ (m : Machine). (run m made).platform.steps ≡ m.platform.steps + made) c.self.view_is c.run_plain.ensures.plain.steps in
    rw (changed_one c.self.inside.host.machines c.run_plain.new.self.machines (λ m. run m made) c.self.invariant.one c.run_plain.ensures.machines
    ∙ ap (λ (m : Machine). run m made) c.self.view_is)
    (omega (arith, steps))
