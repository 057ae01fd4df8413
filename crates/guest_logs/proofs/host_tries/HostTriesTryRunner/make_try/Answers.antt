use Rattle.std.proofs.Common.{arith, subst, sym}
use Rattle.guest_turns.specs.Tries.{HasTried}
use Rattle.guest_logs.proofs.Alone.{filled_behind, tried_alone, tried_is, try_most}
use Rattle.guest_logs.proofs.host_tries.HostTriesTryRunner.make_try.Goals as goal

pub make_try-made-requires : goal.make_try-made-requires
make_try-made-requires c = record {
  can = record {
    guest = record { there = omega (arith, c.self.invariant.one); active = c.self.invariant.active 0 };
    running = rw c.self.view_is c.requires.running;
    steps = rw c.self.view_is c.requires.early;
    entries = rw c.new.ensures (omega arith);
    taken = rw c.new.ensures (omega arith);
  };
}

pub answered-requires-clause-alone : goal.answered-requires-clause-alone
answered-requires-clause-alone c =
    tried_alone c.make_try-made.result c.self.inside.host c.make_try-made.new.self c.self.invariant c.make_try-made.ensures.machines c.make_try-made.ensures.shares

pub answered-requires-clause-some : goal.answered-requires-clause-some
answered-requires-clause-some c = λ is.
    let old = c.self.inside.host.machines in
    let new = c.make_try-made.new.self.machines in
    filled_behind c.args.self.now old new (sym c.self.view_is) c.self.invariant.one c.tries_make_steps.ensures.entry (rw c.self.view_is at c.make_try-made.ensures.room.enough)
    (subst (λ made. HasTried made 0 old new) is c.make_try-made.ensures.machines)

pub invariant_of-self : goal.invariant_of-self
invariant_of-self c =
    tried_alone c.make_try-made.result c.self.inside.host c.make_try-made.new.self c.self.invariant c.make_try-made.ensures.machines c.make_try-made.ensures.shares

pub returns-clause-tried : goal.returns-clause-tried
returns-clause-tried c =
    tried_is c.make_try-made.result c.args.self.now c.self.inside.host.machines c.make_try-made.new.self.machines c.answered.result (sym c.self.view_is)
    c.self.invariant.one c.tries_make_steps.ensures.entry (rw c.self.view_is at c.make_try-made.ensures.room.enough) c.make_try-made.ensures.machines c.answered.ensures

pub returns-clause-most : goal.returns-clause-most
returns-clause-most c =
    try_most c.make_try-made.result c.args.self.now c.self.inside.host.machines c.make_try-made.new.self.machines (sym c.self.view_is) c.self.invariant.one
    c.turns_count_alike.ensures.most c.tries_make_steps.ensures.last c.requires.running c.make_try-made.ensures.machines
