-- Watched bytes, one after the other.
use Rattle.std.proofs.Common.{arith, ◌≡◌, ◌≢◌, ◌∙◌, ℕ, ◌+◌, ◌<◌, ◌≤◌, List, length, drop, get_or, refl, ap, sym, Some, None, true, false, ◌==◌}
use Rattle.std.proofs.lemmas.List.{drop_more, drop_all}
use Rattle.machine_defs.specs.Machine.{Machine}
use Rattle.gdb_stub.specs.declared.sessions.Watched.{Watched}
use Rattle.gdb_stub.specs.Sessions.{changed_in}
use Rattle.gdb_stub.specs.Looking.{machine_byte}

module _ (m : Machine) (seen : List (Watched × ℕ)) (i : ℕ) where
  pub same_here : (d : Watched × ℕ) → i < length seen → machine_byte m (get_or seen i d).0.offset ≡ (get_or seen i d).1
      → changed_in m (drop (i + 1) seen) ≡ changed_in m (drop i seen)
  same_here d some same =
      let equal : (machine_byte m (get_or seen i d).0.offset == (get_or seen i d).1) ≡ true = grind (arith, same) in
      sym (ap (λ (rest : List (Watched × ℕ)). changed_in m rest) (drop_more seen i d some) ∙ rw (equal) refl)

  pub changed_here : (d : Watched × ℕ) → i < length seen → machine_byte m (get_or seen i d).0.offset ≢ (get_or seen i d).1
      → changed_in m (drop i seen) ≡ Some (get_or seen i d).0.place.address
  changed_here d some other =
      let differs : (machine_byte m (get_or seen i d).0.offset == (get_or seen i d).1) ≡ false = grind (arith, other) in
      ap (λ (rest : List (Watched × ℕ)). changed_in m rest) (drop_more seen i d some) ∙ rw (differs) refl

  pub none_left : length seen ≤ i → changed_in m (drop i seen) ≡ None
  none_left all = ap (λ (rest : List (Watched × ℕ)). changed_in m rest) (drop_all i seen all)

pub ruleset changes = (same_here, changed_here, none_left)
