-- Offsets of bytes, one after the other.
use Rattle.std.proofs.Common.{arith, ◌≡◌, ◌∙◌, ℕ, suc, ◌+◌, ◌-◌, ◌%◌, ◌^◌, ◌<◌, ◌≤◌, List, [], ◌∷◌, ◌++◌, refl, ap, sym, Some, None}
use Rattle.std.proofs.lemmas.List.{append_assoc, append-nil}
use Rattle.machine_defs.specs.Machine.{Machine}
use Rattle.run_positions.specs.Looks.{offset_of}
use Rattle.gdb_stub.specs.Looking.{offset_before, offsets_in}
use Rattle.run_positions.proofs.Moving.{keeps_none, keeps_then}

module _ (m : Machine) (address : ℕ) where
  more_suc : (n : ℕ) → offsets_in m address (suc n) ≡ offset_before (offset_of m address) (offsets_in m ((address + 1) % 2 ^ 64) n)
  unfolding offsets_in
  more_suc n = refl

  none_left : offsets_in m address 0 ≡ []
  unfolding offsets_in
  none_left = refl

  module _ (front : List ℕ) (n i : ℕ) where
    pub read_more : (offset : ℕ) → i < n → offset_of m address ≡ Some offset
        → (front ++ offset ∷ []) ++ offsets_in m ((address + 1) % 2 ^ 64) (n - (i + 1)) ≡ front ++ offsets_in m address (n - i)
    read_more offset few is =
        let more : n - i ≡ suc (n - (i + 1)) = omega (arith, few) in
        append_assoc front (offset ∷ []) (offsets_in m ((address + 1) % 2 ^ 64) (n - (i + 1)))
        ∙ ap (λ (rest : List ℕ). front ++ rest)
        (sym (ap (λ (k : ℕ). offsets_in m address k) more ∙ more_suc (n - (i + 1))
        ∙ ap (λ place. offset_before place (offsets_in m ((address + 1) % 2 ^ 64) (n - (i + 1)))) is))

    pub read_none : i < n → offset_of m address ≡ None → front ++ offsets_in m address (n - i) ≡ front
    read_none few is =
        let more : n - i ≡ suc (n - (i + 1)) = omega (arith, few) in
        ap (λ (rest : List ℕ). front ++ rest)
        (ap (λ (k : ℕ). offsets_in m address k) more ∙ more_suc (n - (i + 1))
        ∙ ap (λ place. offset_before place (offsets_in m ((address + 1) % 2 ^ 64) (n - (i + 1)))) is)
        ∙ append-nil front

    pub read_all : n ≤ i → front ++ offsets_in m address (n - i) ≡ front
    read_all all =
        let none : n - i ≡ 0 = omega (arith, all) in
        ap (λ (rest : List ℕ). front ++ rest) (ap (λ (k : ℕ). offsets_in m address k) none ∙ none_left) ∙ append-nil front

pub ruleset readings = (read_more, read_none, read_all, keeps_none, keeps_then)
