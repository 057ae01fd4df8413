-- An access to an address of more bits than any table translates.
use Rattle.std.specs.Prelude.{◌&&◌, nat_lt}
use Rattle.std.proofs.Common.{cond, ◌≡◌, ℕ, ◌^◌, Bool, true, false, List, None, refl, ap, ◌∙◌, arith}
use Rattle.arch_defs.specs.declared.second_walks.SecondWalkEnd.TheVariants.{GuestPageFault}
use Rattle.arch_defs.specs.declared.modes.Access.{Access}
use Rattle.arch_defs.specs.declared.roots.GuestMode.{GuestMode}
use Rattle.arch_defs.specs.declared.roots.GuestMode.TheVariants.{Sv39x4, Sv48x4}
use Rattle.arch_defs.specs.declared.roots.GuestRoot.{GuestRoot}
use Rattle.arch_defs.specs.declared.roots.GuestRoot.TheVariants as root
use Rattle.arch_defs.specs.declared.registers.Virtual.{Virtual}
use Rattle.arch_defs.specs.declared.walks.MissingPlace.{MissingPlace}
use Rattle.arch_defs.specs.Memory.{Memory, ram_memory}
use Rattle.arch_defs.specs.Roots.{guest_shape, is_table}
use Rattle.arch_defs.specs.SecondStage.{guest_page_trap, missing_place_by, missing_place_trap, missing_place_under, second_walk}
use Rattle.arch_defs.specs.Traps.{is_virtual}
use Rattle.arch_defs.specs.Walk.{guest_bits, end_of, path, walk}
use Rattle.arch_defs.specs.WalkedEntries.{entry_by_end, entry_by_table, entry_by_walk, folds}

-- an address of more bits than any table translates has no walk
beyond : (address : ℕ) → nat_lt address (2 ^ guest_bits) ≡ false → nat_lt address (2 ^ 41) ≡ false
beyond address far = grind (arith, far)

far_walk : (memory : Memory) (mxr : Bool) (mode : GuestMode) (ppn address : ℕ) (kind : Access) → nat_lt address (2 ^ guest_bits) ≡ false
    → second_walk memory mxr (guest_shape mode) ppn address kind ≡ GuestPageFault
unfolding second_walk walk path end_of
far_walk memory mxr Sv39x4 ppn address kind far = rw (beyond address far) refl
far_walk memory mxr Sv48x4 ppn address kind far = rw far refl

-- so nothing is filled for it, and its fault is a guest-page fault
pub record IsFar (device : Bool) (v : Virtual) (ram : List ℕ) (u : MissingPlace) : Type 0 where
  pub none : entry_by_walk device v.csrs ram u.address u.kind ≡ None
  pub faults : missing_place_trap v.csrs (ram_memory ram) u ≡ guest_page_trap u

pub far_is : (device : Bool) (v : Virtual) (ram : List ℕ) (u : MissingPlace) → folds v ≡ true → u.mode ≡ v.mode → nat_lt u.address (2 ^ guest_bits) ≡ false
    → IsFar device v ram u
unfolding entry_by_walk
far_is device v ram u folding mode far = record {
  none = none v.csrs.hgatp;
  faults = ap (λ mode. missing_place_under (ram_memory ram) v.csrs.hs.status.mxr u (cond (is_virtual mode) v.csrs.hgatp root.Bare)) mode
      ∙ faults v.csrs.hgatp (is_virtual v.mode) folding;
}
  where
    none : (hgatp : GuestRoot) → entry_by_table device v.csrs.hs.status.mxr ram u.address u.kind hgatp ≡ None
    none root.Bare = refl
    none (root.Table table vmid ppn) = ap (entry_by_end device u.address) (far_walk (ram_memory ram) v.csrs.hs.status.mxr table ppn u.address u.kind far)

    faults : (hgatp : GuestRoot) (virtual : Bool) → (virtual && is_table hgatp) ≡ true
        → missing_place_under (ram_memory ram) v.csrs.hs.status.mxr u (cond virtual hgatp root.Bare) ≡ guest_page_trap u
    faults root.Bare true is = absurd cc
    faults hgatp false is = absurd cc
    faults (root.Table table vmid ppn) true is = ap (missing_place_by u) (far_walk (ram_memory ram) v.csrs.hs.status.mxr table ppn u.address u.kind far)
