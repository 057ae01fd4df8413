-- HLV, HLVX and HSV of a machine access its RAM alone.
use Rattle.std.specs.Prelude.{◌&&◌, not, nat_le}
use Rattle.std.proofs.Common.{cond, ◌≡◌, ℕ, ◌+◌, ◌*◌, ◌/◌, ◌%◌, ◌≤◌, Bool, true, false, Some, None, length, refl, subst, arith}
use Rattle.std.proofs.lemmas.Bool.{and_parts, leb-true}
use Rattle.arch_defs.specs.declared.second_walks.SecondWalkEnd.TheVariants.{GuestPageFault, AccessFault}
use Rattle.arch_defs.specs.declared.second_walks.SecondWalkEnd.TheVariants as guest
use Rattle.arch_defs.specs.declared.modes.Access.{Access}
use Rattle.arch_defs.specs.declared.roots.GuestRoot.{GuestRoot}
use Rattle.arch_defs.specs.declared.roots.GuestRoot.TheVariants as root
use Rattle.arch_defs.specs.declared.registers.Virtual.{Virtual}
use Rattle.arch_defs.specs.declared.walks.LeafPte.{LeafPte}
use Rattle.arch_defs.specs.declared.walks.WalkEnd.{WalkEnd}
use Rattle.arch_defs.specs.declared.walks.WalkEnd.TheVariants.{Leaf, PageFault, FetchEnd}
use Rattle.arch_defs.specs.Devices.{is_on_device}
use Rattle.arch_defs.specs.Memory.{Memory, SecondStage, bare, nothing_known, reading_of}
use Rattle.arch_defs.specs.Permits.{permits_second}
use Rattle.arch_defs.specs.Roots.{guest_shape}
use Rattle.arch_defs.specs.SecondStage.{guest_root_frame, has_frame_of, memory_words, place_under, second_end, second_root_of, second_under, second_walk}
use Rattle.arch_defs.specs.TableEntries.{leaf_with}
use Rattle.arch_defs.specs.Walk.{leaf_address, walk}
use Rattle.arch_defs.specs.Widths.{bytes_in}
use Rattle.op_defs.specs.declared.ops.DataAccess.{DataAccess}
use Rattle.machine_defs.specs.Answers.{is_device_now}
use Rattle.machine_defs.specs.Core.{Located, At, Fails, Faults, Misses, kind_of}
use Rattle.machine_defs.specs.HlvAccesses.{hlv_end, hlv_mode, hlv_outcome}
use Rattle.instruction_laws.specs.InstructionEnds.{HlvHas}
use Rattle.instruction_laws.specs.Renaming.{CompletionWithin, GivesWithin, IsRenamed, ReservesWithin}
use Rattle.run_laws.specs.Reservations.{places_from}
use Rattle.instruction_laws.proofs.Completions.{hlv_missed_has}
use Rattle.instruction_laws.proofs.Placed.{LocatedAlike, accessed_alike, leaf_keeps, nothing_keeps}
use Rattle.instruction_laws.proofs.Renaming.{completed_alike, unchanged}

-- a place in a frame of memory is in memory
in_frame : (base place size : ℕ) → (nat_le base (place / 4096 * 4096) && nat_le (place / 4096 * 4096 + 4096) (base + size)) ≡ true → places_from base size place ≡ true
in_frame base place size has = let parts = and_parts (nat_le base (place / 4096 * 4096)) (nat_le (place / 4096 * 4096 + 4096) (base + size)) has in
    let low = leb-true base (place / 4096 * 4096) parts.0 in let high = leb-true (place / 4096 * 4096 + 4096) (base + size) parts.1 in
    let from : base ≤ place = omega arith in let to : place + 1 ≤ base + size = omega arith in grind arith

-- the walk of a table gives places of memory alone, and so does Bare
end_held : (memory : Memory) (mxr : Bool) (address : ℕ) (kind : Access) (place : ℕ) (end : WalkEnd)
    → place_under address (second_end memory mxr address kind end) ≡ Some place → (places_from memory.base (length memory.bytes) place ≡ true) × (place % 4096 ≡ address % 4096)
end_held memory mxr address kind place (Leaf frame level r w x u) is =
    by (permits_second mxr kind leaf) (has_frame_of memory (leaf_address leaf address)) (is_on_device (leaf_address leaf address)) refl is
  where
    leaf : LeafPte
    leaf = leaf_with frame level r w x u

    by : (permitted has on : Bool) → has_frame_of memory (leaf_address leaf address) ≡ has
        → place_under address (cond (not permitted) GuestPageFault (cond has (guest.Leaf leaf) (cond on (guest.Device leaf) AccessFault))) ≡ Some place
        → (places_from memory.base (length memory.bytes) place ≡ true) × (place % 4096 ≡ address % 4096)
    by true true on has is = let e : leaf_address leaf address ≡ place = cc in
        subst (λ p. (places_from memory.base (length memory.bytes) p ≡ true) × (p % 4096 ≡ address % 4096)) e
        (in_frame memory.base (leaf_address leaf address) (length memory.bytes) has, leaf_keeps leaf.frame leaf.level address)
    by true false true has is = absurd cc
    by true false false has is = absurd cc
    by false has' on has is = absurd cc
end_held memory mxr address kind place PageFault is = absurd cc
end_held memory mxr address kind place (FetchEnd at trap) is = absurd cc

pub bare_held : (memory : Memory) → GivesWithin (places_from memory.base (length memory.bytes)) (bare memory)
bare_held memory address place access is = by (places_from memory.base (length memory.bytes) address) refl is
  where
    by : (b : Bool) → places_from memory.base (length memory.bytes) address ≡ b → cond b (Some address) None ≡ Some place
        → (places_from memory.base (length memory.bytes) place ≡ true) × (place % 4096 ≡ address % 4096)
    by true in_it is = let e : address ≡ place = cc in rw (← e) (in_it, refl)
    by false out is = absurd cc

under_held : (memory : Memory) (mxr : Bool) (hgatp : GuestRoot) → GivesWithin (places_from memory.base (length memory.bytes)) (second_under memory mxr hgatp)
unfolding second_walk
under_held memory mxr root.Bare = bare_held memory
under_held memory mxr (root.Table mode vmid ppn) = λ address place access is.
    end_held memory mxr address access place (walk (memory_words memory) (guest_root_frame ppn) (guest_shape mode) address access) is

-- so the instruction stores in memory alone, and leaves what is reserved
pub hlv_held : (device : Bool) (memory : Memory) (s : Virtual) → ReservesWithin (places_from memory.base (length memory.bytes)) s.reservation → (wanted : DataAccess)
    → HlvHas (CompletionWithin (places_from memory.base (length memory.bytes))) (hlv_outcome device memory s wanted)
hlv_held device memory s kept wanted =
    let same = unchanged (reading_of memory) (under_held memory s.csrs.hs.status.mxr (second_root_of s.csrs (hlv_mode s.csrs))) in
    by same _ (accessed_alike same nothing_known nothing_keeps s.csrs (hlv_mode s.csrs) wanted.address wanted.width (kind_of wanted.purpose))
  where
    by : {second : SecondStage} → IsRenamed (λ p. p) (places_from memory.base (length memory.bytes)) second (reading_of memory) second (reading_of memory)
        → (a : Located) → LocatedAlike (λ p. p) (places_from memory.base (length memory.bytes)) (bytes_in wanted.width) a a
        → HlvHas (CompletionWithin (places_from memory.base (length memory.bytes))) (hlv_end device memory s wanted a)
    by same (At place) (e, in_set, fits) = let alike = completed_alike same s kept wanted.width wanted.purpose place in_set fits in (alike.stores, alike.reserves)
    by same (Fails (Faults trap)) e = tt
    by same (Fails (Misses missing)) e =
        hlv_missed_has (CompletionWithin (places_from memory.base (length memory.bytes))) memory s.csrs missing (is_device_now device s.csrs memory missing)
