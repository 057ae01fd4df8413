-- The place of an access lies in memory.
use Rattle.std.proofs.Common.{cond, ◌≡◌, ℕ, ◌+◌, ◌*◌, ◌/◌, ◌%◌, ◌<◌, ◌≤◌, ◌∙◌, Bool, true, false, List, Option, Some, None, length, refl, subst, arith}
use Rattle.std.specs.Prelude.{find, nat_le, nat_lt, ◌&&◌, not}
use Rattle.std.proofs.lemmas.Bool.{and_parts, leb-true, ltb-true}
use Rattle.arch_defs.specs.declared.first.FirstEntry.{FirstEntry}
use Rattle.arch_defs.specs.declared.first.Tag.{Tag}
use Rattle.arch_defs.specs.declared.modes.Access.{Access}
use Rattle.arch_defs.specs.declared.roots.GuestMode.{GuestMode}
use Rattle.arch_defs.specs.declared.roots.GuestRoot.{GuestRoot}
use Rattle.arch_defs.specs.declared.roots.GuestRoot.TheVariants as guest
use Rattle.arch_defs.specs.declared.roots.SupervisorRoot.{SupervisorRoot}
use Rattle.arch_defs.specs.declared.roots.SupervisorRoot.TheVariants as root
use Rattle.arch_defs.specs.declared.second_walks.SecondWalkEnd.TheVariants.{GuestPageFault, AccessFault}
use Rattle.arch_defs.specs.declared.second_walks.SecondWalkEnd.TheVariants as walk_end
use Rattle.arch_defs.specs.declared.walks.LeafPte.{LeafPte}
use Rattle.arch_defs.specs.declared.walks.Privilege.{Privilege}
use Rattle.arch_defs.specs.declared.walks.WalkEnd.{WalkEnd}
use Rattle.arch_defs.specs.declared.walks.WalkEnd.TheVariants.{Leaf, PageFault, FetchEnd}
use Rattle.arch_defs.specs.Devices.{is_on_device}
use Rattle.arch_defs.specs.FirstEntries.{HasGuestFrame, first_leaf, is_first_of, known_by, known_under}
use Rattle.arch_defs.specs.Memory.{bare, machine_memory}
use Rattle.arch_defs.specs.Permits.{permits_first, permits_second}
use Rattle.arch_defs.specs.Roots.{guest_shape}
use Rattle.arch_defs.specs.SecondStage.{guest_root_frame, has_frame_of, memory_words, place_under, second_end, second_under, second_walk, walked}
use Rattle.arch_defs.specs.Walk.{leaf_address, most_levels, walk}
use Rattle.arch_defs.specs.TableEntries.{leaf_with, span}
use Rattle.stage_walk.specs.Ends.{LeafFits}
use Rattle.two_stage_walk.specs.Places.{IsPlaceOf}
use Rattle.translation_buffer.specs.declared.contexts.Context.{Context}
use Rattle.translation_buffer.specs.Places.{Translator, passed_under, passed_by, placed_at, second_in, translated_place}
use Rattle.translation_buffer.proofs.KeptPlaces.{second_keeps}
use Rattle.translation_buffer.proofs.OnePage.{same_some}

-- inside memory
frame_inside : (place size : ℕ) → place / 4096 * 4096 + 4096 ≤ size → place < size
frame_inside place size fits = omega (arith, fits)

end_inside : (memory : List ℕ) (mxr : Bool) (address place : ℕ) (kind : Access) (end : WalkEnd)
    → place_under address (second_end (machine_memory memory) mxr address kind end) ≡ Some place → place < 0 + length memory
end_inside memory mxr address place kind (Leaf frame level r w x u) is = by (not (permits_second mxr kind leaf)) (has_frame_of (machine_memory memory) (leaf_address leaf address)) (is_on_device (leaf_address leaf address)) refl is
  where
    leaf : LeafPte
    leaf = leaf_with frame level r w x u

    by : (denied inside device : Bool) → has_frame_of (machine_memory memory) (leaf_address leaf address) ≡ inside
        → place_under address (cond denied GuestPageFault (cond inside (walk_end.Leaf leaf) (cond device (walk_end.Device leaf) AccessFault))) ≡ Some place → place < 0 + length memory
    by true inside device has is = absurd cc
    by false true device has is = subst (λ n. n < 0 + length memory) (same_some (leaf_address leaf address) place is)
        (frame_inside (leaf_address leaf address) (0 + length memory)
        (leb-true (leaf_address leaf address / 4096 * 4096 + 4096) (0 + length memory)
        (and_parts (nat_le 0 (leaf_address leaf address / 4096 * 4096)) (nat_le (leaf_address leaf address / 4096 * 4096 + 4096) (0 + length memory)) has).1))
    by false false true has is = absurd cc
    by false false false has is = absurd cc
end_inside memory mxr address place kind PageFault is = absurd cc
end_inside memory mxr address place kind (FetchEnd at trap) is = absurd cc

walked_inside : (memory : List ℕ) (mxr : Bool) (mode : GuestMode) (ppn address place : ℕ) (kind : Access) → walked (machine_memory memory) mxr (guest_shape mode) ppn address kind ≡ Some place → place < 0 + length memory
unfolding second_walk
walked_inside memory mxr mode ppn address place kind is = end_inside memory mxr address place kind (walk (memory_words (machine_memory memory)) (guest_root_frame ppn) (guest_shape mode) address kind) is

bare_inside : (memory : List ℕ) (address place : ℕ) (kind : Access) → bare (machine_memory memory) address kind ≡ Some place → place < 0 + length memory
bare_inside memory address place kind is = by (nat_le 0 address) (nat_lt address (0 + length memory)) refl is
  where
    by : (from to : Bool) → nat_lt address (0 + length memory) ≡ to → cond (from && to) (Some address) None ≡ Some place → place < 0 + length memory
    by true true less is = subst (λ n. n < 0 + length memory) (same_some address place is) (ltb-true address (0 + length memory) less)
    by true false less is = absurd cc
    by false to less is = absurd cc

second_inside : (memory : List ℕ) (mxr : Bool) (root : GuestRoot) (address place : ℕ) (kind : Access) → second_under (machine_memory memory) mxr root address kind ≡ Some place → place < 0 + length memory
second_inside memory mxr guest.Bare address place kind is = bare_inside memory address place kind is
second_inside memory mxr (guest.Table mode vmid ppn) address place kind is = walked_inside memory mxr mode ppn address place kind is

bare_offset : (va address : ℕ) → va ≡ address → address % 4096 ≡ va % 4096
bare_offset va address is = omega (arith, is)

leaf_offset : (frame va address : ℕ) → 4096 * frame + va % 4096 ≡ address → address % 4096 ≡ va % 4096
leaf_offset frame va address is = omega (arith, is)

known_offset : (who : Privilege) (va address : ℕ) (access : Access) (e : Option FirstEntry) → known_by who va access e ≡ Some address → address % 4096 ≡ va % 4096
known_offset who va address access None is = absurd cc
known_offset who va address access (Some e) is = by (permits_first who access (first_leaf e)) is
  where
    by : (fit : Bool) → cond fit (Some (leaf_address (first_leaf e) va)) None ≡ Some address → address % 4096 ≡ va % 4096
    by true is = leaf_offset e.frame va address (same_some (leaf_address (first_leaf e) va) address is)
    by false is = absurd cc

passed_offset : (first : List FirstEntry) (owner : Tag) (who : Privilege) (va address : ℕ) (access : Access) (atp : SupervisorRoot) → passed_by first owner who atp va access ≡ Some address → address % 4096 ≡ va % 4096
unfolding known_under
passed_offset first owner who va address access root.Bare is = bare_offset va address (same_some va address is)
passed_offset first owner who va address access (root.Table mode asid ppn) is = known_offset who va address access (find (is_first_of owner (root.Table mode asid ppn) (va / 4096)) first) is

pub placed_inside : (translated : Translator) (who : Privilege) (memory : List ℕ) (va place : ℕ) (access : Access) → length memory % 4096 ≡ 0
    → translated_place translated who memory va access ≡ Some place → IsPlaceOf (machine_memory memory) va place
placed_inside translated who memory va place access whole is = by (passed_under translated who va access) refl is
  where
    context : Context
    context = translated.context

    by : (found : Option ℕ) → passed_under translated who va access ≡ found → placed_at (second_in context memory) access found ≡ Some place → IsPlaceOf (machine_memory memory) va place
    by (Some address) at placed = record {
      from = omega arith;
      to = second_inside memory context.mxr context.second address place access placed;
      offset = second_keeps memory context.mxr context.second address place access whole placed
          ∙ passed_offset translated.first translated.owner who va address access context.first at;
    }
    by None at placed = absurd cc

-- the leaf of a cached translation
no_span : (frame : ℕ) → frame % span 0 ≡ 0
no_span frame = omega arith

pub leaf_of_entry_fits : (e : FirstEntry) → HasGuestFrame e → LeafFits most_levels (first_leaf e)
leaf_of_entry_fits e fits = record { frame = fits; level = omega arith; aligned = no_span e.frame }
