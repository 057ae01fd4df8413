-- A guest that retires, among all.
use Rattle.std.proofs.Common.{◌≡◌, ◌≢◌, ℕ, ◌+◌, ◌*◌, ◌/◌, ◌<◌, ◌≤◌, ◌^◌, ◌⊎◌, inl, inr, Bool, true, false, List, [], ◌∷◌, length, get_or, set, slice_index, refl, ap, sym, subst, ◌∙◌, arith}
use Rattle.std.proofs.lemmas.Bool.{both_ways, cases_Bool, cases_eq}
use Rattle.std.proofs.lemmas.List.{get_or-set_other, get_or-set_same, get_or_default}
use Rattle.arch_defs.specs.Frames.{Apart, LieIn, Only, Same, Within, in_blocks}
use Rattle.arch_defs.specs.Layouts.{Layout, in_tables, named_by}
use Rattle.arch_defs.specs.Memory.{block_size, pasted, zeros}
use Rattle.arch_defs.specs.Ram.{SlicesLieIn, ram_of, slices}
use Rattle.arch_defs.proofs.FrameSets.{apart_sym, apart_within, block_found, joined_within, kept, left_within, only_both, only_more, only_none, right_within, within_apart}
use Rattle.block_moves.specs.Moves.{without_blocks}
use Rattle.block_moves.proofs.Blocks.{blocks_apart, first_frame, of_one, one_within}
use Rattle.block_moves.proofs.Copies.{cleared_only, cleared_zeros}
use Rattle.host_tables.specs.Walks.{IsHeld}
use Rattle.shadow_space.specs.Shadows.{AreZeros}
use Rattle.guest_exit.specs.declared.guests.Guest.{Guest}
use Rattle.guest_exit.specs.View.{machine_of}
use Rattle.hosted_steps.proofs.Followed.{blocks_held}
use Rattle.guest_turns.specs.Hosted.{Hosted, count_set, is_set, part_at, with_free}
use Rattle.guest_turns.specs.Hosting.{AreHosted, IsFree, IsHosted, parts_of}
use Rattle.guest_turns.specs.Moves.{HasRetired, emptied}
use Rattle.guest_turns.specs.TurnLists.{updated}
use Rattle.guest_turns.proofs.Among.{changed_hosted, free_from_part, machines_changed, machines_of, now_free, other_machine, parts_apart, parts_changed, seen_of, seen_part, still_free}
use Rattle.guest_turns.proofs.Flags.{freed, freed_counted}
use Rattle.guest_turns.proofs.Rooms.{small_room}

-- the first i blocks are zeros
pub record IsZeroing (blocks old : List ℕ) (i : ℕ) (memory : List ℕ) : Type 0 where
  pub zeros : (j : ℕ) → j < i → j < length blocks → AreZeros (in_blocks (slice_index blocks j ∷ [])) memory
  pub only : Only (in_blocks blocks) old memory

pub none_zeroed : (blocks memory : List ℕ) → IsZeroing blocks memory 0 memory
none_zeroed blocks memory = record { zeros = λ j before h. absurd (omega (arith, before)); only = only_none (in_blocks blocks) memory }

module _ (blocks old : List ℕ) (i : ℕ) (memory : List ℕ) where
  pub block_fits : SlicesLieIn block_size blocks (length old) → IsZeroing blocks old i memory → i < length blocks → slice_index blocks i * block_size + block_size ≤ length memory
  block_fits lie so inside = subst (λ n. slice_index blocks i * block_size + block_size ≤ n) (sym so.only.size) (lie i inside)

  pub one_zeroed : (new : List ℕ) → SlicesLieIn block_size blocks (length old) → IsZeroing blocks old i memory → i < length blocks
      → new ≡ pasted memory (slice_index blocks i * block_size) (zeros block_size) → IsZeroing blocks old (i + 1) new
  one_zeroed new lie so inside is = record {
    zeros = λ j before h. by j h (omega (arith, before)) (cases_eq (slice_index blocks j) (slice_index blocks i));
    only = only_both (in_blocks blocks) old memory new so.only (only_more (in_blocks (slice_index blocks i ∷ [])) (in_blocks blocks) memory new (one_within blocks i inside) only);
  }
    where
      fits : slice_index blocks i * block_size + block_size ≤ length memory
      fits = block_fits lie so inside

      only : Only (in_blocks (slice_index blocks i ∷ [])) memory new
      only = cleared_only (slice_index blocks i) memory new fits is

      here : AreZeros (in_blocks (slice_index blocks i ∷ [])) new
      here = cleared_zeros (slice_index blocks i) memory new fits is

      by : (j : ℕ) → j < length blocks → j ≤ i → (slice_index blocks j ≡ slice_index blocks i) ⊎ (slice_index blocks j ≢ slice_index blocks i)
          → AreZeros (in_blocks (slice_index blocks j ∷ [])) new
      by j h before (inl same) = subst (λ b. AreZeros (in_blocks (b ∷ [])) new) (sym same) here
      by j h before (inr other) =
          let earlier : j < i = first j before (λ e. other (ap (slice_index blocks) e)) in
          let was = so.zeros j earlier h in
          let same = kept (in_blocks (slice_index blocks j ∷ [])) (in_blocks (slice_index blocks i ∷ [])) memory new (blocks_apart (slice_index blocks j) (slice_index blocks i) other) only in
          record { each = λ at named. same.bytes at named ∙ was.each at named }
        where
          first : (j : ℕ) → j ≤ i → (j ≡ i → ⊥) → j < i
          first j below differs = omega (arith, below, differs)

  pub all_zeroed : IsZeroing blocks old i memory → length blocks ≤ i → AreZeros (in_blocks blocks) memory
  all_zeroed so all = record {
    each = λ at named.
        let found = block_found blocks (at / 4096) named in
        (so.zeros found.0 (omega (arith, found.1, all)) found.1).each at (of_one (slice_index blocks found.0) (at / 4096) found.2);
  }

-- a block of memory of at most 512 MiB is one of the first 256
pub block_small : (block size : ℕ) → block * 2097152 + 2097152 ≤ size → size ≤ 2 ^ 29 → block < 256
block_small block size fits small = omega (arith, fits, small)

pub own_blocks_small : (part : Layout) (memory : List ℕ) → IsHeld part memory → (i : ℕ) → i < length part.blocks → slice_index part.blocks i < 256
own_blocks_small part memory held i inside = block_small (slice_index part.blocks i) (length memory) (blocks_held part memory held i inside) held.size

-- a part without blocks names fewer frames
rest_within : (part : Layout) → Within (named_by (without_blocks part)) (named_by part)
rest_within part = joined_within (in_blocks []) (in_tables part) (named_by part) (λ frame named. absurd (both_ways false refl named)) (right_within (in_blocks part.blocks) (in_tables part))

-- a machine without RAM
no_ram : (memory : List ℕ) → ram_of [] memory ≡ []
unfolding slices
no_ram memory = refl

module _ (guests : List Guest) (retired free : List Bool) (memory : List ℕ) (all : AreHosted guests retired free memory) (g : ℕ) (g_in : g < length guests) (active : is_set retired g ≡ false)
    (flags : length retired ≡ 16) (blocks : length free ≡ 256) (old new : Guest) (changed : List ℕ) (free' retired' : List Bool) (is : old ≡ get_or guests g old)
    (new_is : new ≡ record old { part = without_blocks old.part }) (free_is : free' ≡ with_free old.part.blocks free) (retired_is : retired' ≡ set retired g true)
    (zeros : AreZeros (in_blocks old.part.blocks) changed) (only : Only (in_blocks old.part.blocks) memory changed) where
  there : old ≡ get_or guests g new
  there = is ∙ get_or_default guests g old new g_in

  hosted : IsHosted old memory
  hosted = subst (λ guest. IsHosted guest memory) (sym there) (all.each g new g_in active)

  own_part : new.part ≡ without_blocks old.part
  own_part = ap (λ guest. guest.part) new_is

  fits : g < length retired
  fits = let few = all.few in omega (arith, g_in, few, flags)

  -- the blocks are of the part, and no one else's
  blocks_within : Within (in_blocks old.part.blocks) (named_by old.part)
  blocks_within = left_within (in_blocks old.part.blocks) (in_tables old.part)

  other_apart : (i : ℕ) → i < length guests → i ≢ g → Apart (named_by (get_or guests i new).part) (named_by old.part)
  other_apart i i_in other = subst (λ guest. Apart (named_by (get_or guests i new).part) (named_by guest.part)) (sym there) (parts_apart guests i g new all.apart i_in g_in other)

  others : (i : ℕ) → i < length guests → i ≢ g → Same (named_by (get_or guests i new).part) memory changed
  others i i_in other =
      kept (named_by (get_or guests i new).part) (in_blocks old.part.blocks) memory changed
      (apart_within (named_by (get_or guests i new).part) (in_blocks old.part.blocks) (named_by old.part) blocks_within (other_apart i i_in other)) only

  new_within : Within (named_by new.part) (named_by old.part)
  new_within = subst (λ part. Within (named_by part) (named_by old.part)) (sym own_part) (rest_within old.part)

  apart_new : (i : ℕ) → i < length guests → i ≢ g → Apart (named_by (get_or guests i new).part) (named_by new.part)
  apart_new i i_in other = apart_within (named_by (get_or guests i new).part) (named_by new.part) (named_by old.part) new_within (other_apart i i_in other)

  -- a block that is free then
  was_apart : (block : ℕ) → IsFree block (parts_of guests) memory → Apart (in_blocks (block ∷ [])) (named_by old.part)
  was_apart block was = subst (λ guest. Apart (in_blocks (block ∷ [])) (named_by guest.part)) (sym there) (free_from_part guests block memory g new g_in was)

  still : (block : ℕ) → IsFree block (parts_of guests) memory → IsFree block (parts_of (set guests g new)) changed
  still block was =
      still_free guests retired free memory all g g_in new retired' free' changed (in_blocks old.part.blocks) block only was
      (apart_within (in_blocks (block ∷ [])) (in_blocks old.part.blocks) (named_by old.part) blocks_within (was_apart block was))
      (apart_within (in_blocks (block ∷ [])) (named_by new.part) (named_by old.part) new_within (was_apart block was))

  module _ (i : ℕ) (few : i < length old.part.blocks) where
    abbrev block : ℕ
    block = slice_index old.part.blocks i

    here_within : Within (in_blocks (block ∷ [])) (in_blocks old.part.blocks)
    here_within = one_within old.part.blocks i few

    in_part : Within (in_blocks (block ∷ [])) (named_by old.part)
    in_part frame named = blocks_within frame (here_within frame named)

    left : IsFree block (parts_of (set guests g new)) changed
    left =
        now_free guests retired free memory all g g_in new retired' free' changed block
        (subst (LieIn (in_blocks (block ∷ []))) (sym only.size) (λ frame named. hosted.placed.held.lies frame (in_part frame named)))
        (record { each = λ at named. zeros.each at (here_within (at / 4096) named) })
        (λ j j_in other. within_apart (in_blocks (block ∷ [])) (named_by old.part) (named_by (get_or guests j new).part) in_part (apart_sym (named_by (get_or guests j new).part) (named_by old.part) (other_apart j j_in other)))
        (subst (λ part. Apart (in_blocks (block ∷ [])) (named_by part)) (sym own_part) tables_apart)
      where
        tables_apart : Apart (in_blocks (block ∷ [])) (named_by (without_blocks old.part))
        tables_apart frame named = hosted.placed.once.tables frame (here_within frame named)

  then_free : (b : ℕ) → is_set free' b ≡ true → IsFree b (parts_of (set guests g new)) changed
  then_free b flag = by (freed old.part.blocks free b (subst (λ flags. is_set flags b ≡ true) free_is flag))
    where
      by : (is_set free b ≡ true) ⊎ ((i : ℕ) × (i < length old.part.blocks) × (slice_index old.part.blocks i ≡ b)) → IsFree b (parts_of (set guests g new)) changed
      by (inl was) = still b (all.spare b was)
      by (inr (i, few, at)) = subst (λ b. IsFree b (parts_of (set guests g new)) changed) at (left i few)

  -- none of the blocks was free
  none_free : (i : ℕ) → i < length old.part.blocks → is_set free (slice_index old.part.blocks i) ≡ false
  none_free i few = by (cases_Bool (is_set free (slice_index old.part.blocks i)))
    where
      b : ℕ
      b = slice_index old.part.blocks i

      by : (is_set free b ≡ true) ⊎ (is_set free b ≡ false) → is_set free b ≡ false
      by (inl flag) =
          absurd (both_ways (named_by old.part (b * 512)) (was_apart b (all.spare b flag) (b * 512) (of_one b (b * 512) (first_frame b)))
          (in_part i few (b * 512) (of_one b (b * 512) (first_frame b))))
      by (inr clear) = clear

  set_there : is_set retired' g ≡ true
  set_there = ap (λ flags. is_set flags g) retired_is ∙ get_or-set_same retired g true false fits

  set_others : (i : ℕ) → i ≢ g → is_set retired' i ≡ is_set retired i
  set_others i other = ap (λ flags. is_set flags i) retired_is ∙ get_or-set_other retired g i true false other

  pub still_hosted : AreHosted (set guests g new) retired' free' changed
  still_hosted =
      changed_hosted guests retired free memory all g g_in new retired' free' changed (λ not. absurd (both_ways (is_set retired' g) not set_there))
      (λ gone. record { blocks = ap (λ part. part.blocks) own_part; room = subst (λ n. n ≤ 256) (sym (ap (λ guest. guest.pool.most) new_is)) (small_room old memory hosted.placed) })
      set_others others apart_new then_free

  same_machines : machines_of (set guests g new) changed ≡ updated g emptied (machines_of guests memory)
  same_machines =
      machines_changed guests memory changed g new new emptied g_in
      (ap (λ guest. machine_of guest changed) new_is ∙ ap (λ ram. record (machine_of old memory) { ram = ram }) (no_ram changed) ∙ ap (λ guest. emptied (machine_of guest memory)) there)
      (λ i i_in other. other_machine guests retired free memory i new changed all i_in (others i i_in other))

  -- what is seen of all then
  pub has_retired : (host : Hosted) → seen_of guests memory free retired ≡ host → HasRetired host g (seen_of (set guests g new) changed free' retired')
  has_retired host seen = subst (λ host. HasRetired host g (seen_of (set guests g new) changed free' retired')) seen (record {
    machines = same_machines;
    retired = retired_is;
    parts = parts_changed guests g new new without_blocks g_in (own_part ∙ ap (λ guest. without_blocks guest.part) there);
    free = free_is ∙ ap (λ part. with_free part.blocks free) (sym part_is);
    count = ap count_set free_is ∙ freed_counted old.part.blocks free few none_free hosted.placed.once.distinct ∙ ap (λ part. count_set free + length part.blocks) (sym part_is);
    zeros = subst (λ part. AreZeros (in_blocks part.blocks) changed) (sym part_is) zeros;
    only = subst (λ part. Only (in_blocks part.blocks) memory changed) (sym part_is) only;
  })
    where
      part_is : part_at (parts_of guests) g ≡ old.part
      part_is = seen_part guests g old g_in is

      few : (i : ℕ) → i < length old.part.blocks → slice_index old.part.blocks i < length free
      few i inside = let small = own_blocks_small old.part memory hosted.placed.held i inside in omega (arith, small, blocks)
