-- A guest one of whose blocks moves, among all.
use Rattle.std.proofs.Common.{◌≡◌, ◌≢◌, ℕ, ◌+◌, ◌*◌, ◌<◌, ◌⊎◌, inl, inr, Bool, true, false, List, [], ◌∷◌, Option, Some, None, length, get_or, set, slice_index, refl, ap, sym, subst, ◌∙◌, arith, length-set}
use Rattle.std.specs.Prelude.{◌&&◌, nat_le, nat_lt}
use Rattle.std.proofs.lemmas.Bool.{both_ways, cases_Bool, cases_eq}
use Rattle.std.proofs.lemmas.List.{get_or-set_other, get_or-set_same, get_or_default, length-map}
use Rattle.arch_defs.specs.Frames.{Apart, Frames, LieIn, Only, Same, Within, in_blocks, joined}
use Rattle.arch_defs.specs.Layouts.{Layout, NamesEachOnce, in_tables, named_by}
use Rattle.arch_defs.specs.Memory.{block_size, ram_base}
use Rattle.arch_defs.specs.Ram.{ram_of}
use Rattle.arch_defs.specs.Spaces.{Space}
use Rattle.arch_defs.proofs.FrameSets.{apart_sym, apart_within, kept, left_within, within_apart}
use Rattle.arch_defs.proofs.Naming.{apart_joined}
use Rattle.arch_defs.proofs.RamBlocks.{blocks_lie_in}
use Rattle.block_moves.specs.Moves.{with_block}
use Rattle.block_moves.proofs.Blocks.{apart_from_moved, blocks_apart, first_frame, of_one, one_within, with_within}
use Rattle.instruction_laws.specs.HostPlaces.{in_ram}
use Rattle.fill_laws.specs.Keeping.{IsOrderly}
use Rattle.instruction_laws.specs.Renaming.{ReservesWithin}
use Rattle.run_laws.specs.Reservations.{CachesInRam}
use Rattle.host_tables.specs.Walks.{IsHeld}
use Rattle.shadow_space.specs.Shadows.{AreZeros}
use Rattle.shadow_pool.specs.Moves.{pool_in_part, slot_in_part}
use Rattle.shadow_pool.specs.Slots.{Pooled, TidyPool, room_of, spaces_of}
use Rattle.guest_exit.specs.declared.guests.Guest.{Guest}
use Rattle.hosted_steps.specs.DevicePages.{CachesOwnDevice}
use Rattle.guest_exit.specs.View.{machine_of, platform_of}
use Rattle.guest_turns.specs.Hosted.{Hosted, count_set, is_set, part_at}
use Rattle.guest_turns.specs.Hosting.{AreHosted, IsFree, IsHosted, parts_of}
use Rattle.guest_turns.specs.Moves.{HasMoved}
use Rattle.guest_turns.proofs.Among.{changed_hosted, free_from_part, machines_changed, machines_of, now_free, other_machine, parts_apart, parts_changed, seen_of, seen_part, still_free}
use Rattle.guest_turns.proofs.Flags.{one_for_another}
use Rattle.guest_turns.proofs.Leaving.{block_small, own_blocks_small}
use Rattle.guest_turns.proofs.Updating.{updated_none}

-- what is reserved is in RAM of as many blocks
within_as_many : (old new : List ℕ) (reservation : Option (ℕ × ℕ)) → length new ≡ length old → ReservesWithin (in_ram old) reservation → ReservesWithin (in_ram new) reservation
within_as_many old new None count within = tt
within_as_many old new (Some (place, bytes)) count within =
    subst (λ n. (nat_le ram_base place && nat_lt place (ram_base + n * block_size)) ≡ true) (sym count) within

-- the guest itself: its machine is the same
module _ (old : Guest) (memory changed : List ℕ) (i to : ℕ) (part : Layout) (pool : Pooled) (hosted : IsHosted old memory) (part_is : part ≡ with_block old.part i to) (once : NamesEachOnce part)
    (held : IsHeld part changed) (ram : ram_of part.blocks changed ≡ ram_of old.part.blocks memory) (pool_is : pool ≡ pool_in_part part old.pool) (spaces : spaces_of pool ≡ spaces_of old.pool)
    (tidy : TidyPool pool changed) where
  abbrev shifted : Guest
  shifted = record old { part = part; pool = pool }

  pub same_machine : machine_of shifted changed ≡ machine_of old memory
  same_machine = with_these (ram_of part.blocks changed) (spaces_of pool) (room_of pool) pool.most ram spaces
      (ap room_of pool_is ∙ length-map old.pool.slots (slot_in_part part)) (ap (λ pool. pool.most) pool_is)
    where
      with_these : (ram' : List ℕ) (spaces' : List Space) (room most : ℕ) → ram' ≡ ram_of old.part.blocks memory → spaces' ≡ spaces_of old.pool → room ≡ room_of old.pool → most ≡ old.pool.most
          → (record { platform = platform_of old; ram = ram'; spaces = spaces'; space_room = room; entry_room = most; device = old.device }) ≡ machine_of old memory
      with_these ram' spaces' room most r s n e = rw (r, s, n, e) refl

  same_count : length part.blocks ≡ length old.part.blocks
  same_count = ap (λ part. length part.blocks) part_is ∙ length-set old.part.blocks i to

  pub then_hosted : IsHosted shifted changed
  then_hosted =
      let at = hosted.placed in
      record {
        placed = record {
          once = once;
          held = held;
          ram = refl;
          reserved = within_as_many old.part.blocks part.blocks old.virt.reservation same_count at.reserved;
          own = ap (λ pool. pool.part) pool_is;
          tidy = tidy;
          spaces = refl;
          space_room = refl;
          entry_room = refl;
          caches = subst CachesInRam (sym same_machine) at.caches;
          devices = subst CachesOwnDevice (sym same_machine) at.devices;
          orderly = subst IsOrderly (sym same_machine) at.orderly;
          storable = at.storable;
        };
        clock = hosted.clock;
        current = hosted.current;
      }

module _ (guests : List Guest) (retired free : List Bool) (memory : List ℕ) (all : AreHosted guests retired free memory) (g : ℕ) (g_in : g < length guests) (active : is_set retired g ≡ false)
    (flags : length free ≡ 256) (old : Guest) (is : old ≡ get_or guests g old) (i to : ℕ) (index : i < length old.part.blocks) (set_to : is_set free to ≡ true) where
  abbrev pub from : ℕ
  from = slice_index old.part.blocks i

  pub hosted : IsHosted old memory
  hosted = subst (λ guest. IsHosted guest memory) (sym is) (all.each g old g_in active)

  -- the new block is free, so apart from the part
  to_free : IsFree to (parts_of guests) memory
  to_free = all.spare to set_to

  free_of : (block : ℕ) → is_set free block ≡ true → Apart (in_blocks (block ∷ [])) (named_by old.part)
  free_of block flag = subst (λ guest. Apart (in_blocks (block ∷ [])) (named_by guest.part)) (sym is) (free_from_part guests block memory g old g_in (all.spare block flag))

  pub to_apart : Apart (in_blocks (to ∷ [])) (named_by old.part)
  to_apart = free_of to set_to

  pub to_lies : LieIn (in_blocks (to ∷ [])) (length memory)
  to_lies = to_free.lies

  pub to_small : to < 256
  to_small = block_small to (length memory) (blocks_lie_in (to ∷ []) (length memory) to_lies 0 (omega arith)) hosted.placed.held.size

  pub from_small : from < 256
  from_small = own_blocks_small old.part memory hosted.placed.held i index

  -- the old block was not
  blocks_within : Within (in_blocks old.part.blocks) (named_by old.part)
  blocks_within = left_within (in_blocks old.part.blocks) (in_tables old.part)

  from_within : Within (in_blocks (from ∷ [])) (named_by old.part)
  from_within frame named = blocks_within frame (one_within old.part.blocks i index frame named)

  not_free : is_set free from ≡ false
  not_free = by (cases_Bool (is_set free from))
    where
      by : (is_set free from ≡ true) ⊎ (is_set free from ≡ false) → is_set free from ≡ false
      by (inl flag) =
          absurd (both_ways (named_by old.part (from * 512)) (free_of from flag (from * 512) (of_one from (from * 512) (first_frame from)))
          (from_within (from * 512) (of_one from (from * 512) (first_frame from))))
      by (inr clear) = clear

  module _ (new : Guest) (changed : List ℕ) (free' : List Bool) (then_hosted : IsHosted new changed) (own_part : new.part ≡ with_block old.part i to)
      (machine : machine_of new changed ≡ machine_of old memory) (zeros : AreZeros (in_blocks (from ∷ [])) changed)
      (only : Only (joined (named_by old.part) (in_blocks (to ∷ []))) memory changed) (free_is : free' ≡ set (set free to false) from true) where
    abbrev both : Frames
    both = joined (named_by old.part) (in_blocks (to ∷ []))

    there : old ≡ get_or guests g new
    there = is ∙ get_or_default guests g old new g_in

    new_within : Within (named_by new.part) both
    new_within = subst (λ part. Within (named_by part) both) (sym own_part) (with_within old.part i to index)

    -- the others are apart from all that changed
    from_both : (i : ℕ) → i < length guests → i ≢ g → Apart (named_by (get_or guests i new).part) both
    from_both j j_in other =
        apart_joined (named_by (get_or guests j new).part) (named_by old.part) (in_blocks (to ∷ []))
        (subst (λ guest. Apart (named_by (get_or guests j new).part) (named_by guest.part)) (sym there) (parts_apart guests j g new all.apart j_in g_in other))
        (apart_sym (in_blocks (to ∷ [])) (named_by (get_or guests j new).part) (free_from_part guests to memory j new j_in to_free))

    others : (j : ℕ) → j < length guests → j ≢ g → Same (named_by (get_or guests j new).part) memory changed
    others j j_in other = kept (named_by (get_or guests j new).part) both memory changed (from_both j j_in other) only

    apart_new : (j : ℕ) → j < length guests → j ≢ g → Apart (named_by (get_or guests j new).part) (named_by new.part)
    apart_new j j_in other = apart_within (named_by (get_or guests j new).part) (named_by new.part) both new_within (from_both j j_in other)

    -- the blocks that are free then
    came_free : IsFree from (parts_of (set guests g new)) changed
    came_free =
        now_free guests retired free memory all g g_in new retired free' changed from
        (subst (LieIn (in_blocks (from ∷ []))) (sym only.size) (λ frame named. hosted.placed.held.lies frame (from_within frame named))) zeros
        (λ j j_in other. within_apart (in_blocks (from ∷ [])) (named_by old.part) (named_by (get_or guests j new).part) from_within
        (apart_sym (named_by (get_or guests j new).part) (named_by old.part)
        (subst (λ guest. Apart (named_by (get_or guests j new).part) (named_by guest.part)) (sym there) (parts_apart guests j g new all.apart j_in g_in other))))
        (subst (λ part. Apart (in_blocks (from ∷ [])) (named_by part)) (sym own_part) (apart_from_moved old.part i to hosted.placed.once index to_apart))

    stays_free : (b : ℕ) → is_set free b ≡ true → b ≢ to → IsFree b (parts_of (set guests g new)) changed
    stays_free b was other =
        still_free guests retired free memory all g g_in new retired free' changed both b only (all.spare b was) apart
        (apart_within (in_blocks (b ∷ [])) (named_by new.part) both new_within apart)
      where
        apart : Apart (in_blocks (b ∷ [])) both
        apart = apart_joined (in_blocks (b ∷ [])) (named_by old.part) (in_blocks (to ∷ [])) (free_of b was) (blocks_apart b to other)

    then_free : (b : ℕ) → is_set free' b ≡ true → IsFree b (parts_of (set guests g new)) changed
    then_free b is_free = by (cases_eq b from) (cases_eq b to)
      where
        flag : is_set (set (set free to false) from true) b ≡ true
        flag = subst (λ flags. is_set flags b ≡ true) free_is is_free

        to_in : to < length free
        to_in = omega (arith, to_small, flags)

        by : (b ≡ from) ⊎ (b ≢ from) → (b ≡ to) ⊎ (b ≢ to) → IsFree b (parts_of (set guests g new)) changed
        by (inl same) way = subst (λ b. IsFree b (parts_of (set guests g new)) changed) (sym same) came_free
        by (inr other) (inl same) =
            let now : is_set (set free to false) b ≡ true = sym (get_or-set_other (set free to false) from b true false other) ∙ flag in
            let gone : is_set (set free to false) b ≡ false = ap (is_set (set free to false)) same ∙ get_or-set_same free to false false to_in in
            absurd (both_ways (is_set (set free to false) b) gone now)
        by (inr other) (inr other') =
            stays_free b (sym (get_or-set_other free to b false false other') ∙ sym (get_or-set_other (set free to false) from b true false other) ∙ flag) other'

    pub still_hosted : AreHosted (set guests g new) retired free' changed
    still_hosted =
        changed_hosted guests retired free memory all g g_in new retired free' changed (λ a. then_hosted) (λ flag. absurd (both_ways (is_set retired g) active flag)) (λ j other. refl)
        others apart_new then_free

    same_machines : machines_of (set guests g new) changed ≡ machines_of guests memory
    same_machines =
        machines_changed guests memory changed g new new (λ m. m) g_in (machine ∙ ap (λ guest. machine_of guest memory) there)
        (λ j j_in other. other_machine guests retired free memory j new changed all j_in (others j j_in other))
        ∙ updated_none g (machines_of guests memory)

    -- what is seen of all then
    pub has_moved : (host : Hosted) → seen_of guests memory free retired ≡ host → HasMoved host g i to (seen_of (set guests g new) changed free' retired)
    has_moved host seen = subst (λ host. HasMoved host g i to (seen_of (set guests g new) changed free' retired)) seen (record {
      machines = same_machines;
      retired = refl;
      parts = parts_changed guests g new new (λ part. with_block part i to) g_in (own_part ∙ ap (λ guest. with_block guest.part i to) there);
      free = free_is ∙ ap (λ part. set (set free to false) (slice_index part.blocks i) true) (sym part_is);
      count = ap count_set free_is ∙ one_for_another free to from (omega (arith, to_small, flags)) (omega (arith, from_small, flags)) set_to not_free;
      zeros = subst (λ part. AreZeros (in_blocks (slice_index part.blocks i ∷ [])) changed) (sym part_is) zeros;
      only = subst (λ part. Only (joined (named_by part) (in_blocks (to ∷ []))) memory changed) (sym part_is) only;
    })
      where
        part_is : part_at (parts_of guests) g ≡ old.part
        part_is = seen_part guests g old g_in is
