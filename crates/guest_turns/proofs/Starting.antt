-- Guests from their sources, in their parts of machine memory.
use Rattle.std.proofs.Common.{true, ◌≡◌, ◌≢◌, ℕ, ◌+◌, ◌*◌, ◌<◌, ◌≤◌, ◌^◌, ◌⊎◌, inl, inr, Bool, false, ◌-◌, List, [], ◌∷◌, ◌++◌, length, get_or, map, refl, ap, sym, subst, ◌∙◌, arith}
use Rattle.std.specs.List.{All}
use Rattle.std.proofs.lemmas.Bool.{both_ways, cases_eq}
use Rattle.std.proofs.lemmas.Grind.{same_number_lists}
use Rattle.std.proofs.lemmas.List.{ext_get_or, get_or-map, get_or_append_left, get_or_default, get_or_push, length-map, length_push}
use Rattle.arch_defs.specs.Frames.{Apart, Frames, LieIn, Only, Same, Within, in_blocks, most_frames, within}
use Rattle.arch_defs.specs.Layouts.{Layout, Meets, NamesEachOnce, host_frames, in_tables, named_by, no_part}
use Rattle.arch_defs.specs.Memory.{block_size, ram_base, zeros}
use Rattle.arch_defs.specs.Ram.{SlicesLieIn, host_place, ram_of}
use Rattle.arch_defs.specs.Spaces.{Space}
use Rattle.arch_defs.proofs.FrameSets.{apart_sym, apart_within, kept, left_within, only_both, only_more, range_parts, same_fewer, within_apart}
use Rattle.arch_defs.proofs.Images.{length_zeros}
use Rattle.arch_defs.proofs.RamBlocks.{blocks_lie_in, place_named, ram_kept, ram_length}
use Rattle.arch_defs.proofs.SlicesOf.{byte_of}
use Rattle.arch_defs.proofs.Rooms.{first_lies}
use Rattle.fill_laws.specs.Keeping.{IsOrderly}
use Rattle.frame_split.specs.Shares.{ArePairwiseApart, IsSplit, LeavesSpare, MeetEach, frames_with}
use Rattle.guest_save.specs.Laws.{IsRunnable}
use Rattle.guest_save.specs.Savable.{IsSavable}
use Rattle.guest_save.proofs.GoingOn.{savable_goes_on}
use Rattle.host_tables.specs.HostTable.{IsHostTable}
use Rattle.host_tables.specs.Walks.{IsHeld}
use Rattle.host_tables.proofs.Held.{host_in_part, host_in_tables, table_stays}
use Rattle.guest_settings.specs.declared.guests.GuestSpec.{GuestSpec}
use Rattle.instruction_laws.specs.HostPlaces.{in_ram, ram_size}
use Rattle.machine_defs.specs.Machine.{Machine, Platform, start, with_pending_lines}
use Rattle.instruction_laws.specs.Renaming.{ReservesWithin}
use Rattle.run_laws.specs.Reservations.{CachesInRam, places_from}
use Rattle.run_laws.specs.StorableStates.{IsStorable}
use Rattle.shadow_pool.specs.Slots as slots
use Rattle.shadow_pool.specs.Slots.{Pooled, TidyPool, pool_frames, room_of, spaces_of}
use Rattle.shadow_pool.proofs.Apart.{host_apart, pool_within, ram_apart}
use Rattle.shadow_pool.proofs.Front.{pool_lasts}
use Rattle.shadow_space.specs.Shadows.{AreZeros}
use Rattle.shadow_space.proofs.Clearing.{zeros_at}
use Rattle.guest_exit.specs.declared.guests.Guest.{Guest}
use Rattle.hosted_steps.specs.DevicePages.{CachesOwnDevice}
use Rattle.guest_exit.specs.View.{machine_of, platform_of}
use Rattle.guest_exit.proofs.Pools.{pool_in_part, size_of}
use Rattle.guest_turns.specs.declared.sources.Source.{Source}
use Rattle.guest_turns.specs.Hosted.{is_set, no_machine}
use Rattle.guest_turns.specs.Hosting.{AreHosted, AreLaidOut, AreMade, IsAtStart, IsFree, IsHosted, IsBesideRam, parts_of, space_tables}
use Rattle.machine_defs.specs.Bootable.{IsBootable}
use Rattle.guest_turns.specs.Sources.{AreBootableSources, IsBootableSource, machine_of_source, machines_of_sources, need_of_source, needs_of_sources}
use Rattle.guest_turns.proofs.Among.{machines_of}
use Rattle.guest_turns.proofs.Placing.{part_ram_kept}
use Rattle.guest_turns.proofs.Savables.{of_own_device, savable}

pub some_frames : (sources : List Source) (spare : ℕ) → 1 ≤ length sources → 1 ≤ frames_with (needs_of_sources sources) spare
some_frames [] spare some = absurd (omega (arith, some))
some_frames (source ∷ sources) spare some = omega arith

-- a part of the size that a guest needs
pub sized : (sources : List Source) (parts : List Layout) (i : ℕ) (source : Source) (part : Layout) → MeetEach (needs_of_sources sources) parts → i < length sources
    → source ≡ get_or sources i source → part ≡ get_or parts i part → Meets (need_of_source source) part
sized sources parts i source part meet inside source_is part_is =
    subst (λ part. Meets (need_of_source source) part) (sym part_is)
    (subst (λ need. Meets need (get_or parts i part)) need_is (meet i (need_of_source source) part needed))
  where
    needed : i < length (needs_of_sources sources)
    needed = rw (length-map sources need_of_source) inside

    need_is : get_or (needs_of_sources sources) i (need_of_source source) ≡ need_of_source source
    need_is = get_or-map need_of_source sources i source (need_of_source source) inside ∙ ap need_of_source (sym source_is)

-- a part for a guest, in memory of that many bytes
pub record IsPartFor (source : Source) (part : Layout) (size : ℕ) : Type 0 where
  pub bootable : IsBootableSource source
  pub meets : Meets (need_of_source source) part
  pub once : NamesEachOnce part
  pub lies : LieIn (named_by part) size

pub part_for : (sources : List Source) (parts : List Layout) (frames i : ℕ) (source : Source) (part : Layout) → All IsBootableSource sources
    → IsSplit (needs_of_sources sources) parts frames → i < length sources → source ≡ get_or sources i source → part ≡ get_or parts i part
    → IsPartFor source part (frames * 4096)
part_for sources parts frames i source part each split inside source_is part_is = record {
  bootable = subst IsBootableSource (sym source_is) (each i source inside);
  meets = sized sources parts i source part split.meet inside source_is part_is;
  once = subst NamesEachOnce (sym part_is) sound.0;
  lies = subst (λ part. LieIn (named_by part) (frames * 4096)) (sym part_is) sound.1;
}
  where
    sound : NamesEachOnce (get_or parts i part) × LieIn (named_by (get_or parts i part)) (frames * 4096)
    sound = split.sound i part (rw split.count (rw (length-map sources need_of_source) inside))

pub parts_count : (sources : List Source) (parts : List Layout) (frames : ℕ) → IsSplit (needs_of_sources sources) parts frames → length parts ≡ length sources
parts_count sources parts frames split = split.count ∙ length-map sources need_of_source

-- frames that are zeros stay so where their bytes stay
zeros_kept : (frames : Frames) (old new : List ℕ) → Same frames old new → AreZeros frames old → AreZeros frames new
zeros_kept frames old new same are = record { each = λ at is. same.bytes at is ∙ are.each at is }

-- before any part is laid out, all memory is zeros
pub none_laid : (sources : List Source) (parts : List Layout) (size : ℕ) (memory : List ℕ) → memory ≡ zeros size → AreLaidOut sources parts 0 0 memory
none_laid sources parts size memory is = record {
  ram = λ i s d h. absurd (omega (arith, h));
  tables = λ i d h. absurd (omega (arith, h));
  later = λ i d from h. record { each = λ at own. rw is (zeros_at size at) };
  spaces = λ i d from h. record { each = λ at own. rw is (zeros_at size at) };
  others = λ frames apart. record { each = λ at own. rw is (zeros_at size at) };
}

-- the frames for the tables of a part's spaces are of the part, apart from its blocks and its host table
spaces_in_part : (part : Layout) → Within (space_tables part) (named_by part)
spaces_in_part part = pool_within part part.spaces (omega arith)

blocks_leave : (part : Layout) (old new : List ℕ) → NamesEachOnce part → Only (in_blocks part.blocks) old new → Same (space_tables part) old new
blocks_leave part old new once only =
    kept (space_tables part) (in_blocks part.blocks) old new
    (apart_sym (in_blocks part.blocks) (space_tables part) (ram_apart part once part.spaces (omega arith))) only

table_leaves : (part : Layout) (old new : List ℕ) → NamesEachOnce part → Only (host_frames part) old new → Same (space_tables part) old new
table_leaves part old new once only =
    kept (space_tables part) (host_frames part) old new
    (apart_sym (host_frames part) (space_tables part) (host_apart part once part.spaces (omega arith))) only

-- the RAM of a part that is not laid out is zeros
pub ram_zeros : (part : Layout) (size : ℕ) (memory : List ℕ) → LieIn (named_by part) size → length memory ≡ size → AreZeros (in_blocks part.blocks) memory
    → ram_of part.blocks memory ≡ zeros (length part.blocks * block_size)
ram_zeros part size memory lies is are =
    same_number_lists (ram_of part.blocks memory) (zeros (length part.blocks * block_size)) (counted ∙ sym (length_zeros (length part.blocks * block_size)))
    (λ i h. by i (omega (arith, counted, h)) ∙ sym (zeros_at (length part.blocks * block_size) i))
  where
    lie : SlicesLieIn block_size part.blocks (length memory)
    lie = blocks_lie_in part.blocks (length memory) (first_lies (in_blocks part.blocks) (in_tables part) (length memory) (rw is lies))

    counted : length (ram_of part.blocks memory) ≡ length part.blocks * block_size
    counted = ram_length part.blocks memory lie

    by : (i : ℕ) → i < length part.blocks * block_size → get_or (ram_of part.blocks memory) i 0 ≡ 0
    by i h = byte_of block_size part.blocks memory i (omega arith) lie h ∙ are.each (host_place part.blocks i) (place_named part.blocks i h)

-- one part more is laid out
earlier : (i j : ℕ) → j < i + 1 → j ≢ i → j < i
earlier i j h other = omega (arith, h, other)

pub laid_more : (sources : List Source) (parts : List Layout) (frames i : ℕ) (source : Source) (part : Layout) (memory between new : List ℕ)
    → IsSplit (needs_of_sources sources) parts frames → length memory ≡ frames * 4096 → i < length sources → source ≡ get_or sources i source → part ≡ get_or parts i part
    → IsPartFor source part (frames * 4096) → AreLaidOut sources parts i 0 memory
    → ram_of part.blocks between ≡ (machine_of_source source).ram → Only (in_blocks part.blocks) memory between
    → IsHostTable part new → Only (host_frames part) between new → AreLaidOut sources parts (i + 1) 0 new
laid_more sources parts frames i source part memory between new split size inside source_is part_is for laid ram blocks table tables =
    record {
      ram = rams;
      tables = each_table;
      later = each_later;
      spaces = each_spaces;
      others = λ frames apart.
          zeros_kept frames memory new
          (kept frames (named_by part) memory new (subst (λ part. Apart frames (named_by part)) (at_i part) (apart i part (rw count inside))) only)
          (laid.others frames apart);
    }
  where
    count : length parts ≡ length sources
    count = split.count ∙ length-map sources need_of_source

    only : Only (named_by part) memory new
    only = only_both (named_by part) memory between new
        (only_more (in_blocks part.blocks) (named_by part) memory between (left_within (in_blocks part.blocks) (in_tables part)) blocks)
        (only_more (host_frames part) (named_by part) between new (host_in_part part) tables)

    at_i : (d : Layout) → get_or parts i d ≡ part
    at_i d = get_or_default parts i d part (rw count inside) ∙ sym part_is

    others : (j : ℕ) (d : Layout) → j < length sources → j ≢ i → Same (named_by (get_or parts j d)) memory new
    others j d h other =
        kept (named_by (get_or parts j d)) (named_by part) memory new
        (rw (← at_i d) (split.apart j i d (rw count h) (rw count inside) other)) only

    own_ram : ram_of part.blocks new ≡ (machine_of_source source).ram
    own_ram =
        ram_kept part.blocks between new (rw blocks.size (blocks_lie_in part.blocks (length memory) (first_lies (in_blocks part.blocks) (in_tables part) (length memory) (rw size for.lies))))
        (kept (in_blocks part.blocks) (host_frames part) between new
        (apart_within (in_blocks part.blocks) (host_frames part) (in_tables part) (host_in_tables part) for.once.tables) tables)
        ∙ ram

    rams : (j : ℕ) (s : Source) (d : Layout) → j < i + 1 → ram_of (get_or parts j d).blocks new ≡ (machine_of_source (get_or sources j s)).ram
    rams j s d h = by (cases_eq j i)
      where
        there : get_or sources i s ≡ source
        there = get_or_default sources i s source inside ∙ sym source_is

        by : (j ≡ i) ⊎ (j ≡ i → ⊥) → ram_of (get_or parts j d).blocks new ≡ (machine_of_source (get_or sources j s)).ram
        by (inl same) =
            subst (λ j. ram_of (get_or parts j d).blocks new ≡ (machine_of_source (get_or sources j s)).ram) (sym same)
            (ap (λ part. ram_of part.blocks new) (at_i d) ∙ own_ram ∙ ap (λ source. (machine_of_source source).ram) (sym there))
        by (inr other) =
            let before : j < i = earlier i j h other in
            let j_in : j < length sources = omega (arith, before, inside) in
            part_ram_kept (get_or parts j d) memory new (others j d j_in other)
            (blocks_lie_in (get_or parts j d).blocks (length memory) (first_lies (in_blocks (get_or parts j d).blocks) (in_tables (get_or parts j d)) (length memory)
            (rw size (split.sound j d (rw count j_in)).1)))
            ∙ laid.ram j s d before

    each_table : (j : ℕ) (d : Layout) → j < i + 1 → IsHostTable (get_or parts j d) new
    each_table j d h = by (cases_eq j i)
      where
        by : (j ≡ i) ⊎ (j ≡ i → ⊥) → IsHostTable (get_or parts j d) new
        by (inl same) = subst (λ j. IsHostTable (get_or parts j d) new) (sym same) (rw (at_i d) table)
        by (inr other) =
            let before : j < i = earlier i j h other in
            let j_in : j < length sources = omega (arith, before, inside) in
            table_stays (get_or parts j d) memory new
            (same_fewer (host_frames (get_or parts j d)) (named_by (get_or parts j d)) memory new (host_in_part (get_or parts j d)) (others j d j_in other))
            (laid.tables j d before)

    each_later : (j : ℕ) (d : Layout) → i + 1 ≤ j → j < length parts → AreZeros (in_blocks (get_or parts j d).blocks) new
    each_later j d from h =
        let j_in : j < length sources = rw count at h in
        let other : j ≢ i = λ same. absurd (omega (arith, from, same)) in
        zeros_kept (in_blocks (get_or parts j d).blocks) memory new
        (same_fewer (in_blocks (get_or parts j d).blocks) (named_by (get_or parts j d)) memory new
        (left_within (in_blocks (get_or parts j d).blocks) (in_tables (get_or parts j d))) (others j d j_in other))
        (laid.later j d (omega (arith, from)) h)

    each_spaces : (j : ℕ) (d : Layout) → 0 ≤ j → j < length parts → AreZeros (space_tables (get_or parts j d)) new
    each_spaces j d from h = by (cases_eq j i)
      where
        j_in : j < length sources
        j_in = rw count at h

        by : (j ≡ i) ⊎ (j ≡ i → ⊥) → AreZeros (space_tables (get_or parts j d)) new
        by (inl same) =
            let own : AreZeros (space_tables part) memory = subst (λ part. AreZeros (space_tables part) memory) (at_i d) (subst (λ j. AreZeros (space_tables (get_or parts j d)) memory) same (laid.spaces j d from h)) in
            let between_own = zeros_kept (space_tables part) memory between (blocks_leave part memory between for.once blocks) own in
            let new_own = zeros_kept (space_tables part) between new (table_leaves part between new for.once tables) between_own in
            subst (λ j. AreZeros (space_tables (get_or parts j d)) new) (sym same) (subst (λ part. AreZeros (space_tables part) new) (sym (at_i d)) new_own)
        by (inr other) =
            zeros_kept (space_tables (get_or parts j d)) memory new
            (same_fewer (space_tables (get_or parts j d)) (named_by (get_or parts j d)) memory new (spaces_in_part (get_or parts j d)) (others j d j_in other))
            (laid.spaces j d from h)

-- the frames of a pool of a part that has a table for each of the part's spaces
pub pool_frames_are : (part : Layout) (pool : Pooled) → pool.part ≡ part → room_of pool ≡ part.spaces → pool_frames pool ≡ space_tables part
pool_frames_are part pool own room = ap (λ part. slots.table_frames_for part (room_of pool)) own ∙ ap (slots.table_frames_for part) room

-- a new pool is tidy in memory in which these frames are zeros
pub tidy_new : (part : Layout) (pool : Pooled) (memory : List ℕ) → pool.part ≡ part → room_of pool ≡ part.spaces
    → ((memory : List ℕ) → LieIn (pool_frames pool) (length memory) → AreZeros (pool_frames pool) memory → TidyPool pool memory)
    → LieIn (named_by part) (length memory) → AreZeros (space_tables part) memory → TidyPool pool memory
tidy_new part pool memory own room tidy lies zeros =
    let same = pool_frames_are part pool own room in
    tidy memory
    (λ frame is. lies frame (spaces_in_part part frame (subst (λ frames. frames frame ≡ true) same is)))
    (subst (λ frames. AreZeros frames memory) (sym same) zeros)

-- a guest at its start is made
pub made_at_start : (spec : GuestSpec) (part : Layout) (guest : Guest) (memory : List ℕ) → IsAtStart spec part guest → part.spaces ≡ spec.spaces
    → LieIn (named_by part) (length memory) → AreZeros (space_tables part) memory → IsBesideRam (start spec) part guest memory
unfolding start
made_at_start spec part guest memory at spaces lies zeros = record {
  own_part = at.own_part;
  own_pool = at.pool.part;
  platform = at.platform;
  spaces = at.pool.spaces;
  space_room = at.spaces;
  entry_room = at.entries;
  device = at.device;
  tidy = tidy_new part guest.pool memory at.pool.part (at.spaces ∙ sym spaces) at.pool.tidy lies zeros;
}

-- one that is made stays so where its part stays
made_kept : (m : Machine) (part : Layout) (guest : Guest) (old new : List ℕ) → Same (named_by part) old new → IsBesideRam m part guest old → IsBesideRam m part guest new
made_kept m part guest old new same made = record {
  own_part = made.own_part;
  own_pool = made.own_pool;
  platform = made.platform;
  spaces = made.spaces;
  space_room = made.space_room;
  entry_room = made.entry_room;
  device = made.device;
  tidy = pool_lasts guest.pool old new
      (same_fewer (pool_frames guest.pool) (named_by part) old new (pool_in_part part guest.pool old made.own_pool made.tidy) same) made.tidy;
}

-- one guest more is made
module _ (sources : List Source) (parts : List Layout) (i : ℕ) (part : Layout) (memory new : List ℕ) (inside : i < length parts) (part_is : part ≡ get_or parts i part)
    (apart : ArePairwiseApart parts) (only : Only (space_tables part) memory new) where
  at_part : (d : Layout) → get_or parts i d ≡ part
  at_part d = get_or_default parts i d part inside ∙ sym part_is

  -- the other parts are apart from the tables of its spaces
  other_apart : (j : ℕ) (d : Layout) → j < length parts → j ≢ i → Apart (named_by (get_or parts j d)) (space_tables part)
  other_apart j d h other =
      apart_within (named_by (get_or parts j d)) (space_tables part) (named_by part) (spaces_in_part part)
      (subst (λ p. Apart (named_by (get_or parts j d)) (named_by p)) (at_part d) (apart j i d h inside other))

  other_same : (j : ℕ) (d : Layout) → j < length parts → j ≢ i → Same (named_by (get_or parts j d)) memory new
  other_same j d h other = kept (named_by (get_or parts j d)) (space_tables part) memory new (other_apart j d h other) only

  pub made_more : (guests : List Guest) (source : Source) (guest : Guest) → i ≡ length sources → AreMade sources parts guests memory
      → IsBesideRam (machine_of_source source) part guest new → AreMade (sources ++ source ∷ []) parts (guests ++ guest ∷ []) new
  made_more guests source guest at so_far one =
      record { count = length_push guests guest ∙ ap (λ n. n + 1) so_far.count ∙ sym (length_push sources source); each = each }
    where
      each : (j : ℕ) (s : Source) (p : Layout) (d : Guest) → j < length (sources ++ source ∷ [])
          → IsBesideRam (machine_of_source (get_or (sources ++ source ∷ []) j s)) (get_or parts j p) (get_or (guests ++ guest ∷ []) j d) new
      each j s p d h = by (cases_eq j i)
        where
          there : IsBesideRam (machine_of_source (get_or (sources ++ source ∷ []) i s)) (get_or parts i p) (get_or (guests ++ guest ∷ []) i d) new
          there = rw (get_or_push sources source s i (sym at), at_part p, get_or_push guests guest d i (so_far.count ∙ sym at)) one

          by : (j ≡ i) ⊎ (j ≡ i → ⊥) → IsBesideRam (machine_of_source (get_or (sources ++ source ∷ []) j s)) (get_or parts j p) (get_or (guests ++ guest ∷ []) j d) new
          by (inl same) = subst (λ j. IsBesideRam (machine_of_source (get_or (sources ++ source ∷ []) j s)) (get_or parts j p) (get_or (guests ++ guest ∷ []) j d) new) (sym same) there
          by (inr other) =
              let before : j < length sources = omega (arith, length_push sources source, h, at, other) in
              let guest_in : j < length guests = omega (arith, before, so_far.count) in
              let part_in : j < length parts = omega (arith, before, at, inside) in
              rw (get_or_append_left sources (source ∷ []) s j before, get_or_append_left guests (guest ∷ []) d j guest_in)
              (made_kept (machine_of_source (get_or sources j s)) (get_or parts j p) (get_or guests j d) memory new (other_same j p part_in other) (so_far.each j s p d before))

  -- what is laid out stays so, but for the tables of its spaces
  pub laid_made : (all : List Source) → length all ≡ length parts → NamesEachOnce part
      → ((j : ℕ) (d : Layout) → j < length parts → SlicesLieIn block_size (get_or parts j d).blocks (length memory))
      → AreLaidOut all parts (length all) i memory → AreLaidOut all parts (length all) (i + 1) new
  laid_made all count once lie laid = record {
    ram = λ j s d h.
        ram_kept (get_or parts j d).blocks memory new (lie j d (rw count at h))
        (kept (in_blocks (get_or parts j d).blocks) (space_tables part) memory new
        (apart_at j d (λ p. in_blocks p.blocks) (rw count at h) (λ p. left_within (in_blocks p.blocks) (in_tables p)) (ram_apart part once part.spaces (omega arith))) only)
        ∙ laid.ram j s d h;
    tables = λ j d h.
        table_stays (get_or parts j d) memory new
        (kept (host_frames (get_or parts j d)) (space_tables part) memory new
        (apart_at j d host_frames (rw count at h) host_in_part (host_apart part once part.spaces (omega arith))) only)
        (laid.tables j d h);
    later = λ j d from h. absurd (omega (arith, from, h, count));
    spaces = λ j d from h.
        let other : j ≢ i = λ same. absurd (omega (arith, from, same)) in
        zeros_kept (space_tables (get_or parts j d)) memory new
        (same_fewer (space_tables (get_or parts j d)) (named_by (get_or parts j d)) memory new (spaces_in_part (get_or parts j d)) (other_same j d h other))
        (laid.spaces j d (omega (arith, from)) h);
    others = λ frames away.
        zeros_kept frames memory new
        (kept frames (space_tables part) memory new
        (apart_within frames (space_tables part) (named_by part) (spaces_in_part part) (subst (λ p. Apart frames (named_by p)) (at_part part) (away i part inside))) only)
        (laid.others frames away);
  }
    where
      apart_at : (j : ℕ) (d : Layout) (frames : Layout → Frames) → j < length parts → ((p : Layout) → Within (frames p) (named_by p))
          → Apart (frames part) (space_tables part) → Apart (frames (get_or parts j d)) (space_tables part)
      apart_at j d frames h inner own = by (cases_eq j i)
        where
          by : (j ≡ i) ⊎ (j ≡ i → ⊥) → Apart (frames (get_or parts j d)) (space_tables part)
          by (inl same) = subst (λ p. Apart (frames p) (space_tables part)) (sym (ap (λ j. get_or parts j d) same ∙ at_part d)) own
          by (inr other) =
              within_apart (frames (get_or parts j d)) (named_by (get_or parts j d)) (space_tables part) (inner (get_or parts j d)) (other_apart j d h other)

-- the blocks of each part lie in memory
pub blocks_lie : (sources : List Source) (parts : List Layout) (frames : ℕ) (memory : List ℕ) → IsSplit (needs_of_sources sources) parts frames → length memory ≡ frames * 4096
    → (j : ℕ) (d : Layout) → j < length parts → SlicesLieIn block_size (get_or parts j d).blocks (length memory)
blocks_lie sources parts frames memory split size j d h =
    blocks_lie_in (get_or parts j d).blocks (length memory)
    (first_lies (in_blocks (get_or parts j d).blocks) (in_tables (get_or parts j d)) (length memory) (rw size (split.sound j d h).1))

memory_size : (frames size : ℕ) → frames ≤ most_frames → size ≡ frames * 4096 → size ≤ 2 ^ 29
memory_size frames size few is = omega (arith, few, is)

-- a guest that is made is its machine, wherever its RAM is the machine's
as_parts : (platform : Platform) (ram : List ℕ) (spaces : List Space) (space_room entry_room : ℕ) (device : Bool) (m : Machine) → platform ≡ m.platform → ram ≡ m.ram
    → spaces ≡ m.spaces → space_room ≡ m.space_room → entry_room ≡ m.entry_room → device ≡ m.device
    → (record { platform = platform; ram = ram; spaces = spaces; space_room = space_room; entry_room = entry_room; device = device }) ≡ m
as_parts platform ram spaces space_room entry_room device m p r e s n d = rw (p, r, e, s, n, d) refl

machine_made : (m : Machine) (part : Layout) (guest : Guest) (memory : List ℕ) → IsBesideRam m part guest memory → ram_of part.blocks memory ≡ m.ram → machine_of guest memory ≡ m
machine_made m part guest memory made ram =
    as_parts (platform_of guest) (ram_of guest.part.blocks memory) (spaces_of guest.pool) (room_of guest.pool) guest.pool.most guest.device m made.platform
    (ap (λ part. ram_of part.blocks memory) made.own_part ∙ ram) made.spaces made.space_room made.entry_room made.device

hosted_made : (m : Machine) (part : Layout) (guest : Guest) (memory : List ℕ) → IsSavable m → IsBesideRam m part guest memory → NamesEachOnce part → IsHeld part memory
    → ram_of part.blocks memory ≡ m.ram → IsHosted guest memory
hosted_made m part guest memory savable made once held ram = record {
  placed = record {
    once = subst NamesEachOnce (sym made.own_part) once;
    held = subst (λ part. IsHeld part memory) (sym made.own_part) held;
    ram = refl;
    reserved = in_ram_reserved;
    own = made.own_pool ∙ sym made.own_part;
    tidy = made.tidy;
    spaces = refl;
    space_room = refl;
    entry_room = refl;
    caches = subst CachesInRam (sym machine) goes.caches;
    devices = subst CachesOwnDevice (sym machine) (of_own_device m savable);
    orderly = subst IsOrderly (sym machine) goes.orderly;
    storable = subst (λ p. IsStorable p.virt) (sym made.platform) savable.virt;
  };
  clock = subst (λ p. p.clock.time ≤ 2 ^ 62 + p.steps) (sym made.platform) savable.clock;
  current = ap with_pending_lines made.platform ∙ savable.lines ∙ sym made.platform;
}
  where
    machine : machine_of guest memory ≡ m
    machine = machine_made m part guest memory made ram

    goes : IsRunnable m
    goes = savable_goes_on m savable

    -- RAM has the size of the part's blocks
    size : length m.ram ≡ ram_size part.blocks
    size = ap length (sym ram) ∙ size_of part memory held

    in_ram_reserved : ReservesWithin (in_ram guest.part.blocks) guest.virt.reservation
    in_ram_reserved =
        subst (λ part. ReservesWithin (in_ram part.blocks) guest.virt.reservation) (sym made.own_part)
        (subst (λ p. ReservesWithin (in_ram part.blocks) p.virt.reservation) (sym made.platform)
        (subst (λ n. ReservesWithin (places_from ram_base n) m.platform.virt.reservation) size goes.reserves))

-- a spare block is free
module _ (parts : List Layout) (sources : List Source) (first spare frames made : ℕ) (memory : List ℕ) (leaves : LeavesSpare first spare parts frames) (size : length memory ≡ frames * 4096)
    (laid : AreLaidOut sources parts (length sources) made memory) where
  spare_free : (k : ℕ) → k < spare → IsFree (first + k) parts memory
  spare_free k few = record {
    lies = subst (LieIn (in_blocks ((first + k) ∷ []))) (sym size) (leaves.lies k few);
    apart = λ i d h. leaves.apart k i d few h;
    zero = laid.others (in_blocks ((first + k) ∷ [])) (λ i d h. leaves.apart k i d few h);
  }

  is_free : (block : ℕ) → within first spare block ≡ true → IsFree block parts memory
  is_free block inside =
      let range = range_parts first spare block inside in
      let place : first + (block - first) ≡ block = omega (arith, range.0) in
      subst (λ block. IsFree block parts memory) place (spare_free (block - first) (omega (arith, range.0, range.1)))

-- what was booted
pub record AreBooted (sources : List Source) (parts : List Layout) (guests : List Guest) (retired free : List Bool) (memory : List ℕ) : Type 0 where
  pub hosted : AreHosted guests retired free memory
  pub machines : machines_of guests memory ≡ machines_of_sources sources
  pub parts_are : parts_of guests ≡ parts

-- the flags of no guest, and of the spare blocks alone, are set
pub record AreFlags (first spare : ℕ) (retired free : List Bool) : Type 0 where
  pub none : (g : ℕ) → is_set retired g ≡ false
  pub spares : (block : ℕ) → is_set free block ≡ within first spare block

booted_from : (first : Source) (one : Guest) (sources : List Source) (parts : List Layout) (frames block spare made : ℕ) (guests : List Guest) (retired free : List Bool) (memory : List ℕ) → length sources ≤ 16
    → All IsBootableSource sources → IsSplit (needs_of_sources sources) parts frames → LeavesSpare block spare parts frames → AreFlags block spare retired free → frames ≤ most_frames → length memory ≡ frames * 4096
    → AreLaidOut sources parts (length sources) made memory → AreMade sources parts guests memory → AreBooted sources parts guests retired free memory
booted_from first one sources parts frames block spare made guests retired free memory few bootable split leaves flags most size laid are = record {
  hosted = record {
    few = rw are.count few;
    each = λ i d h active. each i d h;
    gone = λ i d h set. absurd (both_ways (is_set retired i) (flags.none i) set);
    apart = rw parts_are split.apart;
    spare = λ b set. subst (λ parts. IsFree b parts memory) (sym parts_are) (is_free parts sources block spare frames made memory leaves size laid b (sym (flags.spares b) ∙ set));
  };
  machines = machines;
  parts_are = parts_are;
}
  where
    count : length parts ≡ length sources
    count = parts_count sources parts frames split

    parts_are : parts_of guests ≡ parts
    parts_are =
        ext_get_or no_part (parts_of guests) parts (length-map guests (λ guest. guest.part) ∙ are.count ∙ sym count)
        (λ i h.
        let guest_in : i < length guests = rw (length-map guests (λ guest. guest.part)) at h in
        get_or-map (λ guest. guest.part) guests i one no_part guest_in ∙ (are.each i first no_part one (rw are.count at guest_in)).own_part)

    each : (i : ℕ) (d : Guest) → i < length guests → IsHosted (get_or guests i d) memory
    each i d h =
        let inside : i < length sources = rw are.count at h in
        let sound = split.sound i no_part (rw count inside) in
        hosted_made (machine_of_source (get_or sources i first)) (get_or parts i no_part) (get_or guests i d) memory (savable (get_or sources i first) (bootable i first inside))
        (are.each i first no_part d inside) sound.0
        (record { size = memory_size frames (length memory) most size; lies = rw size sound.1; table = laid.tables i no_part inside })
        (laid.ram i first no_part inside)

    machines : machines_of guests memory ≡ machines_of_sources sources
    machines =
        ext_get_or no_machine (machines_of guests memory) (machines_of_sources sources)
        (length-map guests (λ guest. machine_of guest memory) ∙ are.count ∙ sym (length-map sources machine_of_source))
        (λ i h.
        let guest_in : i < length guests = rw (length-map guests (λ guest. machine_of guest memory)) at h in
        let inside : i < length sources = rw are.count at guest_in in
        get_or-map (λ guest. machine_of guest memory) guests i one no_machine guest_in
        ∙ machine_made (machine_of_source (get_or sources i first)) (get_or parts i no_part) (get_or guests i one) memory (are.each i first no_part one inside) (laid.ram i first no_part inside)
        ∙ sym (get_or-map machine_of_source sources i first no_machine inside))

pub booted : (sources : List Source) (parts : List Layout) (frames block spare made : ℕ) (guests : List Guest) (retired free : List Bool) (memory : List ℕ) → 1 ≤ length sources → length sources ≤ 16
    → All IsBootableSource sources → IsSplit (needs_of_sources sources) parts frames → LeavesSpare block spare parts frames → AreFlags block spare retired free → frames ≤ most_frames → length memory ≡ frames * 4096
    → AreLaidOut sources parts (length sources) made memory → AreMade sources parts guests memory → AreBooted sources parts guests retired free memory
booted [] parts frames block spare made guests retired free memory some few bootable split leaves flags most size laid are = absurd (omega (arith, some))
booted (first ∷ sources) parts frames block spare made [] retired free memory some few bootable split leaves flags most size laid are = absurd (omega (arith, are.count))
booted (first ∷ sources) parts frames block spare made (one ∷ guests) retired free memory some few bootable split leaves flags most size laid are =
    booted_from first one (first ∷ sources) parts frames block spare made (one ∷ guests) retired free memory few bootable split leaves flags most size laid are

-- so no step is made at the start
no_steps : (spec : GuestSpec) → (start spec).platform.steps ≡ 0
unfolding start
no_steps spec = refl

steps_zero : (specs : List GuestSpec) → All (λ m. m.platform.steps ≡ 0) (map start specs)
steps_zero [] g d inside = absurd (omega (arith, inside))
steps_zero (first ∷ specs) g d inside =
    ap (λ m. m.platform.steps) (get_or-map start (first ∷ specs) g first d (rw length-map at inside)) ∙ no_steps (get_or (first ∷ specs) g first)

pub none_made : (specs : List GuestSpec) (machines : List Machine) → machines ≡ map start specs → All (λ m. m.platform.steps ≡ 0) machines
none_made specs machines is = subst (All (λ m. m.platform.steps ≡ 0)) (sym is) (steps_zero specs)

-- and spaces have room for few entries
room_of_start : (spec : GuestSpec) → (start spec).entry_room ≡ spec.entries
unfolding start
room_of_start spec = refl

pub rooms_of : (specs : List GuestSpec) → All IsBootable specs → All (λ m. m.entry_room ≤ 256) (map start specs)
rooms_of [] each i d inside = absurd (omega (arith, inside))
rooms_of (first ∷ specs) each i d inside =
    let there : i < length (first ∷ specs) = rw length-map at inside in
    rw (get_or-map start (first ∷ specs) i first d there, room_of_start (get_or (first ∷ specs) i first)) (each i first there).entries

-- all of it, with the slices that the calls take
pub booted_by : (sources shared : List Source) (parts made_parts : List Layout) (frames block spare : ℕ) (guests : List Guest) (retired free : List Bool)
    (fresh memory last : List ℕ) → AreBootableSources sources → frames_with (needs_of_sources sources) spare ≤ most_frames → shared ≡ sources → made_parts ≡ parts
    → IsSplit (needs_of_sources shared) parts frames → LeavesSpare block spare parts frames → frames ≡ frames_with (needs_of_sources shared) spare → AreFlags block spare retired free → fresh ≡ zeros (frames * 4096) → length memory ≡ length fresh
    → length last ≡ length memory → AreLaidOut sources made_parts (length sources) (length sources) last → AreMade sources made_parts guests last → AreBooted sources parts guests retired free last
booted_by sources shared parts made_parts frames block spare guests retired free fresh memory last bootable most shared_is parts_are split leaves frames_are flags fresh_is size last_size laid made =
    booted sources parts frames block spare (length sources) guests retired free last bootable.some bootable.few bootable.each
    (rw shared_is at split) leaves flags (subst (λ n. n ≤ most_frames) (sym (frames_are ∙ ap (λ sources. frames_with (needs_of_sources sources) spare) shared_is)) most)
    (last_size ∙ size ∙ ap length fresh_is ∙ length_zeros (frames * 4096))
    (rw parts_are at laid) (rw parts_are at made)
