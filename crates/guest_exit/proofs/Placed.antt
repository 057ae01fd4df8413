-- A guest in machine memory, after steps of its lone machine.
use Rattle.std.proofs.Common.{◌≡◌, ℕ, ◌*◌, ◌%◌, Option, List, length, refl, subst, sym, arith, ◌∙◌}
use Rattle.std.specs.Prelude.{true, false}
use Rattle.std.specs.List.{All}
use Rattle.std.proofs.lemmas.List.Elements.{All-nil}
use Rattle.arch_defs.specs.Frames.{Apart, Only, Within, in_blocks}
use Rattle.arch_defs.specs.Layouts.{Layout, NamesEachOnce, host_frames, named_by}
use Rattle.arch_defs.specs.Spaces.{Space}
use Rattle.arch_defs.specs.WalkedEntries.{folds}
use Rattle.arch_defs.proofs.Rooms.{fewer_lie}
use Rattle.shadow_space.specs.Shadows.{AreZeros}
use Rattle.shadow_space.proofs.Partings.{untouched}
use Rattle.shadow_pool.proofs.Apart.{host_apart, pool_within}
use Rattle.guest_exit.specs.Starting.{IsNewPool}
use Rattle.arch_defs.specs.Memory.{block_size, ram_base, zeros}
use Rattle.arch_defs.specs.Ram.{ram_of}
use Rattle.arch_defs.proofs.FrameSets.{apart_sym, kept, left_within, only_more}
use Rattle.host_tables.specs.Walks.{IsHeld}
use Rattle.instruction_laws.specs.HostPlaces.{in_ram}
use Rattle.machine_defs.specs.Machine.{Machine}
use Rattle.instruction_laws.specs.Renaming.{ReservesWithin}
use Rattle.run_laws.specs.Reservations.{HasPlace, KeepsInRam, ReservesInRam, places_from}
use Rattle.machine_defs.specs.Runs.{left_after, run}
use Rattle.run_laws.proofs.InRam.{fill_stays_in_ram, stays_in_ram, try_stays_in_ram}
use Rattle.fill_laws.specs.Keeping.{IsOrderly}
use Rattle.fill_laws.proofs.Orderly.{fill_stays_orderly, stays_orderly, try_stays_orderly}
use Rattle.run_laws.specs.StorableStates.{IsStorable}
use Rattle.run_laws.proofs.StorableRuns.{fill_stays_storable, stays_storable, try_stays_storable}
use Rattle.shadow_pool.specs.Slots.{Pooled, TidyPool, pool_frames, room_of, spaces_of, table_frames_for}
use Rattle.guest_exit.specs.declared.guests.Guest.{Guest}
use Rattle.hosted_steps.specs.DevicePages.{CachesOwnDevice, IsOfDevice}
use Rattle.hosted_steps.specs.HartSteps.{IsAt, changing}
use Rattle.guest_exit.specs.Steps.{Fills, MakesStep}
use Rattle.guest_exit.specs.View.{IsPlaced, KeepsLayout, KeepsSpaces, changed_by, machine_of}
use Rattle.hosted_steps.proofs.DevicePages.{fill_keeps_device, run_keeps_device, try_keeps_device}
use Rattle.guest_exit.proofs.Pools.{held_after, size_of, tidy_by_blocks}

-- what is reserved in RAM of that many bytes
abbrev ReservesBelow : ℕ → Option (ℕ × ℕ) → Type 0
ReservesBelow size reserved = ReservesWithin (places_from ram_base size) reserved

whole_pages : (n : ℕ) → n * 2097152 % 4096 ≡ 0
whole_pages n = omega arith

ram_size_of : (part : Layout) (pool : Pooled) (m : Machine) (memory : List ℕ) → IsAt part pool m memory → length m.ram ≡ length part.blocks * block_size
ram_size_of part pool m memory at = rw at.ram (size_of part memory at.held)

-- its RAM is of whole pages, and it reserves there
pub whole : (part : Layout) (pool : Pooled) (m : Machine) (memory : List ℕ) → IsAt part pool m memory → length m.ram % 4096 ≡ 0
whole part pool m memory at = rw (ram_size_of part pool m memory at) (whole_pages (length part.blocks))

pub reserves : (part : Layout) (pool : Pooled) (m : Machine) (memory : List ℕ) → IsAt part pool m memory → ReservesInRam m
reserves part pool m memory at = subst (λ size. ReservesBelow size m.platform.virt.reservation) (sym (ram_size_of part pool m memory at)) at.reserved

-- what a machine is after a step, a fill or a run
record IsKept (before after : Machine) : Type 0 where
  ram : KeepsInRam before after
  devices : CachesOwnDevice after
  orderly : IsOrderly after
  storable : IsStorable after.platform.virt

kept_by_try : (part : Layout) (pool : Pooled) (m : Machine) (memory : List ℕ) → IsAt part pool m memory → IsKept m (left_after m)
kept_by_try part pool m memory at = record {
  ram = try_stays_in_ram m (whole part pool m memory at) at.caches (reserves part pool m memory at);
  devices = try_keeps_device m at.devices;
  orderly = try_stays_orderly m at.orderly;
  storable = try_stays_storable m at.storable;
}

kept_by_run : (part : Layout) (pool : Pooled) (m : Machine) (memory : List ℕ) (k : ℕ) → IsAt part pool m memory → IsKept m (run m k)
kept_by_run part pool m memory k at = record {
  ram = stays_in_ram m k (whole part pool m memory at) at.caches (reserves part pool m memory at);
  devices = run_keeps_device m k at.devices;
  orderly = stays_orderly m k at.orderly;
  storable = stays_storable m k at.storable;
}

-- so it is in its part as before
at_after : (part : Layout) (pool new : Pooled) (memory changed : List ℕ) (m after : Machine) → IsAt part pool m memory → Only (changing part pool) memory changed
    → new.part ≡ pool.part → TidyPool new changed → after.ram ≡ ram_of part.blocks changed → after.spaces ≡ spaces_of new → after.space_room ≡ room_of new
    → after.entry_room ≡ new.most → IsKept m after → IsAt part new after changed
at_after part pool new memory changed m after at only own tidy ram spaces space_room entry_room kept =
    let held = held_after part pool memory changed at.once at.own at.tidy at.held only in
    let size : length after.ram ≡ length part.blocks * block_size = rw ram (size_of part changed held) in
    record {
      once = at.once;
      held = held;
      ram = ram;
      reserved = subst (λ size. ReservesBelow size after.platform.virt.reservation) size kept.ram.1;
      own = own ∙ at.own;
      tidy = tidy;
      spaces = spaces;
      space_room = space_room;
      entry_room = entry_room;
      caches = kept.ram.0;
      devices = kept.devices;
      orderly = kept.orderly;
      storable = kept.storable;
    }

-- and so of a guest
placed_if : (old new : Guest) (memory changed : List ℕ) → IsPlaced old memory → new.part ≡ old.part → new.pool.part ≡ old.pool.part
    → Only (changed_by old) memory changed → TidyPool new.pool changed → IsKept (machine_of old memory) (machine_of new changed) → IsPlaced new changed
placed_if old new memory changed at part own only tidy kept =
    let ram : ram_of new.part.blocks changed ≡ ram_of old.part.blocks changed = rw part refl in
    subst (λ part. IsAt part new.pool (machine_of new changed) changed) (sym part)
    (at_after old.part old.pool new.pool memory changed (machine_of old memory) (machine_of new changed) at only own tidy ram refl refl refl kept)

-- after a run on the hart, which changes its blocks alone
pub placed_after : (old new : Guest) (memory changed : List ℕ) (k : ℕ) → IsPlaced old memory → KeepsSpaces old new
    → Only (in_blocks old.part.blocks) memory changed → machine_of new changed ≡ run (machine_of old memory) k → IsPlaced new changed
placed_after old new memory changed k at fixed only ran =
    let pool : new.pool.part ≡ old.pool.part = rw fixed.pool refl in
    let tidy : TidyPool new.pool changed = rw fixed.pool (tidy_by_blocks old.part old.pool memory changed at.once at.own at.tidy only) in
    placed_if old new memory changed at fixed.part pool
    (only_more (in_blocks old.part.blocks) (changed_by old) memory changed (left_within (in_blocks old.part.blocks) (pool_frames old.pool)) only) tidy
    (subst (IsKept (machine_of old memory)) (sym ran) (kept_by_run old.part old.pool (machine_of old memory) memory k at))

-- after a step that the host makes
pub placed_by_step : (old new : Guest) (memory changed : List ℕ) → IsPlaced old memory → KeepsLayout old new → Only (changed_by old) memory changed
    → TidyPool new.pool changed → MakesStep (machine_of old memory) (machine_of new changed) → IsPlaced new changed
placed_by_step old new memory changed at fixed only tidy makes =
    placed_if old new memory changed at fixed.part fixed.pool only tidy
    (subst (IsKept (machine_of old memory)) (sym makes.step) (kept_by_try old.part old.pool (machine_of old memory) memory at))

-- and after a fill
pub placed_by_fill : (old new : Guest) (memory changed : List ℕ) → IsPlaced old memory → KeepsLayout old new → Only (changed_by old) memory changed
    → TidyPool new.pool changed → Fills (machine_of old memory) (machine_of new changed) → IsPlaced new changed
placed_by_fill old new memory changed at fixed only tidy (e, lacks, is) =
    let m = machine_of old memory in
    placed_if old new memory changed at fixed.part fixed.pool only tidy
    (subst (IsKept m) (sym is) (record {
      ram = fill_stays_in_ram m e at.caches (reserves old.part old.pool m memory at) lacks;
      devices = fill_keeps_device m e at.devices lacks;
      orderly = fill_stays_orderly m e at.orderly lacks;
      storable = fill_stays_storable m e at.storable;
    }))

-- a guest that has entered no space is so in memory that has its host table, and zeros where its spaces' tables will be
pub placed_new : (guest : Guest) (memory : List ℕ) → NamesEachOnce guest.part → IsHeld guest.part memory → IsNewPool guest.part guest.pool → AreZeros (pool_frames guest.pool) memory
    → ReservesWithin (in_ram guest.part.blocks) guest.virt.reservation → folds guest.virt ≡ false → IsStorable guest.virt → IsPlaced guest memory
placed_new guest memory once held new zeros reserved flat storable =
    let frames : table_frames_for guest.part (room_of guest.pool) ≡ pool_frames guest.pool = rw new.part refl in
    let within : Within (pool_frames guest.pool) (named_by guest.part) =
    subst (λ frames. Within frames (named_by guest.part)) frames (pool_within guest.part (room_of guest.pool) new.few) in
    record {
      once = once;
      held = held;
      ram = refl;
      reserved = reserved;
      own = new.part;
      tidy = new.tidy memory (fewer_lie (pool_frames guest.pool) (named_by guest.part) (length memory) within held.lies) zeros;
      spaces = refl;
      space_room = refl;
      entry_room = refl;
      caches = rw new.spaces (All-nil (λ (s : Space). All (HasPlace _) s.entries));
      devices = rw new.spaces (All-nil (λ (s : Space). All (IsOfDevice _ s.key) s.entries));
      orderly = record {
        entries = new.entries;
        spaces = new.room;
        front = λ folding. let never : true ≡ false = sym folding ∙ flat in absurd (cc);
      };
      storable = storable;
    }

-- so it is in memory of zeros in which its host table alone has been built
pub placed_built : (guest : Guest) (memory : List ℕ) (size : ℕ) → NamesEachOnce guest.part → IsHeld guest.part memory → IsNewPool guest.part guest.pool → Only (host_frames guest.part) (zeros size) memory
    → ReservesWithin (in_ram guest.part.blocks) guest.virt.reservation → folds guest.virt ≡ false → IsStorable guest.virt → IsPlaced guest memory
placed_built guest memory size once held new only reserved flat storable =
    let frames : table_frames_for guest.part (room_of guest.pool) ≡ pool_frames guest.pool = rw new.part refl in
    let apart : Apart (host_frames guest.part) (pool_frames guest.pool) =
    subst (Apart (host_frames guest.part)) frames (host_apart guest.part once (room_of guest.pool) new.few) in
    placed_new guest memory once held new
    (untouched (pool_frames guest.pool) size memory
    (kept (pool_frames guest.pool) (host_frames guest.part) (zeros size) memory (apart_sym (host_frames guest.part) (pool_frames guest.pool) apart) only)) reserved flat storable
