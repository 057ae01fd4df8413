-- What a host keeps of its guests in machine memory.
use Rattle.std.specs.Prelude.{ℕ, ◌≡◌, ◌≢◌, ◌+◌, ◌*◌, ◌^◌, ◌<◌, ◌≤◌, Bool, true, false, List, [], ◌∷◌, length, get_or, map}
use Rattle.arch_defs.specs.Frames.{Apart, Frames, LieIn, Only, in_blocks}
use Rattle.arch_defs.specs.Layouts.{Layout, named_by}
use Rattle.arch_defs.specs.Ram.{ram_of}
use Rattle.fill_laws.specs.Budgets.{Goes}
use Rattle.frame_split.specs.Shares.{ArePairwiseApart, IsSplit}
use Rattle.host_tables.specs.HostTable.{IsHostTable}
use Rattle.guest_settings.specs.declared.guests.GuestSpec.{GuestSpec}
use Rattle.guest_settings.specs.declared.statuses.Status.TheVariants.{Running}
use Rattle.machine_defs.specs.Machine.{Machine, start, with_pending_lines}
use Rattle.machine_defs.specs.Runs.{run}
use Rattle.shadow_pool.specs.Slots as slots
use Rattle.shadow_pool.specs.Slots.{TidyPool, room_of, spaces_of}
use Rattle.shadow_space.specs.Shadows.{AreZeros}
use Rattle.guest_exit.specs.declared.guests.Guest.{Guest}
use Rattle.guest_exit.specs.declared.hart_exit.Handled.{Handled}
use Rattle.guest_exit.specs.declared.hart_exit.Handled.TheVariants.{Stepped, Trapped, Retry, Waits, Stopped}
use Rattle.guest_exit.specs.Starting.{IsNewPool}
use Rattle.guest_exit.specs.View.{IsPlaced, KeepsLayout, changed_by, machine_of, platform_of}
use Rattle.guest_turns.specs.Hosted.{is_set}
use Rattle.guest_turns.specs.declared.sources.Source.{Source}
use Rattle.guest_turns.specs.Sources.{machine_of_source, needs_of_sources}

-- a guest is in machine memory, its clock is bounded by its steps, and the registers that the clock sets are
-- as the clock sets them
pub record IsHosted (guest : Guest) (memory : List ℕ) : Type 0 where
  pub placed : IsPlaced guest memory
  pub clock : guest.clock.time ≤ 2 ^ 62 + guest.steps
  pub current : with_pending_lines (platform_of guest) ≡ platform_of guest

abbrev pub parts_of : List Guest → List Layout
parts_of guests = map (λ guest. guest.part) guests

-- a guest that has retired has no blocks, and its machine the room that it had
pub record IsGone (guest : Guest) : Type 0 where
  pub blocks : guest.part.blocks ≡ []
  pub room : guest.pool.most ≤ 256

-- a block is free: it lies in memory, is in no part, and has zeros
pub record IsFree (block : ℕ) (parts : List Layout) (memory : List ℕ) : Type 0 where
  pub lies : LieIn (in_blocks (block ∷ [])) (length memory)
  pub apart : (i : ℕ) (d : Layout) → i < length parts
      → Apart (in_blocks (block ∷ [])) (named_by (get_or parts i d))
  pub zero : AreZeros (in_blocks (block ∷ [])) memory

-- of at most 16 guests each is in machine memory, or has retired; no frame is in the parts of two of them,
-- and the free blocks are free
pub record AreHosted (guests : List Guest) (retired free : List Bool) (memory : List ℕ) : Type 0 where
  pub few : length guests ≤ 16
  pub each : (i : ℕ) (d : Guest) → i < length guests → is_set retired i ≡ false
      → IsHosted (get_or guests i d) memory
  pub gone : (i : ℕ) (d : Guest) → i < length guests → is_set retired i ≡ true
      → IsGone (get_or guests i d)
  pub apart : ArePairwiseApart (parts_of guests)
  pub spare : (block : ℕ) → is_set free block ≡ true → IsFree block (parts_of guests) memory

-- a guest and machine memory after that many steps of its lone machine
pub record HasRun (old : Guest) (memory : List ℕ) (k : ℕ)
    (new : Guest) (changed : List ℕ) : Type 0 where
  pub machine : machine_of new changed ≡ run (machine_of old memory) k
  pub keeps : KeepsLayout old new
  pub only : Only (changed_by old) memory changed
  pub hosted : IsHosted new changed

-- of at most that many steps a turn has made these, and fewer only where the guest does not go on
pub record CountsTurn (old : Guest) (k : ℕ) (new : Guest) (made : ℕ) : Type 0 where
  pub steps : old.steps + made ≡ new.steps
  pub most : made ≤ k
  pub fewer : made < k → new.status ≢ Running

-- a guest stays so after a try, with its layout, and of machine memory its own frames alone have changed
pub record StaysHosted (old : Guest) (memory : List ℕ) (new : Guest) (changed : List ℕ) : Type 0 where
  pub hosted : IsHosted new changed
  pub keeps : KeepsLayout old new
  pub only : Only (changed_by old) memory changed

-- a guest goes on, and may make some of that many steps, for which its count has room
pub record CanAdvance (guest : Guest) (memory : List ℕ) (left : ℕ) : Type 0 where
  pub running : guest.status ≡ Running
  pub hosted : IsHosted guest memory
  pub some : 1 ≤ left
  pub steps : guest.steps + left ≤ 2 ^ 61

-- after a part of that many steps: as many steps as are left are the same run, and take fewer tries
pub record Advances (old : Guest) (memory : List ℕ) (k : ℕ) (new : Guest) (changed : List ℕ)
    (left : ℕ) : Type 0 where
  pub goes : Goes (machine_of old memory) k (machine_of new changed) left
  pub keeps : KeepsLayout old new
  pub only : Only (changed_by old) memory changed

-- how many of that many steps are left after a part of them, by those that were made: all the others, while
-- the guest goes on
pub record CountsLeft (old : Guest) (k : ℕ) (new : Guest) (left : ℕ) : Type 0 where
  pub within : left ≤ k
  pub forward : old.steps ≤ new.steps
  pub made : new.steps + left ≤ old.steps + k
  pub others : new.status ≡ Running → new.steps + left ≡ old.steps + k

-- how many of the steps that are left are used up by what the host makes: a fill uses none, and a wait for
-- good, which is not made, one
abbrev pub used_by : Handled → ℕ
used_by Stepped = 1
used_by (Trapped into interrupt) = 1
used_by Retry = 0
used_by Waits = 1
used_by Stopped = 1

-- a guest that has made no step, entered no space, and cached nothing
pub record IsAtStart (spec : GuestSpec) (part : Layout) (guest : Guest) : Type 0 where
  pub own_part : guest.part ≡ part
  pub platform : platform_of guest ≡ (start spec).platform
  pub pool : IsNewPool part guest.pool
  pub spaces : room_of guest.pool ≡ spec.spaces
  pub entries : guest.pool.most ≡ spec.entries
  pub device : guest.device ≡ spec.device

-- a guest with what a machine has beside its RAM: wherever its RAM is the machine's, it is that machine
pub record IsBesideRam (m : Machine) (part : Layout) (guest : Guest) (memory : List ℕ) : Type 0 where
  pub own_part : guest.part ≡ part
  pub own_pool : guest.pool.part ≡ part
  pub platform : platform_of guest ≡ m.platform
  pub spaces : spaces_of guest.pool ≡ m.spaces
  pub space_room : room_of guest.pool ≡ m.space_room
  pub entry_room : guest.pool.most ≡ m.entry_room
  pub device : guest.device ≡ m.device
  pub tidy : TidyPool guest.pool memory

-- so of each of them, in their parts
pub record AreMade (sources : List Source) (parts : List Layout) (guests : List Guest)
    (memory : List ℕ) : Type 0 where
  pub count : length guests ≡ length sources
  pub each : (i : ℕ) (s : Source) (p : Layout) (d : Guest) → i < length sources
      → IsBesideRam (machine_of_source (get_or sources i s)) (get_or parts i p) (get_or guests i d) memory

-- the frames of a part for the tables of its spaces
abbrev pub space_tables : Layout → Frames
space_tables part = slots.table_frames_for part part.spaces

-- parts for these guests, in memory of that many bytes
pub record HaveParts (sources : List Source) (parts : List Layout) (size : ℕ) : Type 0 where
  pub frames : ℕ
  pub split : IsSplit (needs_of_sources sources) parts frames
  pub whole : size ≡ frames * 4096

-- the RAM of that many guests in machine memory is that of their machines, and their host tables are written.
-- That of the others is zeros. The frames for the tables of the spaces of all guests but the first ones,
-- whose spaces are made, are zeros, and so are those that are in no part
pub record AreLaidOut (sources : List Source) (parts : List Layout) (done made : ℕ)
    (memory : List ℕ) : Type 0 where
  pub ram : (i : ℕ) (s : Source) (d : Layout) → i < done
      → ram_of (get_or parts i d).blocks memory ≡ (machine_of_source (get_or sources i s)).ram
  pub tables : (i : ℕ) (d : Layout) → i < done → IsHostTable (get_or parts i d) memory
  pub later : (i : ℕ) (d : Layout) → done ≤ i → i < length parts
      → AreZeros (in_blocks (get_or parts i d).blocks) memory
  pub spaces : (i : ℕ) (d : Layout) → made ≤ i → i < length parts
      → AreZeros (space_tables (get_or parts i d)) memory
  pub others : (frames : Frames)
      → ((i : ℕ) (d : Layout) → i < length parts → Apart frames (named_by (get_or parts i d)))
      → AreZeros frames memory
