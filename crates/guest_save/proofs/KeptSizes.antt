-- A run keeps sizes: how many blocks of RAM there are, and for how many spaces, entries and console bytes
-- there is room.
use Rattle.std.specs.Prelude.{◌==◌, ◌&&◌, option_map}
use Rattle.std.proofs.Common.{◌≡◌, ℕ, ◌/◌, ◌%◌, ◌∙◌, Bool, true, false, List, Option, Some, None, length, refl, ap, arith}
use Rattle.arch_defs.specs.declared.first.FirstEntry.{FirstEntry}
use Rattle.arch_defs.specs.declared.registers.Virtual.{Virtual}
use Rattle.arch_defs.specs.declared.walks.MissingPlace.{MissingPlace}
use Rattle.arch_defs.specs.declared.widths.Width.{Width}
use Rattle.arch_defs.specs.Calls.{CallState, environment, get, put, set_timer, state_of, stopped, unknown}
use Rattle.arch_defs.specs.Consoles.{ConsoleState, has_room}
use Rattle.arch_defs.specs.Devices.{DeviceEnd, device_loaded, device_status, device_stored, with_output}
use Rattle.arch_defs.specs.FirstEntries.{all_filled}
use Rattle.arch_defs.specs.Interrupts.{due}
use Rattle.arch_defs.specs.Memory.{block_size, ram_memory}
use Rattle.arch_defs.specs.Registers.{a7, read}
use Rattle.arch_defs.specs.SecondStage.{OnDevice, is_implicit}
use Rattle.arch_defs.specs.Traps.{missing_place_fault}
use Rattle.arch_defs.specs.Widths.{bytes_in}
use Rattle.guest_save.specs.Headers.{blocks_of}
use Rattle.guest_save.specs.Laws.{RunKeepsSizes}
use Rattle.op_defs.specs.declared.ops.DataAccess.{DataAccess}
use Rattle.op_defs.specs.declared.ops.Purpose.{Purpose}
use Rattle.op_defs.specs.declared.ops.Purpose.TheVariants.{Load, LoadCode, Store, Reserve, StoreReserved, Modify}
use Rattle.machine_defs.specs.DeviceSteps.{device_step, device_wanted, served, with_loaded, with_put}
use Rattle.machine_defs.specs.HlvAccesses.{Completes, Device, HlvEnd, Traps, hlv_outcome}
use Rattle.machine_defs.specs.Machine.{Ended, Machine, Platform, Tried, WaitsForGood, called, has_enabled_interrupt, trapped, waited, waited_until, with_first}
use Rattle.machine_defs.specs.Outcomes.{Outcome, Done, Trapped, Missed, Called, Waits, Fenced, FirstFenced, Accesses}
use Rattle.machine_defs.specs.Runs.{left_by, run}
use Rattle.machine_defs.specs.Tries.{apply_outcome, device_of, found_by_outcome, hlv_committed, outcome_under, stages_of, tried_with, try, try_under, unplaced, with_found}
use Rattle.instruction_laws.proofs.Cached.{either}
use Rattle.run_laws.proofs.InRam.{stays_in_ram}
use Rattle.instruction_laws.proofs.KeptByRuns.{IsKept, kept_by_runs}

-- a call of the environment leaves the console's room
environment_room : (s : CallState) → (environment s).console.room ≡ s.console.room
environment_room s = let number = read s.regs a7 in let Same = λ (c : CallState). c.console.room ≡ s.console.room in
    either Same (number == 0) (set_timer s) _ refl
    (either Same (number == 1) (put s) _ (either Same (has_room s.console) _ _ refl refl)
    (either Same (number == 2) (get s) _ refl
    (either Same (number == 8) (stopped s) (unknown s) refl refl)))

called_room : (p : Platform) → (called p).console.room ≡ p.console.room
called_room p = let same = environment_room (state_of p.virt.regs p.clock p.console) in
    either (λ (q : Platform). q.console.room ≡ p.console.room) (read p.virt.regs a7 == 8) _ _ same same

-- there is room for as many spaces, entries and console bytes
abbrev HasRooms : ℕ → ℕ → ℕ → Machine → Type 0
HasRooms spaces entries console m =
    (m.space_room ≡ spaces) × (m.entry_room ≡ entries) × (m.platform.console.room ≡ console)

-- what a try leaves has the same
abbrev KeepsRooms : Machine → Tried → Type 0
KeepsRooms m t = HasRooms m.space_room m.entry_room m.platform.console.room (left_by m t)

-- so a load or a store of the device page
abbrev RoomIs : ℕ → Option DeviceEnd → Type 0
RoomIs room None = Unit {0}
RoomIs room (Some end) = end.console.room ≡ room

loaded_room : (offset bytes : ℕ) (console : ConsoleState) (clock : ℕ) → RoomIs console.room (device_loaded offset bytes console clock)
unfolding device_loaded
loaded_room offset bytes console clock = either (RoomIs console.room) (offset == 0 && bytes == 1) _ _ refl
    (either (RoomIs console.room) (offset == 8 && bytes == 8) (Some (record { value = device_status console clock; console = console })) None refl tt)

stored_room : (offset bytes value : ℕ) (console : ConsoleState) → RoomIs console.room (device_stored offset bytes value console)
unfolding device_stored
stored_room offset bytes value console =
    either (RoomIs console.room) (offset == 0 && bytes == 1) (Some (record { value = 0; console = with_output console (value % 256) })) None
    (either (λ (c : ConsoleState). c.room ≡ console.room) (has_room console) _ console refl refl) tt

loaded_rooms : (m : Machine) (missing : MissingPlace) (width : Width) (signed : Bool) (rd : ℕ) (end : Option DeviceEnd) → RoomIs m.platform.console.room end
    → KeepsRooms m (served m missing (option_map (with_loaded m.platform.virt width signed rd) end))
loaded_rooms m missing width signed rd None room = (refl, refl, refl)
loaded_rooms m missing width signed rd (Some end) room = (refl, refl, room)

put_rooms : (m : Machine) (missing : MissingPlace) (end : Option DeviceEnd) → RoomIs m.platform.console.room end
    → KeepsRooms m (served m missing (option_map (with_put m.platform.virt) end))
put_rooms m missing None room = (refl, refl, refl)
put_rooms m missing (Some end) room = (refl, refl, room)

device_rooms : (m : Machine) (missing : MissingPlace) (width : Width) (purpose : Purpose) → KeepsRooms m (device_step m missing width purpose)
device_rooms m missing width (Load signed rd) = let p = m.platform in
    loaded_rooms m missing width signed rd _ (loaded_room (missing.address % 4096) (bytes_in width) p.console p.clock.time)
device_rooms m missing width (LoadCode rd) = (refl, refl, refl)
device_rooms m missing width (Store value) =
    put_rooms m missing _ (stored_room (missing.address % 4096) (bytes_in width) value m.platform.console)
device_rooms m missing width (Reserve rd) = (refl, refl, refl)
device_rooms m missing width (StoreReserved value rd) = (refl, refl, refl)
device_rooms m missing width (Modify op operand rd) = (refl, refl, refl)

wanted_rooms : (m : Machine) (missing : MissingPlace) (wanted : Option DataAccess) → KeepsRooms m (device_wanted m missing wanted)
wanted_rooms m missing None = (refl, refl, refl)
wanted_rooms m missing (Some wanted) = device_rooms m missing wanted.width wanted.purpose

unplaced_rooms : (m : Machine) (missing : MissingPlace) (wanted : Option DataAccess) (on : Bool) → KeepsRooms m (unplaced m missing wanted on)
unplaced_rooms m missing wanted true =
    either (KeepsRooms m) (is_implicit missing.kind) (trapped m (missing_place_fault missing)) (device_wanted m missing wanted) (refl, refl, refl) (wanted_rooms m missing wanted)
unplaced_rooms m missing wanted false = (refl, refl, refl)

-- a wait, and an HLV, HLVX or HSV
until_rooms : (m : Machine) (virt : Virtual) (moment : Option ℕ) → KeepsRooms m (waited_until m virt moment)
until_rooms m virt (Some moment) = (refl, refl, refl)
until_rooms m virt None = (refl, refl, refl)

waited_rooms : (m : Machine) (virt : Virtual) → KeepsRooms m (waited m virt)
waited_rooms m virt = either (KeepsRooms m) (has_enabled_interrupt m.platform.virt.csrs) _ _ (refl, refl, refl) (until_rooms m virt _)

hlv_rooms : (m : Machine) (wanted : DataAccess) (end : HlvEnd) → KeepsRooms m (hlv_committed m wanted end)
hlv_rooms m wanted (Completes completion) = (refl, refl, refl)
hlv_rooms m wanted (Device missing) = device_rooms m missing wanted.width wanted.purpose
hlv_rooms m wanted (Traps trap) = (refl, refl, refl)

outcome_rooms : (device : OnDevice) (m : Machine) (o : Outcome) → KeepsRooms m (apply_outcome device m o)
outcome_rooms device m (Done virt stored event) = (refl, refl, refl)
outcome_rooms device m (Trapped trap) = (refl, refl, refl)
outcome_rooms device m (Missed missing wanted) = unplaced_rooms m missing wanted (device missing.address missing.kind)
outcome_rooms device m Called = (refl, refl, called_room m.platform)
outcome_rooms device m (Waits virt) = waited_rooms m virt
outcome_rooms device m (Fenced virt fence) = (refl, refl, refl)
outcome_rooms device m (FirstFenced virt named fence) = (refl, refl, refl)
outcome_rooms device m (Accesses wanted) = hlv_rooms m wanted (hlv_outcome m.device (ram_memory m.ram) m.platform.virt wanted)

-- what the machine has cached has no part in it
found_rooms : (m : Machine) (first : List FirstEntry) (t : Tried) → KeepsRooms (with_first m first) t → KeepsRooms m t
found_rooms m first (Ended after event) rooms = rooms
found_rooms m first WaitsForGood rooms = rooms

tried_rooms : (m : Machine) → KeepsRooms m (try m)
unfolding try_under
tried_rooms m = by (due m.platform.virt.csrs m.platform.virt.mode)
  where
    by : (code : Option ℕ) → KeepsRooms m (tried_with (stages_of m) m code)
    by (Some code) = (refl, refl, refl)
    by None = found_rooms m (all_filled m.platform.virt.first (found_by_outcome (stages_of m) m)) (tried_with (stages_of m) m None)
        (outcome_rooms (device_of m) (with_found (stages_of m) m) (outcome_under (stages_of m) m))

rooms_kept : (spaces entries console : ℕ) → IsKept (HasRooms spaces entries console)
rooms_kept spaces entries console = record {
  filled = λ m e has lacks. has;
  tried = λ m (of_spaces, of_entries, of_console). let after = tried_rooms m in
      (after.0 ∙ of_spaces, after.1 ∙ of_entries, after.2 ∙ of_console);
}

rooms_stay : (m : Machine) (n : ℕ) → HasRooms m.space_room m.entry_room m.platform.console.room (run m n)
rooms_stay m n = let rooms = HasRooms m.space_room m.entry_room m.platform.console.room in
    kept_by_runs rooms (rooms_kept m.space_room m.entry_room m.platform.console.room) m n (refl, refl, refl)

-- RAM keeps its size, since what is stored is stored in it
pub sizes_stay : RunKeepsSizes
sizes_stay m n caches reserves sizes =
    let pages : length m.ram % 4096 ≡ 0 = omega (arith, sizes.whole) in
    let ram : length (run m n).ram ≡ length m.ram = (stays_in_ram m n pages caches reserves).2 in
    let blocks : blocks_of (run m n) ≡ blocks_of m = ap (λ (size : ℕ). size / block_size) ram in
    let rooms = rooms_stay m n in
    record {
      whole = omega (arith, ram, blocks, sizes.whole);
      some_block = omega (arith, blocks, sizes.some_block);
      most_blocks = omega (arith, blocks, sizes.most_blocks);
      some_space = omega (arith, rooms.0, sizes.some_space);
      most_spaces = omega (arith, rooms.0, sizes.most_spaces);
      some_entries = omega (arith, rooms.1, sizes.some_entries);
      most_entries = omega (arith, rooms.1, sizes.most_entries);
      most_console = omega (arith, rooms.2, sizes.most_console);
    }
