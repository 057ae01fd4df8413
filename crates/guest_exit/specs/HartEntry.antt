-- One entry of the hart: for how many steps, what it makes of the guest, and why it ends.
use Rattle.std.specs.Prelude.{ℕ, ◌≡◌, ◌+◌, ◌-◌, ◌^◌, ◌<◌, ◌≤◌, nat_le, Bool, false, not, ◌&&◌, if◌then◌else◌, List, [], ◌∷◌, Some}
use Rattle.arch_defs.specs.declared.levels.Level.TheVariants.{HS}
use Rattle.arch_defs.specs.declared.modes.Trap.{Trap}
use Rattle.arch_defs.specs.declared.registers.Virtual.{Virtual}
use Rattle.arch_defs.specs.Frames.{Only, in_blocks}
use Rattle.arch_defs.specs.Inputs.{has_input}
use Rattle.arch_defs.specs.Layouts.{Layout}
use Rattle.arch_defs.specs.Traps.{is_virtual}
use Rattle.machine_defs.specs.declared.events.Event.TheVariants as event
use Rattle.guest_settings.specs.declared.statuses.Status.TheVariants.{Running}
use Rattle.machine_defs.specs.Machine.{Machine, Platform, with_pending_lines}
use Rattle.machine_defs.specs.Runs.{event_in, events, run, trace_of}
use Rattle.machine_defs.specs.Tries.{try}
use Rattle.rv64_hart.specs.declared.harts.Stop.{Stop}
use Rattle.rv64_hart.specs.declared.harts.Why.{Why}
use Rattle.rv64_hart.specs.declared.harts.Why.TheVariants.{Limit, Exit, VsTrap}
use Rattle.rv64_hart.specs.Counts.{Counts, IsRaisedBy}
use Rattle.rv64_hart.specs.Steps.{Exits, Progress, hart_step, hart_steps, progress}
use Rattle.shadow_pool.specs.Slots.{Pooled}
use Rattle.world_switch.specs.Hosting.{after_hs_trap, loaded_in, saved_in}
use Rattle.world_switch.specs.Laws.{waits_for_hs}
use Rattle.guest_exit.specs.declared.guests.Guest.{Guest}
use Rattle.guest_exit.specs.declared.hart_entry.Entered.{Entered}
use Rattle.guest_exit.specs.declared.hart_entry.Entered.TheVariants.{Made, Left}
use Rattle.hosted_steps.specs.HartSteps.{host_takes, root_for}
use Rattle.guest_exit.specs.Steps.{MakesSteps}
use Rattle.guest_exit.specs.View.{IsPlaced, KeepsSpaces, loaded_for, machine_of, platform_of}

-- at each of that many steps, whether something has come is the same as it is now
abbrev pub KeepsCome : (ℕ → Bool) → ℕ → ℕ → Type 0
KeepsCome has_come clock limit = (n : ℕ) → n < limit → has_come (clock + n) ≡ has_come clock

-- nothing that the hart does not have for the guest changes before the last of that many steps begins: the
-- step is the hart's now, no interrupt of VS waits for HS to take it, and no moment comes
pub record Lasts (p : Platform) (limit : ℕ) : Type 0 where
  pub current : with_pending_lines p ≡ p
  pub own : host_takes p.virt ≡ false
  pub interrupts : 1 < limit → waits_for_hs p.virt.csrs ≡ false
  pub timer : KeepsCome (nat_le p.clock.timer) p.clock.time limit
  pub inputs : KeepsCome (has_input p.console.inputs) p.clock.time limit

-- of at most that many steps this is the largest number for which that holds
pub record IsLongest (p : Platform) (bound limit : ℕ) : Type 0 where
  pub lasts : Lasts p limit
  pub some : 1 ≤ limit
  pub most : limit ≤ bound
  pub largest : (n : ℕ) → n ≤ bound → Lasts p n → n ≤ limit

-- a guest may enter the hart for that many steps: nothing that the hart does not have for it changes in them,
-- and its clock and its count of steps have room for them
pub record CanEnter (guest : Guest) (memory : List ℕ) (limit : ℕ) : Type 0 where
  pub running : guest.status ≡ Running
  pub placed : IsPlaced guest memory
  pub lasts : Lasts (platform_of guest) limit
  pub clock : guest.clock.time ≤ 2 ^ 62 + guest.steps
  pub steps : guest.steps + limit ≤ 2 ^ 61

-- the hart's account has room for one entry and that many steps
pub record HasRoomForEntry (limit : ℕ) (account : Counts) : Type 0 where
  pub entries : account.entries < 2 ^ 62
  pub taken : account.taken + limit ≤ 2 ^ 62

-- a platform after that many steps of the hart, which leave it this state
abbrev pub moved : Platform → Virtual → ℕ → Platform
moved p virt n =
    let clock = record p.clock { time = p.clock.time + n } in
    with_pending_lines (record p { virt = virt; clock = clock; steps = p.steps + n })

-- what the guest that has this part has after the hart has run, by whether its last step was a trap into VS:
-- what is saved of the hart, and after such a trap with V = 0, which stands for one into HS, what that sets
-- beside
abbrev pub taken_back : Layout → Virtual → Bool → Virtual → Virtual
taken_back part hart trapped before =
    if trapped && not (is_virtual before.mode) then after_hs_trap (saved_in part hart before)
    else saved_in part hart before

-- the hart, in a part of machine memory, leaves the machine's next step to the host
pub record Hands (part : Layout) (pool : Pooled) (m : Machine) (memory : List ℕ) (trap : Trap)
    : Type 0 where
  pub own : host_takes m.platform.virt ≡ false
  pub exits :
      hart_step (loaded_in part (root_for part pool m.platform.virt) m.platform.virt) memory
      ≡ Exits trap

-- the hart stops after a trap into VS that stands for one into the guest's HS with V = 0, which the host has
-- to complete. With V = 1 it is one into the guest's VS, which the hart takes whole (own)
abbrev pub is_watched : Virtual → Bool
is_watched virt = not (is_virtual virt.mode)

-- the last of that many steps of a machine with V = 0 is a trap into HS
pub record EndsInTrap (m : Machine) (n : ℕ) : Type 0 where
  pub own : is_virtual m.platform.virt.mode ≡ false
  pub some : 0 < n
  pub trap : (interrupt : Bool) × (event_in (try (run m (n - 1))) ≡ event.Trap HS interrupt ∷ [])

-- why an entry ended, by the machine before it, and the machine and the memory after it
abbrev pub IsStopped : Layout → Pooled → Machine → Machine → List ℕ → ℕ → ℕ → Why
    → Type 0
IsStopped part pool before after memory limit taken Limit = taken ≡ limit
IsStopped part pool before after memory limit taken VsTrap = EndsInTrap before taken
IsStopped part pool before after memory limit taken (Exit trap) =
    (taken < limit) × Hands part pool after memory trap

-- an entry in a part of machine memory ends within its limit, by the machine before it, and the machine and
-- the memory after it
pub record Stops (part : Layout) (pool : Pooled) (before after : Machine) (memory : List ℕ) (limit : ℕ)
    (stop : Stop) : Type 0 where
  pub within : stop.taken ≤ limit
  pub why : IsStopped part pool before after memory limit stop.taken stop.why

-- how many steps an entry for one has made
abbrev pub steps_entered : Entered → ℕ
steps_entered (Made event) = 1
steps_entered (Left trap) = 0

-- what such an entry tells: the event of the machine's step; or that the hart leaves it to the host
abbrev pub IsEntered : Layout → Pooled → Machine → Machine → List ℕ → Entered → Type 0
IsEntered part pool before after memory (Made event) = event_in (try before) ≡ event ∷ []
IsEntered part pool before after memory (Left trap) = Hands part pool after memory trap

-- the hart has made that many steps for a guest, from what it has for it, with V = 0 none but the last a trap
-- into VS. What it has then is the guest's: what is saved of it and, after such a trap, what that leaves to
-- the host
pub record HartMakes (n : ℕ) (before after : Guest) (memory : List ℕ) (trace : ℕ) (made : Progress)
    : Type 0 where
  pub steps : hart_steps (is_watched before.virt) n (progress (loaded_for before) memory trace false)
      ≡ Some made
  pub saves : platform_of after
      ≡ moved (platform_of before) (taken_back before.part made.state.virt made.trapped before.virt) n

-- the hart's account of one entry: that many steps, with this sum of pc and word
pub record IsAccounted (steps sum : ℕ) (before after : Counts) : Type 0 where
  pub entries : after.entries ≡ before.entries + 1
  pub taken : after.taken ≡ before.taken + steps
  pub trace : IsRaisedBy sum before.trace after.trace

-- a guest goes on after that many steps of the hart, and the registers that the clock sets are as the clock
-- has them
pub record GoesOn (taken : ℕ) (before after : Guest) : Type 0 where
  pub status : after.status ≡ Running
  pub steps : after.steps ≡ before.steps + taken
  pub clock : after.clock.time ≡ before.clock.time + taken
  pub current : with_pending_lines (platform_of after) ≡ platform_of after

-- of machine memory only bytes of the guest's blocks change, and it holds the guest's part as before, whose
-- spaces stay
pub record KeepsTables (before : Guest) (memory : List ℕ)
    (after : Guest) (changed : List ℕ) : Type 0 where
  pub only : Only (in_blocks before.part.blocks) memory changed
  pub placed : IsPlaced after changed
  pub keeps : KeepsSpaces before after

-- an entry of the hart has made that many steps of a guest: its machine has made them, it goes on, of machine
-- memory its blocks alone have changed, and the account tells of the entry
pub record HasEntered (taken : ℕ) (before : Guest) (memory : List ℕ) (after : Guest) (changed : List ℕ)
    (tally counted : Counts) : Type 0 where
  pub run : MakesSteps taken (machine_of before memory) (machine_of after changed)
  pub goes : GoesOn taken before after
  pub keeps : KeepsTables before memory after changed
  pub account : IsAccounted taken (trace_of (events (machine_of before memory) taken)) tally counted
