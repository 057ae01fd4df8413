-- What the host makes of a step that the hart has left to it.
use Rattle.std.specs.Prelude.{ℕ, ◌≡◌, ◌≢◌, ◌↔◌, ◌+◌, ◌^◌, ◌≤◌, Bool, false, true, List, [], ◌∷◌, Some, None, ⊤}
use Rattle.arch_defs.specs.declared.cached.Entry.{Entry}
use Rattle.arch_defs.specs.declared.cached.Fence.{Fence}
use Rattle.arch_defs.specs.declared.modes.Trap.{Trap}
use Rattle.arch_defs.specs.declared.registers.Virtual.{Virtual}
use Rattle.arch_defs.specs.Frames.{Only}
use Rattle.arch_defs.specs.Layouts.{NamesEachOnce}
use Rattle.arch_defs.specs.Registers.{a7, read}
use Rattle.arch_defs.specs.Traps.{is_virtual}
use Rattle.op_defs.specs.declared.ops.Op.{Op}
use Rattle.op_defs.specs.declared.ops.Op.TheVariants as op
use Rattle.machine_defs.specs.declared.events.Event.{Event}
use Rattle.machine_defs.specs.declared.events.Event.TheVariants as event
use Rattle.guest_settings.specs.declared.statuses.Status.{Status}
use Rattle.guest_settings.specs.declared.statuses.Status.TheVariants as status
use Rattle.machine_defs.specs.Fills.{fill}
use Rattle.machine_defs.specs.Machine.{Machine, Tried, WaitsForGood, with_pending_lines}
use Rattle.machine_defs.specs.Outcomes.{Fenced}
use Rattle.machine_defs.specs.Runs.{event_in, left_by}
use Rattle.machine_defs.specs.Tries.{apply_outcome, committed, device_of, try}
use Rattle.run_laws.specs.StorableStates.{IsStorable}
use Rattle.rv64_hart.specs.declared.leaves.Leaves.{Leaves}
use Rattle.rv64_hart.specs.Leaves.{LeavesFit}
use Rattle.host_tables.specs.Walks.{IsHeld}
use Rattle.shadow_pool.specs.Slots.{TidyPool}
use Rattle.rv64_asm.specs.Fitting.{fits}
use Rattle.hcsr_emulation.specs.Ends.{is_decided}
use Rattle.guest_exit.specs.declared.guests.Guest.{Guest}
use Rattle.guest_exit.specs.declared.hart_exit.Handled.{Handled}
use Rattle.guest_exit.specs.declared.hart_exit.Handled.TheVariants.{Stepped, Trapped, Retry, Waits, Stopped}
use Rattle.hosted_steps.specs.ExitCases.{Exit, Instruction, Missing, Call, Own, entry_for_exit, found_next, try_at}
use Rattle.hosted_steps.specs.HartSteps.{host_takes}
use Rattle.guest_exit.specs.HartEntry.{Hands}
use Rattle.guest_exit.specs.Steps.{CanStep, Fills, IsMiss, IsNotPlain, Makes, MakesStep}
use Rattle.guest_exit.specs.View.{IsPlaced, KeepsLayout, KeepsSpaces, changed_by, machine_of, platform_of}

-- a guest may go on by one step: the registers that the clock sets are as the clock has them, and memory
-- holds its part
pub record CanGoOn (guest : Guest) (memory : List ℕ) : Type 0 where
  pub step : CanStep guest
  pub current : with_pending_lines (platform_of guest) ≡ platform_of guest
  pub placed : IsPlaced guest memory

-- the hart, with what it has for a guest, has left its next step to the host, by this trap
pub record HasExited (guest : Guest) (memory : List ℕ) (trap : Trap) : Type 0 where
  pub can : CanGoOn guest memory
  pub hands : Hands guest.part guest.pool (machine_of guest memory) memory trap

-- it has left it, and its next step is not an interrupt that the host takes first
pub record IsLeftToHost (guest : Guest) (memory : List ℕ) : Type 0 where
  pub can : CanGoOn guest memory
  pub own : host_takes guest.virt ≡ false

-- the machine's next step is made, or what it lacks is filled, as the answer says
pub record IsHandled (result : Handled) (before after : Machine) : Type 0 where
  pub step : result ≢ Retry → MakesStep before after
  pub fill : result ≡ Retry → Fills before after

-- the call of the environment that stops the machine: number 8
abbrev pub IsStopCall : Exit → Virtual → Type 0
IsStopCall left virt = (left ≡ Call) × (read virt.regs a7 ≡ 8)

-- the status after what the host made of a step, and how many steps that was
abbrev pub status_after : Handled → Status
status_after Stepped = status.Running
status_after (Trapped into interrupt) = status.Running
status_after Retry = status.Running
status_after Waits = status.Waiting
status_after Stopped = status.Stopped

abbrev pub steps_made : Handled → ℕ
steps_made Stepped = 1
steps_made (Trapped into interrupt) = 1
steps_made Retry = 0
steps_made Waits = 0
steps_made Stopped = 1

-- the event of the step that it was: none of the host's is plain
abbrev pub events_told : Handled → List Event
events_told Stepped = event.System ∷ []
events_told (Trapped into interrupt) = event.Trap into interrupt ∷ []
events_told Retry = []
events_told Waits = []
events_told Stopped = event.System ∷ []

-- a try's event is as the host's answer tells; where a fill was made in its place it tells none
abbrev pub IsToldEvent : Handled → Tried → Type 0
IsToldEvent result tried = result ≢ Retry → event_in tried ≡ events_told result

-- so is that of a try of a guest's machine, whatever is in memory
abbrev pub TellsEvent : Handled → Guest → (Machine → Tried) → Type 0
TellsEvent result before tried =
    (memory : List ℕ) → event_in (tried (machine_of before memory)) ≡ events_told result

-- a try is not one of the hart's plain steps, and its event is as the answer tells
pub record TellsTry (result : Handled) (tried : Tried) : Type 0 where
  pub quiet : IsNotPlain tried
  pub event : IsToldEvent result tried

-- the answer says whether a fill was made, since the machine's next try lacks a cached translation, whether
-- that waits for good, and whether it is the call that stops the machine
pub record TellsNext (result : Handled) (left : Exit) (m : Machine) : Type 0 where
  pub retry : (result ≡ Retry) ↔ IsMiss m
  pub waits : (result ≡ Waits) ↔ (try m ≡ WaitsForGood)
  pub stops : (result ≡ Stopped) ↔ IsStopCall left m.platform.virt

-- a guest's status, count of steps and clock are as the host's answer tells
pub record IsTold (result : Handled) (before after : Guest) : Type 0 where
  pub status : after.status ≡ status_after result
  pub made : after.steps ≡ before.steps + steps_made result
  pub clock : after.clock.time ≤ 2 ^ 62 + after.steps

-- a step of the guest's machine is made by this try, the host's answer tells it, and the spaces stay
pub record MakesTold (result : Handled) (before after : Guest) (tried : Machine → Tried) : Type 0 where
  pub step : Makes before after tried
  pub event : TellsEvent result before tried
  pub told : IsTold result before after
  pub keeps : KeepsSpaces before after

-- a guest may make a WFI, which has found these first-stage translations
pub record CanWait (guest : Guest) (found : Leaves) : Type 0 where
  pub step : CanStep guest
  pub current : with_pending_lines (platform_of guest) ≡ platform_of guest
  pub fits : LeavesFit found

-- what the host makes changes machine memory in the guest's own frames alone, where its pool is tidy then
pub record KeepsOutside (before : Guest) (memory : List ℕ)
    (after : Guest) (changed : List ℕ) : Type 0 where
  pub only : Only (changed_by before) memory changed
  pub tidy : TidyPool after.pool changed
  pub keeps : KeepsLayout before after

-- and which holds the guest's part as before
pub record KeepsPart (before : Guest) (memory : List ℕ) (after : Guest) (changed : List ℕ) : Type 0 where
  pub only : Only (changed_by before) memory changed
  pub placed : IsPlaced after changed
  pub keeps : KeepsLayout before after

-- machine memory holds a guest's part with the tables of its pool, whatever the guest's state is
pub record HoldsTables (guest : Guest) (memory : List ℕ) : Type 0 where
  pub once : NamesEachOnce guest.part
  pub held : IsHeld guest.part memory
  pub own : guest.pool.part ≡ guest.part
  pub tidy : TidyPool guest.pool memory

-- an instruction has left a guest its state, with which the step may end
pub record CanFinish (guest : Guest) (memory : List ℕ) : Type 0 where
  pub step : CanStep guest
  pub holds : HoldsTables guest memory
  pub storable : IsStorable guest.virt

-- a guest with another state, or with another pc
abbrev pub with_state : Guest → Virtual → Guest
with_state guest virt = record guest { virt = virt }

abbrev pub with_pc : Guest → ℕ → Guest
with_pc guest pc = with_state guest (record guest.virt { regs = record guest.virt.regs { pc = pc } })

-- an instruction, after which the guest has its state, is made for good: its machine before it had another
-- state, with this V and the same first-stage translations
abbrev pub IsFinished : Bool → Guest → List ℕ → Guest → List ℕ → Type 0
IsFinished nested guest memory after changed =
    (before : Virtual) → is_virtual before.mode ≡ nested → before.first ≡ guest.virt.first
    → machine_of after changed ≡ left_by (machine_of (with_state guest before) memory)
    (committed (machine_of (with_state guest before) memory) guest.virt None event.System)

-- so is a fence that names these cached translations
abbrev pub IsFenced : Fence → Guest → List ℕ → Guest → List ℕ → Type 0
IsFenced named guest memory after changed =
    (before : Virtual) → before.first ≡ guest.virt.first
    → let m = machine_of (with_state guest before) memory in
    machine_of after changed ≡ left_by m (apply_outcome (device_of m) m (Fenced guest.virt named))

-- an instruction on which the mode decides, and whose fields fit
pub record IsDecidedOp (o : Op) : Type 0 where
  pub decided : is_decided o ≡ true
  pub fits : fits o ≡ true

-- an instruction that is left to the host is one of these
abbrev pub IfInstruction : Exit → Type 0
IfInstruction (Instruction o) = IsDecidedOp o
IfInstruction (Missing missing) = Unit {0}
IfInstruction Call = Unit {0}
IfInstruction (Own trap) = Unit {0}

-- a WFI, or a fence
abbrev pub IsWaitOrFence : Op → Type 0
IsWaitOrFence op.Wfi = ⊤
IsWaitOrFence (op.SfenceVma rs1 rs2) = ⊤
IsWaitOrFence (op.HfenceVvma rs1 rs2) = ⊤
IsWaitOrFence (op.HfenceGvma rs1 rs2) = ⊤
IsWaitOrFence other = ⊥

-- the machine's try at such a step
abbrev pub try_left : Machine → Exit → Tried
try_left m left = try_at (found_next m) m left

-- the step that the hart has left so is made of the machine, or what it lacks is filled
pub record IsMadeOf (left : Exit) (result : Handled) (before after : Machine) : Type 0 where
  pub ready : result ≢ Retry → entry_for_exit before left ≡ None
  pub step : result ≢ Retry → after ≡ left_by before (try_left before left)
  pub fill : result ≡ Retry → (e : Entry) × (entry_for_exit before left ≡ Some e)
      × (after ≡ fill before e)

-- of a guest in machine memory so, which the answer tells
pub record IsMadeFor (left : Exit) (result : Handled) (before : Guest) (memory : List ℕ) (after : Guest)
    (changed : List ℕ) : Type 0 where
  pub makes : IsMadeOf left result (machine_of before memory) (machine_of after changed)
  pub stops : (result ≡ Stopped) ↔ IsStopCall left before.virt
  pub quiet : IsNotPlain (try_left (machine_of before memory) left)
  pub event : IsToldEvent result (try_left (machine_of before memory) left)
  pub told : IsTold result before after
  pub within : KeepsOutside before memory after changed
