-- The lone machine of a guest, its start, its execution environment, traps and waits.
use Rattle.std.specs.Prelude.{ℕ, ◌+◌, ◌*◌, ◌==◌, ◌&&◌, Bool, Option, Some, None, List, [], if◌then◌else◌}
use Rattle.std.specs.List.{list_any}
use Rattle.arch_defs.specs.declared.first.FirstEntry.{FirstEntry}
use Rattle.arch_defs.specs.declared.modes.Mode.TheVariants.{HS}
use Rattle.arch_defs.specs.declared.modes.Trap.{Trap}
use Rattle.arch_defs.specs.declared.registers.Csrs.{Csrs}
use Rattle.arch_defs.specs.declared.registers.Virtual.{Virtual}
use Rattle.arch_defs.specs.Calls.{CallState, environment, state_of}
use Rattle.arch_defs.specs.Clocks.{Times, is_due, times_at_start}
use Rattle.arch_defs.specs.Consoles.{ConsoleState}
use Rattle.arch_defs.specs.Inputs.{has_input, next_input}
use Rattle.arch_defs.specs.Interrupts.{hs_order, is_enabled, is_pending}
use Rattle.arch_defs.specs.Memory.{ram_base, block_size, loaded}
use Rattle.arch_defs.specs.Registers.{read, a7, virtual_at}
use Rattle.arch_defs.specs.Spaces.{Space}
use Rattle.arch_defs.specs.Traps.{entered_by_trap, target}
use Rattle.arch_defs.specs.Waits.{wake_moment}
use Rattle.machine_defs.specs.declared.events.Event.{Event}
use Rattle.machine_defs.specs.declared.events.Event.TheVariants as event
use Rattle.guest_settings.specs.declared.guests.GuestSpec.{GuestSpec}
use Rattle.guest_settings.specs.declared.statuses.Status.{Status}
use Rattle.guest_settings.specs.declared.statuses.Status.TheVariants as status

-- a machine without its RAM and its spaces: registers with the first-stage translations, clock with its
-- timer, console with its unread inputs, count of steps, and status. The execution environment is part of it
-- (own)
pub record Platform : Type 0 where
  pub virt : Virtual
  pub clock : Times
  pub console : ConsoleState
  pub steps : ℕ
  pub status : Status

-- a machine: its platform, its RAM, and its spaces, the most recently entered first, with how many there may
-- be and of how many entries; and whether it has the device page
pub record Machine : Type 0 where
  pub platform : Platform
  pub ram : List ℕ
  pub spaces : List Space
  pub space_room : ℕ
  pub entry_room : ℕ
  pub device : Bool

-- a platform with these registers; its first-stage translations stay
abbrev pub with_registers : Platform → Virtual → Platform
with_registers p virt = record p { virt = record virt { first = p.virt.first } }

-- a machine with these first-stage translations
abbrev pub with_first : Machine → List FirstEntry → Machine
with_first m first =
    record m { platform = record m.platform { virt = record m.platform.virt { first = first } } }

-- the registers that the clock sets: the pending timer and external interrupt of sip, and time
abbrev pub with_lines : Csrs → ℕ → Bool → Bool → Csrs
with_lines csrs clock timer external =
    record csrs { sip = record csrs.sip { timer = timer; external = external }; time = clock }

-- the platform with these as its clock and its console have them
abbrev pub with_pending_lines : Platform → Platform
with_pending_lines p =
    let csrs =
    with_lines p.virt.csrs p.clock.time (is_due p.clock) (has_input p.console.inputs p.clock.time) in
    record p { virt = record p.virt { csrs = csrs } }

-- the machine of a guest at its start (own)
unfoldable pub start : GuestSpec → Machine
start guest = record {
  platform = with_pending_lines (record {
    virt = virtual_at HS ram_base;
    clock = times_at_start;
    console = record { bytes = []; room = guest.console; inputs = guest.inputs };
    steps = 0;
    status = status.Running;
  });
  ram = loaded (guest.blocks * block_size) guest.image;
  spaces = [];
  space_room = guest.spaces;
  entry_room = guest.entries;
  device = guest.device;
}

-- a step has been made, after which the clock is at a moment: the next one, where the step was not a wait
abbrev pub made_by : Platform → ℕ → Platform
made_by p moment =
    with_pending_lines (record p { clock = record p.clock { time = moment }; steps = p.steps + 1 })

abbrev pub ticked : Platform → Platform
ticked p = made_by p (p.clock.time + 1)

-- what a call of the execution environment leaves
abbrev pub with_call : Platform → CallState → Platform
with_call p s =
    record p { virt = record p.virt { regs = s.regs }; clock = s.clock; console = s.console }

-- the machine has stopped, if it was told to
abbrev pub stopped_if : Bool → Platform → Platform
stopped_if stops p = if stops then record p { status = status.Stopped } else p

-- the call whose number is in a7; number 8 stops the machine
abbrev pub called : Platform → Platform
called p = stopped_if (read p.virt.regs a7 == 8)
    (with_call p (environment (state_of p.virt.regs p.clock p.console)))

-- how a try ends: the machine after the step and what the step was, or a wait for good
pub data Tried : Type 0 where
  Ended : Machine → Event → Tried
  WaitsForGood : Tried

-- a step that leaves this platform, and all else as it was
abbrev pub stepped_to : Machine → Platform → Event → Tried
stepped_to m platform event = Ended (record m { platform = ticked platform }) event

-- a trap is taken, which is a step
abbrev pub trapped : Machine → Trap → Tried
trapped m trap = stepped_to m (with_registers m.platform (entered_by_trap m.platform.virt trap))
    (event.Trap (target m.platform.virt.csrs m.platform.virt.mode trap) trap.interrupt)

-- a wait that ends at a moment is a step, after which the clock is there
abbrev pub waited_until : Machine → Virtual → Option ℕ → Tried
waited_until m virt (Some moment) =
    Ended (record m { platform = made_by (with_registers m.platform virt) moment }) event.System
waited_until m virt None = WaitsForGood

-- whether an interrupt is pending and enabled, whoever takes it and whether it is taken now or not
abbrev pub has_enabled_interrupt : Csrs → Bool
has_enabled_interrupt csrs = list_any (λ code. is_pending csrs code && is_enabled csrs code) hs_order

-- a WFI: where an interrupt is pending and enabled it goes on at once, and else it waits for the wake moment
-- (own, within 3.3.3)
abbrev pub waited : Machine → Virtual → Tried
waited m virt = let p = m.platform in
    if has_enabled_interrupt p.virt.csrs then stepped_to m (with_registers p virt) event.System
    else waited_until m virt (wake_moment p.virt.csrs.sie p.clock.timer (next_input p.console.inputs))
