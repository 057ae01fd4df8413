-- Loads and stores of the device page (own).
use Rattle.std.specs.Prelude.{ℕ, ◌%◌, Bool, Option, Some, None, option_map, if◌then◌else◌}
use Rattle.arch_defs.specs.declared.registers.Virtual.{Virtual}
use Rattle.arch_defs.specs.declared.walks.MissingPlace.{MissingPlace}
use Rattle.arch_defs.specs.declared.widths.Width.{Width}
use Rattle.arch_defs.specs.Consoles.{ConsoleState}
use Rattle.arch_defs.specs.Devices.{DeviceEnd, device_loaded, device_stored}
use Rattle.arch_defs.specs.Registers.{passed, sets}
use Rattle.arch_defs.specs.SecondStage.{is_implicit}
use Rattle.arch_defs.specs.Traps.{missing_place_fault}
use Rattle.arch_defs.specs.Widths.{bytes_in, extended}
use Rattle.op_defs.specs.declared.ops.DataAccess.{DataAccess}
use Rattle.op_defs.specs.declared.ops.Purpose.{Purpose}
use Rattle.op_defs.specs.declared.ops.Purpose.TheVariants.{Load, LoadCode, Store, Reserve, StoreReserved, Modify}
use Rattle.machine_defs.specs.declared.events.Event.TheVariants as event
use Rattle.machine_defs.specs.Machine.{Machine, Tried, stepped_to, trapped, with_registers}

-- what a load or a store of the page leaves of the registers and of the console
pub record DeviceCompletion : Type 0 where
  pub virt : Virtual
  pub console : ConsoleState

abbrev pub with_loaded : Virtual → Width → Bool → ℕ → DeviceEnd → DeviceCompletion
with_loaded virt width signed rd end =
    record { virt = sets virt rd (extended width signed end.value); console = end.console }

abbrev pub with_put : Virtual → DeviceEnd → DeviceCompletion
with_put virt end = record { virt = passed virt; console = end.console }

-- an access of this width and purpose at an offset, if the page serves it: HLVX, LR, SC and atomic memory
-- operations it does not
abbrev pub device_completed : Virtual → ConsoleState → ℕ → ℕ → Width → Purpose → Option DeviceCompletion
device_completed virt console clock offset width (Load signed rd) =
    option_map (with_loaded virt width signed rd) (device_loaded offset (bytes_in width) console clock)
device_completed virt console clock offset width (LoadCode rd) = None
device_completed virt console clock offset width (Store value) =
    option_map (with_put virt) (device_stored offset (bytes_in width) value console)
device_completed virt console clock offset width (Reserve rd) = None
device_completed virt console clock offset width (StoreReserved value rd) = None
device_completed virt console clock offset width (Modify op operand rd) = None

-- it is a step, which is not plain; one that the page does not serve is an access fault
abbrev pub served : Machine → MissingPlace → Option DeviceCompletion → Tried
served m missing None = trapped m (missing_place_fault missing)
served m missing (Some completion) =
    stepped_to m (record (with_registers m.platform completion.virt) { console = completion.console })
    event.System

abbrev pub device_step : Machine → MissingPlace → Width → Purpose → Tried
device_step m missing width purpose = let p = m.platform in
    served m missing
    (device_completed p.virt p.console p.clock.time (missing.address % 4096) width purpose)

-- a fetch and the read of an entry there are access faults too
abbrev pub device_wanted : Machine → MissingPlace → Option DataAccess → Tried
device_wanted m missing None = trapped m (missing_place_fault missing)
device_wanted m missing (Some wanted) = device_step m missing wanted.width wanted.purpose

abbrev pub on_device : Machine → MissingPlace → Option DataAccess → Tried
on_device m missing wanted =
    if is_implicit missing.kind then trapped m (missing_place_fault missing)
    else device_wanted m missing wanted
