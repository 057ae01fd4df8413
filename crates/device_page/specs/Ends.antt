-- How an access to the device page ends, and what it leaves.
use Rattle.std.specs.Prelude.{ℕ, ◌≡◌, Bool, true, false, Option, Some, None}
use Rattle.arch_defs.specs.declared.registers.Virtual.{Virtual}
use Rattle.arch_defs.specs.Consoles.{ConsoleState}
use Rattle.arch_defs.specs.Devices.{DeviceEnd, device_loaded, device_stored}
use Rattle.machine_defs.specs.DeviceSteps.{DeviceCompletion}

-- a store of a number, or else a load
abbrev pub device_accessed : ℕ → ℕ → Option ℕ → ConsoleState → ℕ → Option DeviceEnd
device_accessed offset bytes (Some value) console clock = device_stored offset bytes value console
device_accessed offset bytes None console clock = device_loaded offset bytes console clock

-- it gives the value, and leaves the console as its end has it; where there is no end it gives none, and
-- changes nothing
abbrev pub IsPageAccess : Option DeviceEnd → ConsoleState → Option ℕ → ConsoleState → Type 0
IsPageAccess None before result after = (result ≡ None) × (after ≡ before)
IsPageAccess (Some end) before result after = (result ≡ Some end.value) × (after ≡ end.console)

-- an instruction is made, and leaves the registers and the console so; or it is not, and changes nothing
abbrev pub IsServed : Option DeviceCompletion → Virtual → ConsoleState → Bool → Virtual
    → ConsoleState → Type 0
IsServed None virt before result state after = (result ≡ false) × (state ≡ virt) × (after ≡ before)
IsServed (Some completion) virt before result state after =
    (result ≡ true) × (state ≡ completion.virt) × (after ≡ completion.console)
