-- The fields of a console.
use Rattle.std.specs.Prelude.{◌≤◌, drop, length, vec_capacity}
use Rattle.guest_settings.specs.Inputs.{AreInputs}
use Rattle.console_dev.specs.declared.consoles.Console.TheInside.{Inside}
use Rattle.arch_defs.specs.Consoles.{ConsoleState}

-- the inputs from the first that is not read on
abbrev pub console_state : Inside → ConsoleState
console_state c = record { bytes = c.bytes.items; room = c.room; inputs = drop c.read c.inputs.items }

-- the room is reserved and not exceeded, and the inputs are such as a console may be given
pub record IsSound (c : Inside) : Type 0 where
  pub reserved : c.room ≤ vec_capacity c.bytes
  pub within : length c.bytes.items ≤ c.room
  pub read : c.read ≤ length c.inputs.items
  pub inputs : AreInputs c.inputs.items
