-- The device page: a console at one page of guest physical addresses (own).
use Rattle.std.specs.Prelude.{ℕ, ◌+◌, ◌*◌, ◌/◌, ◌%◌, Bool, ◌&&◌, ◌==◌, [], ◌∷◌, ◌++◌, Option, Some, None, unwrap_or, if◌then◌else◌}
use Rattle.arch_defs.specs.Bits.{bit_number}
use Rattle.arch_defs.specs.Consoles.{ConsoleState, has_room}
use Rattle.arch_defs.specs.Inputs.{arrived_byte, has_input, unread_after}

-- its frame: that of the page from 0x10000000 on
abbrev pub device_frame : ℕ
device_frame = 0x10000

abbrev pub is_on_device : ℕ → Bool
is_on_device place = place / 4096 == device_frame

-- the place on it that has the offset of an address
abbrev pub device_place : ℕ → ℕ
device_place address = device_frame * 4096 + address % 4096

-- what a load or a store of it gives, and the console after it
pub record DeviceEnd : Type 0 where
  pub value : ℕ
  pub console : ConsoleState

-- a byte of output is dropped where the console is full
abbrev pub with_output : ConsoleState → ℕ → ConsoleState
with_output console byte =
    if has_room console then record console { bytes = console.bytes ++ byte ∷ [] } else console

-- what the two lowest bits of the status say: an input has come, and the console has room
abbrev pub device_status : ConsoleState → ℕ → ℕ
device_status console clock =
    bit_number 0 (has_input console.inputs clock) + bit_number 1 (has_room console)

-- a load of that many bytes at an offset: the byte at 0 is the input that has come, which is read, or else 0;
-- the doubleword at 8 is the status; there is no other
unfoldable pub device_loaded : ℕ → ℕ → ConsoleState → ℕ → Option DeviceEnd
device_loaded offset bytes console clock =
    if offset == 0 && bytes == 1 then Some (record {
      value = unwrap_or (arrived_byte console.inputs clock) 0;
      console = record console { inputs = unread_after console.inputs clock };
    })
    else if offset == 8 && bytes == 8 then Some (record {
      value = device_status console clock;
      console = console;
    })
    else None

-- a store: of a byte at 0 alone
unfoldable pub device_stored : ℕ → ℕ → ℕ → ConsoleState → Option DeviceEnd
device_stored offset bytes value console =
    if offset == 0 && bytes == 1 then Some (record { value = 0; console = with_output console (value % 256) })
    else None
