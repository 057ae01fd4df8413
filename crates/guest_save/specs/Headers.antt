-- The header of a form: the numbers that a form of each machine has, 73 or, in the first version, 72 (own).
use Rattle.std.specs.Prelude.{ℕ, Bool, ◌/◌, ◌%◌, List, [], ◌∷◌, ◌++◌, Option, Some, None, length, drop, take, slice_index, ◌==◌, if◌then◌else◌}
use Rattle.arch_defs.specs.declared.modes.Mode.{Mode}
use Rattle.arch_defs.specs.declared.modes.Mode.TheVariants.{HS, U, VS, VU}
use Rattle.arch_defs.specs.declared.registers.Regs.{Regs}
use Rattle.arch_defs.specs.declared.registers.Virtual.{Virtual}
use Rattle.arch_defs.specs.Memory.{block_size}
use Rattle.guest_settings.specs.declared.statuses.Status.{Status}
use Rattle.guest_settings.specs.declared.statuses.Status.TheVariants.{Running, Waiting, Stopped}
use Rattle.arch_defs.specs.Bits.{bit_number}
use Rattle.guest_save.specs.declared.headers.Header.{Header}
use Rattle.guest_save.specs.declared.versions.Version.{Version}
use Rattle.guest_save.specs.declared.versions.Version.TheVariants.{First, Second, Third}
use Rattle.guest_save.specs.Registers.{csr_numbers, csrs_in}
use Rattle.machine_defs.specs.Machine.{Machine}

abbrev pub status_number : Status → ℕ
status_number Running = 0
status_number Waiting = 1
status_number Stopped = 2

abbrev pub mode_number : Mode → ℕ
mode_number HS = 0
mode_number U = 1
mode_number VS = 2
mode_number VU = 3

-- a reservation: its width and its address, or twice 0
abbrev pub reservation_numbers : Option (ℕ × ℕ) → List ℕ
reservation_numbers None = 0 ∷ 0 ∷ []
reservation_numbers (Some (place, bytes)) = bytes ∷ place ∷ []

-- sizes
abbrev pub size_numbers : Header → List ℕ
size_numbers h = h.blocks ∷ h.spaces ∷ h.entries ∷ h.console ∷ []

-- whether there is the device page, as 0 or 1
abbrev pub device_numbers : Version → Header → List ℕ
device_numbers First h = []
device_numbers Second h = bit_number 0 h.device ∷ []
device_numbers Third h = bit_number 0 h.device ∷ []

-- progress, mode and pc
abbrev pub progress_numbers : Header → List ℕ
progress_numbers h =
    status_number h.status ∷ h.steps ∷ h.time ∷ h.timer ∷ mode_number h.state.mode ∷ h.state.regs.pc ∷ []

-- control and status registers, and the reservation
abbrev pub state_numbers : Virtual → List ℕ
state_numbers state = csr_numbers state.csrs ++ reservation_numbers state.reservation

-- x1 to x31
abbrev pub numbered : Regs → List ℕ
numbered regs = take 31 (drop 1 regs.x)

-- those behind the sizes and the device page, and all of them
abbrev pub later_numbers : Header → List ℕ
later_numbers h = progress_numbers h ++ (numbered h.state.regs ++ state_numbers h.state)

abbrev pub header_numbers : Version → Header → List ℕ
header_numbers version h = size_numbers h ++ (device_numbers version h ++ later_numbers h)

-- how many blocks of RAM a machine has
abbrev pub blocks_of : Machine → ℕ
blocks_of m = length m.ram / block_size

-- the header of a machine. Its state has no first-stage translations, which stand behind the spaces
abbrev pub header_of : Machine → Header
header_of m = record {
  blocks = blocks_of m;
  spaces = m.space_room;
  entries = m.entry_room;
  console = m.platform.console.room;
  device = m.device;
  status = m.platform.status;
  steps = m.platform.steps;
  time = m.platform.clock.time;
  timer = m.platform.clock.timer;
  state = record m.platform.virt { first = [] };
}

-- a status, a mode and a reservation, whatever the numbers are
abbrev pub status_by_number : ℕ → Status
status_by_number n = if n == 0 then Running else if n == 1 then Waiting else Stopped

abbrev pub mode_by_number : ℕ → Mode
mode_by_number n = if n == 0 then HS else if n == 1 then U else if n == 2 then VS else VU

abbrev pub reservation_of : ℕ → ℕ → Option (ℕ × ℕ)
reservation_of width place = if width == 0 then None else Some (place, width % 256)

-- the header of the four sizes, whether there is the device page, and the 68 numbers behind it
unfoldable pub header_in : List ℕ → Bool → List ℕ → Header
header_in sizes device ns = record {
  blocks = slice_index sizes 0;
  spaces = slice_index sizes 1;
  entries = slice_index sizes 2;
  console = slice_index sizes 3;
  device = device;
  status = status_by_number (slice_index ns 0);
  steps = slice_index ns 1;
  time = slice_index ns 2;
  timer = slice_index ns 3;
  state = record {
    regs = record { x = 0 ∷ take 31 (drop 6 ns); pc = slice_index ns 5 };
    csrs = csrs_in (drop 37 ns);
    mode = mode_by_number (slice_index ns 4);
    reservation = reservation_of (slice_index ns 66) (slice_index ns 67);
    first = [];
  };
}
