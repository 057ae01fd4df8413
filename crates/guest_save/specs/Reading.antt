-- The machine that any bytes give. Past their end a number is 0, and a count that is too large counts what
-- may be there; whether the bytes are a machine's form is tested by writing the form again.
use Rattle.std.specs.Prelude.{ℕ, zero, suc, ◌*◌, Bool, false, List, [], ◌∷◌, drop, take, slice_index, nat_le, ◌==◌, if◌then◌else◌}
use Rattle.arch_defs.specs.declared.cached.Entry.{Entry}
use Rattle.arch_defs.specs.declared.first.FirstEntry.{FirstEntry}
use Rattle.arch_defs.specs.declared.first.Tag.{Tag}
use Rattle.arch_defs.specs.declared.first.Tag.TheVariants.{Flat, Nested}
use Rattle.arch_defs.specs.declared.roots.SupervisorRoot.TheVariants.{Bare}
use Rattle.arch_defs.specs.Bits.{bit, field}
use Rattle.arch_defs.specs.CsrBits.{guest_root_of, supervisor_root_of}
use Rattle.arch_defs.specs.FirstEntries.{first_room}
use Rattle.arch_defs.specs.Spaces.{Space}
use Rattle.guest_save.specs.declared.headers.Header.{Header}
use Rattle.guest_save.specs.declared.versions.Version.{Version}
use Rattle.guest_save.specs.declared.versions.Version.TheVariants.{First, Second, Third}
use Rattle.guest_save.specs.Headers.{header_in}
use Rattle.guest_save.specs.Numbers.{items_in, number_in, leading_numbers}
use Rattle.guest_save.specs.Versions.{header_end, later_begin, version_in}
use Rattle.guest_settings.specs.Limits.{most_console, most_entries, most_inputs, most_spaces}
use Rattle.machine_defs.specs.Machine.{Machine, Platform, with_pending_lines}

abbrev pub capped : ℕ → ℕ → ℕ
capped most n = if nat_le n most then n else most

-- the count that bytes begin with
abbrev pub count_in : ℕ → List ℕ → ℕ
count_in most bytes = capped most (number_in bytes)

abbrev pub input_of : List ℕ → ℕ × ℕ
input_of bytes = (number_in bytes, slice_index (drop 8 bytes) 0)

abbrev pub leading_inputs : ℕ → List ℕ → List (ℕ × ℕ)
leading_inputs count bytes = items_in input_of 9 count bytes

abbrev pub entry_from_numbers : List ℕ → Entry
entry_from_numbers ns = let flags = slice_index ns 2 in record {
  page = slice_index ns 0;
  frame = slice_index ns 1;
  r = bit 0 flags;
  w = bit 1 flags;
  x = bit 2 flags;
  level = field 3 8 flags;
}

abbrev pub entry_in : List ℕ → Entry
entry_in bytes = entry_from_numbers (leading_numbers 3 bytes)

abbrev pub entries_in : ℕ → List ℕ → List Entry
entries_in count bytes = items_in entry_in 24 count bytes

abbrev pub entry_count : List ℕ → ℕ
entry_count bytes = count_in most_entries (drop 8 bytes)

abbrev pub space_in : List ℕ → Space
space_in bytes =
    record { key = guest_root_of (number_in bytes); entries = entries_in (entry_count bytes) (drop 16 bytes) }

-- what is left after a space, and after that many
abbrev pub after_space : List ℕ → List ℕ
after_space bytes = drop (24 * entry_count bytes) (drop 16 bytes)

unfoldable pub leading_spaces : ℕ → List ℕ → List Space
leading_spaces zero bytes = []
leading_spaces (suc k) bytes = space_in bytes ∷ leading_spaces k (after_space bytes)

unfoldable pub after_spaces : ℕ → List ℕ → List ℕ
after_spaces zero bytes = bytes
after_spaces (suc k) bytes = after_spaces k (after_space bytes)

-- for whom a first-stage translation is, whatever the numbers are
abbrev pub tag_in : ℕ → ℕ → Tag
tag_in v hgatp = if v == 0 then Flat else Nested (guest_root_of hgatp)

abbrev pub first_entry_of : List ℕ → FirstEntry
first_entry_of ns = let flags = slice_index ns 5 in record {
  tag = tag_in (slice_index ns 0) (slice_index ns 1);
  atp = supervisor_root_of Bare (slice_index ns 2);
  page = slice_index ns 3;
  frame = slice_index ns 4;
  r = bit 0 flags;
  w = bit 1 flags;
  x = bit 2 flags;
  u = bit 5 flags;
  level = field 3 2 flags;
}

abbrev pub first_entry_in : List ℕ → FirstEntry
first_entry_in bytes = first_entry_of (leading_numbers 6 bytes)

abbrev pub first_entries_in : ℕ → List ℕ → List FirstEntry
first_entries_in count bytes = items_in first_entry_in 48 count bytes

-- the first-stage translations that bytes tell, and what is left behind them: in the first version and in the
-- second there are none
abbrev pub first_in : Version → List ℕ → List FirstEntry
first_in First bytes = []
first_in Second bytes = []
first_in Third bytes = first_entries_in (count_in first_room bytes) (drop 8 bytes)

abbrev pub after_first : Version → List ℕ → List ℕ
after_first First bytes = bytes
after_first Second bytes = bytes
after_first Third bytes = drop (48 * count_in first_room bytes) (drop 8 bytes)

-- the platform of a header and of first-stage translations, with the bits that the clock and the console set
abbrev pub platform_in : Header → List ℕ → List (ℕ × ℕ) → List FirstEntry → Platform
platform_in h bytes inputs first = with_pending_lines (record {
  virt = record h.state { first = first };
  clock = record { time = h.time; timer = h.timer };
  console = record { bytes = bytes; room = h.console; inputs = inputs };
  steps = h.steps;
  status = h.status;
})

-- the machine of its parts
abbrev pub machine_with : Header → List ℕ → List (ℕ × ℕ) → List Space → List FirstEntry → List ℕ → Machine
machine_with h console inputs spaces first ram = record {
  platform = platform_in h console inputs first;
  ram = ram;
  spaces = spaces;
  space_room = h.spaces;
  entry_room = h.entries;
  device = h.device;
}

-- the machine of the parts before each part, and of the bytes from it on. RAM is what is left
unfoldable pub from_spaces : Version → Header → List ℕ → List (ℕ × ℕ) → List ℕ → Machine
from_spaces version h console inputs bytes =
    let k = count_in most_spaces bytes in
    let rest = after_spaces k (drop 8 bytes) in
    machine_with h console inputs (leading_spaces k (drop 8 bytes)) (first_in version rest)
    (after_first version rest)

unfoldable pub from_inputs : Version → Header → List ℕ → List ℕ → Machine
from_inputs version h console bytes = let k = count_in most_inputs bytes in
    from_spaces version h console (leading_inputs k (drop 8 bytes)) (drop (9 * k) (drop 8 bytes))

unfoldable pub from_console : Version → Header → List ℕ → Machine
from_console version h bytes = let k = count_in most_console bytes in
    from_inputs version h (take k (drop 8 bytes)) (drop k (drop 8 bytes))

-- whether bytes tell the device page: in the first version it is not there
abbrev pub device_in : Version → List ℕ → Bool
device_in First bytes = false
device_in Second bytes = bit 0 (number_in (drop 40 bytes))
device_in Third bytes = bit 0 (number_in (drop 40 bytes))

-- the header of bytes in a version
abbrev pub header_by : Version → List ℕ → Header
header_by version bytes = header_in (leading_numbers 4 (drop 8 bytes)) (device_in version bytes)
    (leading_numbers 68 (drop (later_begin version) bytes))

-- the machine of bytes in a version, and in that which they tell
unfoldable pub machine_by : Version → List ℕ → Machine
machine_by version bytes =
    from_console version (header_by version bytes) (drop (header_end version) bytes)

abbrev pub machine_in : List ℕ → Machine
machine_in bytes = machine_by (version_in bytes) bytes
