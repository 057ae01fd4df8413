-- A machine as bytes (own): eight letters, the header, the console's bytes and unread inputs, the spaces and
-- the first-stage translations, each behind a count, and RAM.
use Rattle.std.specs.Prelude.{ℕ, ◌+◌, ◌*◌, List, [], ◌∷◌, ◌++◌, length}
use Rattle.std.specs.List.{flat_map}
use Rattle.arch_defs.specs.declared.cached.Entry.{Entry}
use Rattle.arch_defs.specs.declared.first.FirstEntry.{FirstEntry}
use Rattle.arch_defs.specs.declared.first.Tag.{Tag}
use Rattle.arch_defs.specs.declared.first.Tag.TheVariants.{Flat, Nested}
use Rattle.arch_defs.specs.Bits.{bit_number}
use Rattle.arch_defs.specs.CsrBits.{hgatp_bits, satp_bits}
use Rattle.arch_defs.specs.Spaces.{Space}
use Rattle.guest_save.specs.declared.versions.Version.{Version}
use Rattle.guest_save.specs.declared.versions.Version.TheVariants.{First, Second, Third}
use Rattle.guest_save.specs.Headers.{header_numbers, header_of}
use Rattle.guest_save.specs.Numbers.{number_bytes, numbers}
use Rattle.guest_save.specs.Versions.{version_letters}
use Rattle.machine_defs.specs.Machine.{Machine}

-- an input of the console: its moment, and its byte
abbrev pub input_form : ℕ × ℕ → List ℕ
input_form input = number_bytes input.0 ++ input.1 ∷ []

-- what an entry permits, and the level of its leaf
abbrev pub flags_of : Entry → ℕ
flags_of e = bit_number 0 e.r + bit_number 1 e.w + bit_number 2 e.x + 8 * e.level

abbrev pub entry_form : Entry → List ℕ
entry_form e = numbers (e.page ∷ e.frame ∷ flags_of e ∷ [])

-- a space: its key, and its entries, oldest first
abbrev pub space_form : Space → List ℕ
space_form s =
    number_bytes (hgatp_bits s.key) ++ (number_bytes (length s.entries) ++ flat_map entry_form s.entries)

-- for whom a first-stage translation is: V and hgatp, or twice 0
abbrev pub tag_numbers : Tag → ℕ × ℕ
tag_numbers Flat = (0, 0)
tag_numbers (Nested hgatp) = (1, hgatp_bits hgatp)

-- what it permits, and the level of its leaf
abbrev pub first_flags_of : FirstEntry → ℕ
first_flags_of e =
    bit_number 0 e.r + bit_number 1 e.w + bit_number 2 e.x + 8 * e.level + bit_number 5 e.u

-- a first-stage translation: for whom it is, satp or vsatp, its page, its frame, and its flags
abbrev pub first_numbers : FirstEntry → List ℕ
first_numbers e = let tag = tag_numbers e.tag in
    tag.0 ∷ tag.1 ∷ satp_bits e.atp ∷ e.page ∷ e.frame ∷ first_flags_of e ∷ []

abbrev pub first_entry_form : FirstEntry → List ℕ
first_entry_form e = numbers (first_numbers e)

-- the parts of a form, last one first, each with what comes after it. First-stage translations are oldest
-- first, and told by the third version alone; spaces are front first
unfoldable pub first_form : Version → Machine → List ℕ → List ℕ
first_form First m rest = rest
first_form Second m rest = rest
first_form Third m rest = let first = m.platform.virt.first in
    number_bytes (length first) ++ (flat_map first_entry_form first ++ rest)

unfoldable pub spaces_form : Version → Machine → List ℕ → List ℕ
spaces_form version m rest =
    number_bytes (length m.spaces) ++ (flat_map space_form m.spaces ++ first_form version m rest)

unfoldable pub inputs_form : Version → Machine → List ℕ → List ℕ
inputs_form version m rest = let inputs = m.platform.console.inputs in
    number_bytes (length inputs) ++ (flat_map input_form inputs ++ spaces_form version m rest)

unfoldable pub console_form : Version → Machine → List ℕ → List ℕ
console_form version m rest = let bytes = m.platform.console.bytes in
    number_bytes (length bytes) ++ (bytes ++ inputs_form version m rest)

unfoldable pub form_with : Version → Machine → List ℕ → List ℕ
form_with version m rest =
    version_letters version ++ (numbers (header_numbers version (header_of m)) ++ console_form version m rest)

-- all of a machine but its RAM, and all of it
abbrev pub front_form : Version → Machine → List ℕ
front_form version m = form_with version m []

abbrev pub form_of : Version → Machine → List ℕ
form_of version m = form_with version m m.ram

-- the form that is written
abbrev pub form : Machine → List ℕ
form m = form_of Third m
