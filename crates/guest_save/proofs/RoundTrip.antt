-- A machine that can be saved, read again.
use Rattle.std.specs.List.{All, flat_map}
use Rattle.std.specs.Prelude.{Bool, true, false, Option, Some, None, slice_index}
use Rattle.std.proofs.Common.{◌≡◌, ℕ, ◌+◌, ◌*◌, ◌^◌, ◌<◌, ◌≤◌, ◌⊎◌, inl, inr, List, [], ◌∷◌, ◌++◌, length, take, drop, refl, ap, ◌∙◌, sym, subst, arith, append_assoc, length-append, length-drop}
use Rattle.std.proofs.lemmas.List.{append_cancel_right, drop_at, get_or-append-add, length-take, take_all, take_at, take-append-drop}
use Rattle.std.proofs.lemmas.List.Concat.{flat_map-append}
use Rattle.std.proofs.lemmas.List.Elements.{All-cons, All-head, All-nil, All-tail, All-weaker}
use Rattle.arch_defs.specs.declared.cached.Entry.{Entry}
use Rattle.arch_defs.specs.declared.modes.Mode.{Mode}
use Rattle.arch_defs.specs.declared.modes.Mode.TheVariants.{HS, U, VS, VU}
use Rattle.arch_defs.specs.declared.roots.GuestMode.TheVariants.{Sv39x4, Sv48x4}
use Rattle.arch_defs.specs.declared.roots.GuestRoot.{GuestRoot}
use Rattle.arch_defs.specs.declared.roots.GuestRoot.TheVariants.{Bare, Table}
use Rattle.arch_defs.specs.Bits.{bit, bit_number}
use Rattle.arch_defs.specs.Clocks.{is_due}
use Rattle.arch_defs.specs.Inputs.{has_input}
use Rattle.arch_defs.specs.Spaces.{Space}
use Rattle.guest_save.proofs.Eights.{after_number, number_again, numbers_length, so_many_again}
use Rattle.guest_save.proofs.CountedFirst.{after_first_again, first_again}
use Rattle.guest_save.proofs.CountedParts.{FitsForm, SpaceFits, after_inputs, after_spaces_again, count_again, inputs_again, spaces_again}
use Rattle.guest_save.proofs.StoredRegisters.{csrs_again}
use Rattle.guest_save.specs.declared.headers.Header.{Header}
use Rattle.guest_save.specs.declared.versions.Version.{Version}
use Rattle.guest_save.specs.declared.versions.Version.TheVariants.{First, Second, Third}
use Rattle.guest_save.specs.Forms.{console_form, first_entry_form, first_form, form_of, form_with, front_form, input_form, inputs_form, space_form, spaces_form}
use Rattle.guest_save.specs.Headers.{device_numbers, header_in, header_numbers, header_of, later_numbers, mode_number, mode_by_number, numbered, progress_numbers, reservation_numbers, reservation_of, size_numbers, state_numbers, status_number, status_by_number}
use Rattle.guest_save.specs.Laws.{BadExactly, FrontDecides, RoundTrip}
use Rattle.guest_save.specs.Numbers.{number_bytes, number_in, numbers, leading_numbers}
use Rattle.guest_save.specs.Reading.{from_console, from_inputs, from_spaces, device_in, machine_by, machine_with, platform_in}
use Rattle.guest_save.specs.Registers.{csr_numbers, csrs_in}
use Rattle.guest_save.specs.Savable.{Fits, IsInReach, IsSavable, IsSavableEntry, IsSavableSpace}
use Rattle.guest_save.specs.Saves.{SavedMachine, saved_form, saved_machine_in}
use Rattle.guest_save.specs.Versions.{CanTell, header_end, later_begin, version_letters, version_in}
use Rattle.guest_settings.specs.declared.statuses.Status.{Status}
use Rattle.guest_settings.specs.declared.statuses.Status.TheVariants.{Running, Waiting, Stopped}
use Rattle.machine_defs.specs.Machine.{Machine, with_lines, with_pending_lines}
use Rattle.run_laws.specs.StorableStates.{ReservesAligned}

-- the small numbers of a header
status_again : (status : Status) → status_by_number (status_number status) ≡ status
status_again Running = refl
status_again Waiting = refl
status_again Stopped = refl

mode_again : (mode : Mode) → mode_by_number (mode_number mode) ≡ mode
mode_again HS = refl
mode_again U = refl
mode_again VS = refl
mode_again VU = refl

reservation_again : (reservation : Option (ℕ × ℕ)) → ReservesAligned reservation
    → reservation_of (slice_index (reservation_numbers reservation) 0) (slice_index (reservation_numbers reservation) 1) ≡ reservation
reservation_again None aligned = refl
reservation_again (Some (place, bytes)) (whole, width) = by width
  where
    by : (bytes ≡ 4) ⊎ (bytes ≡ 8) → reservation_of bytes place ≡ Some (place, bytes)
    by (inl is) = rw is refl
    by (inr is) = rw is refl

device_again : (device : Bool) → bit 0 (bit_number 0 device) ≡ device
device_again true = refl
device_again false = refl

-- the registers of a list of 32, the first of which is 0
x_again : (x : List ℕ) → length x ≡ 32 → slice_index x 0 ≡ 0 → 0 ∷ drop 1 x ≡ x
x_again [] size first = absurd (omega (arith, size))
x_again (a ∷ xs) size first = ap (λ n. n ∷ xs) (sym first)

-- what stands behind 31 numbers
behind : (xs ys : List ℕ) (n : ℕ) → length xs ≡ 31 → slice_index (xs ++ ys) (31 + n) ≡ slice_index ys n
behind xs ys n size = rw (← size) (get_or-append-add xs ys n 0)

-- all that a header says of a machine, and its console
pub platform_again : (m : Machine) → IsSavable m
    → platform_in (header_in (size_numbers (header_of m)) m.device (later_numbers (header_of m))) m.platform.console.bytes m.platform.console.inputs m.platform.virt.first ≡ m.platform
unfolding header_in
platform_again m savable =
    let virt = m.platform.virt in
    let xs = take 31 (drop 1 virt.regs.x) in
    let whole : xs ≡ drop 1 virt.regs.x = take_all 31 (drop 1 virt.regs.x) (omega (arith, length-drop 1 virt.regs.x, savable.registers)) in
    let state = state_numbers virt in
    let size : length xs ≡ 31 = omega (arith, ap length whole, length-drop 1 virt.regs.x, savable.registers) in
    let x = ap (λ (ns : List ℕ). 0 ∷ ns) (take_at xs state 31 size ∙ whole) ∙ x_again virt.regs.x savable.registers savable.virt.x0 in
    let time = m.platform.clock.time in
    let timer = is_due m.platform.clock in
    let external = has_input m.platform.console.inputs time in
    let csrs : with_lines (csrs_in (drop 31 (xs ++ state))) time timer external ≡ with_lines virt.csrs time timer external =
    ap (λ (ns : List ℕ). with_lines (csrs_in ns) time timer external) (drop_at xs state 31 size)
    ∙ csrs_again virt.csrs (reservation_numbers virt.reservation) time timer external savable.virt.csrs in
    let reservation : reservation_of (slice_index (xs ++ state) 60) (slice_index (xs ++ state) 61) ≡ virt.reservation =
    rw (behind xs state 29 size, behind xs state 30 size) (reservation_again virt.reservation savable.virt.reservation) in
    let status = status_again m.platform.status in
    let mode = mode_again virt.mode in
    let same : platform_in (header_in (size_numbers (header_of m)) m.device (later_numbers (header_of m))) m.platform.console.bytes m.platform.console.inputs m.platform.virt.first ≡ with_pending_lines m.platform =
    λ i. record {
      virt = record { regs = record { x = x i; pc = virt.regs.pc }; csrs = csrs i; mode = mode i; reservation = reservation i; first = virt.first };
      clock = m.platform.clock;
      console = m.platform.console;
      steps = m.platform.steps;
      status = status i;
    } in
    same ∙ savable.lines

-- entries and spaces that can be saved have room in a form
frame_has_room : (size : ℕ) (device : Bool) → size ≤ 67108864 → (e : Entry) → IsInReach size device e → e.frame < 2 ^ 64
frame_has_room size device small e (inl ram) = omega (arith, ram.1)
frame_has_room size device small e (inr page) = omega (arith, page.1)

entry_has_room : (key : GuestRoot) (size : ℕ) (device : Bool) → size ≤ 67108864 → (e : Entry) → IsSavableEntry key size device e → FitsForm e
entry_has_room Bare size device small e is = absurd (omega (arith, is.page))
entry_has_room (Table Sv39x4 vmid ppn) size device small e is =
    record { page = omega (arith, is.page); frame = frame_has_room size device small e is.frame; level = omega (arith, is.level) }
entry_has_room (Table Sv48x4 vmid ppn) size device small e is =
    record { page = omega (arith, is.page); frame = frame_has_room size device small e is.frame; level = omega (arith, is.level) }

space_has_room : (size room : ℕ) (device : Bool) → size ≤ 67108864 → room ≤ 256 → (s : Space) → IsSavableSpace size room device s → SpaceFits s
space_has_room size room device small few s is = record {
  key = is.key.stored;
  few = omega (arith, is.few);
  entries = All-weaker (IsSavableEntry s.key size device) FitsForm (entry_has_room s.key size device small) s.entries is.entries;
}

pub spaces_have_room : (m : Machine) → IsSavable m → All SpaceFits m.spaces
spaces_have_room m savable =
    All-weaker (IsSavableSpace (length m.ram) m.entry_room m.device) SpaceFits
    (space_has_room (length m.ram) m.entry_room m.device (omega (arith, savable.sizes.whole, savable.sizes.most_blocks)) savable.sizes.most_entries)
    m.spaces savable.spaces

-- each part of a form, from the last one on
from_spaces_again : (version : Version) (m : Machine) (h : Header) (console : List ℕ) (inputs : List (ℕ × ℕ)) (rest : List ℕ) → IsSavable m → CanTell version m
    → from_spaces version h console inputs (spaces_form version m rest) ≡ machine_with h console inputs m.spaces m.platform.virt.first rest
unfolding from_spaces spaces_form
from_spaces_again version m h console inputs rest savable tells =
    let few : length m.spaces ≤ 8 = omega (arith, savable.few, savable.sizes.most_spaces) in
    let last = first_form version m rest in
    let tail = flat_map space_form m.spaces ++ last in
    let fit = spaces_have_room m savable in
    rw (
      count_again 8 (length m.spaces) tail few (omega (arith, few)),
      after_number (length m.spaces) tail,
      spaces_again m.spaces last fit,
      after_spaces_again m.spaces last fit,
      first_again version m rest savable tells,
      after_first_again version m rest savable,
    ) refl

from_inputs_again : (version : Version) (m : Machine) (h : Header) (console rest : List ℕ) → IsSavable m
    → from_inputs version h console (inputs_form version m rest) ≡ from_spaces version h console m.platform.console.inputs (spaces_form version m rest)
unfolding from_inputs inputs_form
from_inputs_again version m h console rest savable =
    let inputs = m.platform.console.inputs in
    let few = savable.inputs.count in
    let tail = flat_map input_form inputs ++ spaces_form version m rest in
    let early = All-weaker (λ (input : ℕ × ℕ). input.0 < 2 ^ 62) (λ input. input.0 < 2 ^ 64) (λ input below. omega (arith, below)) inputs savable.inputs.moments in
    rw (
      count_again 65536 (length inputs) tail few (omega (arith, few)),
      after_number (length inputs) tail,
      inputs_again inputs (spaces_form version m rest) early,
      after_inputs inputs (spaces_form version m rest),
    ) refl

from_console_again : (version : Version) (m : Machine) (h : Header) (rest : List ℕ) → IsSavable m
    → from_console version h (console_form version m rest) ≡ from_inputs version h m.platform.console.bytes (inputs_form version m rest)
unfolding from_console console_form
from_console_again version m h rest savable =
    let bytes = m.platform.console.bytes in
    let few : length bytes ≤ 1048576 = omega (arith, savable.console, savable.sizes.most_console) in
    let tail = bytes ++ inputs_form version m rest in
    rw (
      count_again 1048576 (length bytes) tail few (omega (arith, few)),
      after_number (length bytes) tail,
      take_at bytes (inputs_form version m rest) (length bytes) refl,
      drop_at bytes (inputs_form version m rest) (length bytes) refl,
    ) refl

-- the numbers behind the sizes and the device page
later_length : (h : Header) → length h.state.regs.x ≡ 32 → length (later_numbers h) ≡ 68
later_length h size =
    omega (
      arith,
      length-append (progress_numbers h) (numbered h.state.regs ++ state_numbers h.state),
      length-append (numbered h.state.regs) (state_numbers h.state),
      length-append (csr_numbers h.state.csrs) (reservation_numbers h.state.reservation),
      length-take 31 (drop 1 h.state.regs.x),
      length-drop 1 h.state.regs.x,
      two h.state.reservation,
    )
  where
    two : (reservation : Option (ℕ × ℕ)) → length (reservation_numbers reservation) ≡ 2
    two None = refl
    two (Some (place, bytes)) = refl

sizes_fit : (h : Header) (rest : List ℕ) → All Fits (size_numbers h ++ rest) → All Fits (size_numbers h)
sizes_fit h rest fit =
    let second = All-tail Fits h.blocks (h.spaces ∷ h.entries ∷ h.console ∷ rest) fit in
    let third = All-tail Fits h.spaces (h.entries ∷ h.console ∷ rest) second in
    let fourth = All-tail Fits h.entries (h.console ∷ rest) third in
    All-cons Fits h.blocks (h.spaces ∷ h.entries ∷ h.console ∷ []) (All-head Fits h.blocks (h.spaces ∷ h.entries ∷ h.console ∷ rest) fit)
    (All-cons Fits h.spaces (h.entries ∷ h.console ∷ []) (All-head Fits h.spaces (h.entries ∷ h.console ∷ rest) second)
    (All-cons Fits h.entries (h.console ∷ []) (All-head Fits h.entries (h.console ∷ rest) third)
    (All-cons Fits h.console [] (All-head Fits h.console rest fourth) (All-nil Fits))))

later_fit : (h : Header) → All Fits (header_numbers Third h) → All Fits (later_numbers h)
later_fit h fit =
    let rest = device_numbers Third h ++ later_numbers h in
    All-tail Fits (bit_number 0 h.device) (later_numbers h)
    (All-tail Fits h.console rest
    (All-tail Fits h.entries (h.console ∷ rest)
    (All-tail Fits h.spaces (h.entries ∷ h.console ∷ rest)
    (All-tail Fits h.blocks (h.spaces ∷ h.entries ∷ h.console ∷ rest) fit))))

-- what a header tells of a machine
abbrev header_again : Machine → Header
header_again m = header_in (size_numbers (header_of m)) m.device (later_numbers (header_of m))

letters_length : (version : Version) → length (version_letters version) ≡ 8
letters_length First = refl
letters_length Second = refl
letters_length Third = refl

after_letters : (version : Version) (rest : List ℕ) → drop 8 (version_letters version ++ rest) ≡ rest
after_letters version rest = drop_at (version_letters version) rest 8 (letters_length version)

header_long : (version : Version) (h : Header) → length h.state.regs.x ≡ 32 → 8 + 8 * length (header_numbers version h) ≡ header_end version
header_long First h size = omega (arith, later_length h size)
header_long Second h size = omega (arith, later_length h size)
header_long Third h size = omega (arith, later_length h size)

-- the parts of a header in a form, and what follows it
module _ (version : Version) (m : Machine) (rest : List ℕ) (savable : IsSavable m) where
  abbrev head : Header
  head = header_of m

  abbrev ns : List ℕ
  ns = header_numbers version head

  abbrev text : List ℕ
  text = version_letters version ++ (numbers ns ++ rest)

  sizes_again : leading_numbers 4 (drop 8 text) ≡ size_numbers head
  sizes_again =
      let more = device_numbers version head ++ later_numbers head in
      let parts : numbers ns ++ rest ≡ numbers (size_numbers head) ++ (numbers more ++ rest) =
      ap (λ (xs : List ℕ). xs ++ rest) (flat_map-append number_bytes (size_numbers head) more) ∙ append_assoc (numbers (size_numbers head)) (numbers more) rest in
      ap (leading_numbers 4) (after_letters version (numbers ns ++ rest) ∙ parts)
      ∙ so_many_again 4 (size_numbers head) (numbers more ++ rest) refl (sizes_fit head (device_numbers Third head ++ later_numbers head) savable.numbers)

  after_header : drop (header_end version) text ≡ rest
  after_header =
      ap (drop (header_end version)) (sym (append_assoc (version_letters version) (numbers ns) rest))
      ∙ drop_at (version_letters version ++ numbers ns) rest (header_end version)
      (omega (arith, length-append (version_letters version) (numbers ns), letters_length version, numbers_length ns, header_long version head savable.registers))

-- the numbers behind the sizes and the device page
later_again : (version : Version) (m : Machine) (rest : List ℕ) → IsSavable m
    → leading_numbers 68 (drop (later_begin version) (version_letters version ++ (numbers (header_numbers version (header_of m)) ++ rest))) ≡ later_numbers (header_of m)
later_again version m rest savable =
    let h = header_of m in
    let front = size_numbers h ++ device_numbers version h in
    let later = later_numbers h in
    let ns : header_numbers version h ≡ front ++ later = sym (append_assoc (size_numbers h) (device_numbers version h) later) in
    let parts : version_letters version ++ (numbers (header_numbers version h) ++ rest) ≡ (version_letters version ++ numbers front) ++ (numbers later ++ rest) =
    ap (λ (xs : List ℕ). version_letters version ++ (numbers xs ++ rest)) ns
    ∙ ap (λ (xs : List ℕ). version_letters version ++ (xs ++ rest)) (flat_map-append number_bytes front later)
    ∙ ap (λ (xs : List ℕ). version_letters version ++ xs) (append_assoc (numbers front) (numbers later) rest)
    ∙ sym (append_assoc (version_letters version) (numbers front) (numbers later ++ rest)) in
    ap (λ (xs : List ℕ). leading_numbers 68 (drop (later_begin version) xs)) parts
    ∙ ap (leading_numbers 68) (drop_at (version_letters version ++ numbers front) (numbers later ++ rest) (later_begin version)
    (omega (arith, length-append (version_letters version) (numbers front), letters_length version, numbers_length front, place version h)))
    ∙ so_many_again 68 later rest (later_length h savable.registers) (later_fit h savable.numbers)
  where
    place : (version : Version) (h : Header) → 8 + 8 * length (size_numbers h ++ device_numbers version h) ≡ later_begin version
    place First h = refl
    place Second h = refl
    place Third h = refl

-- whether there is the device page: behind letters that no number has a part in, in a version that can tell the
-- machine
device_number_again : (begin : List ℕ) (m : Machine) (rest : List ℕ) → length begin ≡ 8
    → bit 0 (number_in (drop 40 (begin ++ (numbers (header_numbers Third (header_of m)) ++ rest)))) ≡ m.device
device_number_again begin m rest size =
    let h = header_of m in
    let device = bit_number 0 m.device in
    let tail = numbers (later_numbers h) ++ rest in
    let parts : begin ++ (numbers (header_numbers Third h) ++ rest) ≡ (begin ++ numbers (size_numbers h)) ++ (number_bytes device ++ tail) =
    ap (λ (xs : List ℕ). begin ++ (xs ++ rest)) (flat_map-append number_bytes (size_numbers h) (device ∷ later_numbers h))
    ∙ ap (λ (xs : List ℕ). begin ++ xs) (append_assoc (numbers (size_numbers h)) (number_bytes device ++ numbers (later_numbers h)) rest)
    ∙ sym (append_assoc begin (numbers (size_numbers h)) ((number_bytes device ++ numbers (later_numbers h)) ++ rest))
    ∙ ap (λ (xs : List ℕ). (begin ++ numbers (size_numbers h)) ++ xs) (append_assoc (number_bytes device) (numbers (later_numbers h)) rest) in
    ap (λ (xs : List ℕ). bit 0 (number_in (drop 40 xs))) parts
    ∙ ap (λ (xs : List ℕ). bit 0 (number_in xs)) (drop_at (begin ++ numbers (size_numbers h)) (number_bytes device ++ tail) 40
    (omega (arith, length-append begin (numbers (size_numbers h)), size, numbers_length (size_numbers h))))
    ∙ ap (λ (n : ℕ). bit 0 n) (number_again device tail (small m.device)) ∙ device_again m.device
  where
    small : (b : Bool) → bit_number 0 b < 2 ^ 64
    small true = omega arith
    small false = omega arith

device_told : (version : Version) (m : Machine) (rest : List ℕ) → CanTell version m
    → device_in version (version_letters version ++ (numbers (header_numbers version (header_of m)) ++ rest)) ≡ m.device
device_told First m rest tells = sym tells.0
device_told Second m rest tells = device_number_again (version_letters Second) m rest refl
device_told Third m rest tells = device_number_again (version_letters Third) m rest refl

machine_by_again : (version : Version) (m : Machine) (rest : List ℕ) → IsSavable m → CanTell version m
    → machine_by version (form_with version m rest) ≡ from_console version (header_again m) (console_form version m rest)
unfolding machine_by form_with
machine_by_again version m rest savable tells =
    let tail = console_form version m rest in
    let sizes = sizes_again version m tail savable in
    let device = device_told version m tail tells in
    let later = later_again version m tail savable in
    let after = after_header version m tail savable in
    λ i. from_console version (header_in (sizes i) (device i) (later i)) (after i)

machine_again : (m : Machine) → IsSavable m
    → machine_with (header_again m) m.platform.console.bytes m.platform.console.inputs m.spaces m.platform.virt.first m.ram ≡ m
unfolding header_in
machine_again m savable =
    let platform = platform_again m savable in
    λ i. record { platform = platform i; ram = m.ram; spaces = m.spaces; space_room = m.space_room; entry_room = m.entry_room; device = m.device }

-- the machine of a form in its version, and in the one that its letters tell
machine_read : (version : Version) (m : Machine) → IsSavable m → CanTell version m → machine_by version (form_of version m) ≡ m
machine_read version m savable tells = let h = header_again m in
    machine_by_again version m m.ram savable tells
    ∙ from_console_again version m h m.ram savable
    ∙ from_inputs_again version m h m.platform.console.bytes m.ram savable
    ∙ from_spaces_again version m h m.platform.console.bytes m.platform.console.inputs m.ram savable tells
    ∙ machine_again m savable

version_again : (version : Version) (m : Machine) (rest : List ℕ) → version_in (form_with version m rest) ≡ version
unfolding version_in form_with
version_again First m rest = refl
version_again Second m rest = refl
version_again Third m rest = refl

pub round_trip : RoundTrip
round_trip version m savable tells =
    let is = version_again version m m.ram in
    let read : machine_by (version_in (form_of version m)) (form_of version m) ≡ m =
    ap (λ (v : Version). machine_by v (form_of version m)) is ∙ machine_read version m savable tells in
    λ i. record { version = is i; machine = read i }

pub bad_exactly : BadExactly
bad_exactly bytes none version m savable tells is =
    let read : saved_machine_in bytes ≡ record { version = version; machine = m } = ap saved_machine_in (sym is) ∙ round_trip version m savable tells in
    none (subst (λ (s : SavedMachine). IsSavable s.machine) (sym read) savable) (ap saved_form read ∙ is)

-- what comes after the front
further : (a b c d : List ℕ) → a ++ (b ++ (c ++ d)) ≡ (a ++ (b ++ c)) ++ d
further a b c d = simp append_assoc

first_split : (version : Version) (m : Machine) (rest : List ℕ) → first_form version m rest ≡ first_form version m [] ++ rest
unfolding first_form
first_split First m rest = refl
first_split Second m rest = refl
first_split Third m rest = further (number_bytes (length m.platform.virt.first)) (flat_map first_entry_form m.platform.virt.first) [] rest

spaces_split : (version : Version) (m : Machine) (rest : List ℕ) → spaces_form version m rest ≡ spaces_form version m [] ++ rest
unfolding spaces_form
spaces_split version m rest =
    ap (λ (tail : List ℕ). number_bytes (length m.spaces) ++ (flat_map space_form m.spaces ++ tail)) (first_split version m rest)
    ∙ further (number_bytes (length m.spaces)) (flat_map space_form m.spaces) (first_form version m []) rest

inputs_split : (version : Version) (m : Machine) (rest : List ℕ) → inputs_form version m rest ≡ inputs_form version m [] ++ rest
unfolding inputs_form
inputs_split version m rest = let inputs = m.platform.console.inputs in
    ap (λ (tail : List ℕ). number_bytes (length inputs) ++ (flat_map input_form inputs ++ tail)) (spaces_split version m rest)
    ∙ further (number_bytes (length inputs)) (flat_map input_form inputs) (spaces_form version m []) rest

console_split : (version : Version) (m : Machine) (rest : List ℕ) → console_form version m rest ≡ console_form version m [] ++ rest
unfolding console_form
console_split version m rest = let bytes = m.platform.console.bytes in
    ap (λ (tail : List ℕ). number_bytes (length bytes) ++ (bytes ++ tail)) (inputs_split version m rest)
    ∙ further (number_bytes (length bytes)) bytes (inputs_form version m []) rest

pub form_split : (version : Version) (m : Machine) (rest : List ℕ) → form_with version m rest ≡ front_form version m ++ rest
unfolding form_with
form_split version m rest = let ns = header_numbers version (header_of m) in
    ap (λ (tail : List ℕ). version_letters version ++ (numbers ns ++ tail)) (console_split version m rest)
    ∙ further (version_letters version) (numbers ns) (console_form version m []) rest

pub front_decides : FrontDecides
front_decides version m bytes k within ram = (
  λ front. form_split version m m.ram ∙ ap (λ (start : List ℕ). start ++ m.ram) front ∙ ap (λ (end : List ℕ). take k bytes ++ end) ram ∙ take-append-drop k bytes,
  λ whole. append_cancel_right (front_form version m) (take k bytes) m.ram
      (sym (form_split version m m.ram) ∙ whole ∙ sym (take-append-drop k bytes) ∙ ap (λ (end : List ℕ). take k bytes ++ end) (sym ram)),
)
