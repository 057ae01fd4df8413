-- The test of bytes tells exactly whether they are the form of a machine that can be saved.
use Rattle.std.specs.Bool.{Decides}
use Rattle.std.specs.List.{All, AllPairs, list_all}
use Rattle.std.specs.List.Sorted.{IsNonDecreasingBy}
use Rattle.std.specs.Prelude.{Option, Some, None, nat_le}
use Rattle.std.proofs.Common.{◌≡◌, ℕ, suc, ◌+◌, ◌*◌, ◌%◌, ◌^◌, ◌<◌, ◌≤◌, ◌==◌, ◌&&◌, ◌||◌, not, ◌⊎◌, inl, inr, Bool, true, false, List, [], ◌∷◌, length, get_or, refl, ap, ◌∙◌, subst, sym, arith}
use Rattle.std.proofs.lemmas.Bool.{cases_lt, false≢true, le-leb, leb-true}
use Rattle.std.proofs.lemmas.Bool.Decides.{Decides-and, Decides-by_and, Decides-eqb, Decides-ltb, Decides-not, Decides-or, same_from_decides}
use Rattle.std.proofs.lemmas.List.Kept.{AllPairs-cons}
use Rattle.std.proofs.lemmas.Slice.Eq.{bytes_eq-Decides}
use Rattle.arch_defs.proofs.SameRoots.{root_is, root_same}
use Rattle.arch_defs.specs.declared.cached.Entry.{Entry}
use Rattle.arch_defs.specs.declared.first.FirstEntry.{FirstEntry}
use Rattle.arch_defs.specs.declared.roots.GuestRoot.{GuestRoot}
use Rattle.arch_defs.specs.CachedEntries.{HasOtherPage}
use Rattle.arch_defs.specs.Devices.{device_frame}
use Rattle.arch_defs.specs.FirstEntries.{first_room, is_first_of}
use Rattle.arch_defs.specs.Memory.{block_size, ram_base}
use Rattle.arch_defs.specs.Roots.{is_table, names_table}
use Rattle.arch_defs.specs.Spaces.{Space, is_for}
use Rattle.arch_defs.specs.WalkedEntries.{folds}
use Rattle.guest_save.proofs.ReadMachines.{read_is}
use Rattle.guest_save.proofs.RoundTrip.{round_trip}
use Rattle.guest_save.proofs.Testing.{savable_from, savable_sound}
use Rattle.guest_save.specs.declared.headers.Header.{Header}
use Rattle.guest_save.specs.Deciding.{all_pairs, entry_fits, first_fits, has_first, has_other_key, has_other_page, has_sizes, inputs_rise, is_apart, is_front, is_in_ram, is_in_reach, is_reservation_within, is_savable, is_saved, is_within, space_fits}
use Rattle.guest_save.specs.declared.versions.Version.{Version}
use Rattle.guest_save.specs.declared.versions.Version.TheVariants.{Third}
use Rattle.guest_save.specs.Forms.{form_of}
use Rattle.guest_save.specs.Headers.{header_numbers, header_of}
use Rattle.guest_save.specs.Laws.{FormIsSaved, SavedExactly, UnsavedIsBad}
use Rattle.guest_save.specs.Reading.{machine_by}
use Rattle.guest_save.specs.Savable.{Fits, HasOtherKey, HasSizes, IsInReach, IsSavable, IsSavableEntry, pages_of, top_level_of}
use Rattle.guest_save.specs.Saves.{SavedMachine, saved_form, saved_machine_in}
use Rattle.guest_save.specs.Tests.{IsRead, IsReserved, IsSoundSpace}
use Rattle.guest_save.specs.Versions.{version_in}
use Rattle.machine_defs.specs.Machine.{Machine}
use Rattle.instruction_laws.specs.FrontSpaces.{FrontIs}
use Rattle.run_laws.specs.FirstKeys.{AreApart, HasFirst, IsOfFirstTable, first_levels}
use Rattle.run_laws.specs.Reservations.{places_from}

both : {x y : Bool} {P Q : Type 0} → Decides x P → Decides y Q → Decides (x && y) (P × Q)
both {x} {y} first second = Decides-and x y first second

itself : (b : Bool) → Decides b (b ≡ true)
itself b = (λ h. h, λ h. h)

failing : (b : Bool) → Decides (not b) (b ≡ false)
failing true = (λ h. sym h, λ h. sym h)
failing false = (λ h. refl, λ h. refl)

-- a test that is made only where another one passes
only_where : {P : Type 0} (b test : Bool) → Decides test P → Decides (not b || test) (b ≡ true → P)
only_where true test tells = (λ passes is. tells.0 passes, λ is. tells.1 (is refl))
only_where false test tells = (λ passes is. absurd (false≢true is), λ is. refl)

le_decided : (a b : ℕ) → Decides (nat_le a b) (a ≤ b)
le_decided a b = (leb-true a b, le-leb a b)

within_decided : (n least most : ℕ) → Decides (is_within n least most) ((least ≤ n) × (n ≤ most))
within_decided n least most = both (le_decided least n) (le_decided n most)

all_decided : {X : Type 0} (test : X → Bool) (P : X → Type 0) → ((x : X) → Decides (test x) (P x)) → (xs : List X) → Decides (list_all test xs) (All P xs)
all_decided test P each xs = Decides-by_and test P (list_all test) each refl (λ _ _. refl) xs

module _ {X : Type 0} (test : X → X → Bool) (R : X → X → Type 0) (each : (x y : X) → Decides (test x y) (R x y)) where
  pairs_decided : (xs : List X) → Decides (all_pairs test xs) (AllPairs R xs)
  pairs_decided [] = (λ passes i j d before within. absurd (omega (arith, within)), λ all. refl)
  pairs_decided (x ∷ xs) =
      let tests = both (all_decided (test x) (R x) (each x) xs) (pairs_decided xs) in (
        λ passes. let (others, rest) = tests.0 passes in AllPairs-cons R x xs others rest,
        λ all. tests.1 (
          λ k d within. all 0 (suc k) d (omega arith) (omega (arith, within)),
          λ i j d before within. all (suc i) (suc j) d (omega (arith, before)) (omega (arith, within)),
        ),
      )

-- the parts of the test, in its order
sizes_decided : (h : Header) (size : ℕ) → Decides (has_sizes h size) (HasSizes h size)
sizes_decided h size =
    let tests = both (both (both (both (Decides-eqb size (h.blocks * block_size)) (within_decided h.blocks 1 32)) (within_decided h.spaces 1 8)) (within_decided h.entries 16 256)) (le_decided h.console 1048576) in (
      λ passes. let ((((whole, blocks), spaces), entries), console) = tests.0 passes in record {
        whole = whole;
        some_block = blocks.0;
        most_blocks = blocks.1;
        some_space = spaces.0;
        most_spaces = spaces.1;
        some_entries = entries.0;
        most_entries = entries.1;
        most_console = console;
      },
      λ is. tests.1 ((((is.whole, (is.some_block, is.most_blocks)), (is.some_space, is.most_spaces)), (is.some_entries, is.most_entries)), is.most_console),
    )

order_decided : (xs : List (ℕ × ℕ)) → Decides (all_pairs (λ a b. nat_le a.0 b.0) xs) (IsNonDecreasingBy (λ input. input.0) xs)
order_decided xs =
    let tests = pairs_decided (λ (a b : ℕ × ℕ). nat_le a.0 b.0) (λ (a b : ℕ × ℕ). a.0 ≤ b.0) (λ (a b : ℕ × ℕ). le_decided a.0 b.0) xs in (
      λ passes i j d before within. by (tests.0 passes) i j d before within (cases_lt i j),
      λ order. tests.1 (λ i j d before within. order i j d (omega (arith, before)) within),
    )
  where
    by : AllPairs (λ (a b : ℕ × ℕ). a.0 ≤ b.0) xs → (i j : ℕ) (d : ℕ × ℕ) → i ≤ j → j < length xs → (i < j) ⊎ (j ≤ i) → (get_or xs i d).0 ≤ (get_or xs j d).0
    by pairs i j d before within (inl below) = pairs i j d below within
    by pairs i j d before within (inr above) = let same : i ≡ j = omega (arith, before, above) in omega (arith, ap (λ (n : ℕ). (get_or xs n d).0) same)

inputs_decided : (xs : List (ℕ × ℕ)) → Decides (inputs_rise xs) (All (λ input. input.0 < 2 ^ 62) xs × IsNonDecreasingBy (λ input. input.0) xs)
inputs_decided xs = both (all_decided _ (λ (input : ℕ × ℕ). input.0 < 2 ^ 62) (λ (input : ℕ × ℕ). Decides-ltb input.0 (2 ^ 62)) xs) (order_decided xs)

reserved_decided : (reservation : Option (ℕ × ℕ)) (size : ℕ) → Decides (is_reservation_within reservation size) (IsReserved reservation size)
reserved_decided None size = (λ passes. record { aligned = tt; inside = tt }, λ is. refl)
reserved_decided (Some (place, width)) size =
    let widths = Decides-or (width == 4) (width == 8) (Decides-eqb width 4) (Decides-eqb width 8) in
    let tests = both (both (Decides-eqb (place % width) 0) widths) (itself (places_from ram_base size place)) in (
      λ passes. let (aligned, inside) = tests.0 passes in record { aligned = aligned; inside = inside },
      λ is. tests.1 (is.aligned, is.inside),
    )

reach_decided : (size : ℕ) (device : Bool) (e : Entry) → Decides (is_in_reach size device e) (IsInReach size device e)
reach_decided size device e =
    let ram = both (le_decided ram_base (4096 * e.frame)) (le_decided (4096 * e.frame + 4096) (ram_base + size)) in
    let page = both (itself device) (Decides-eqb e.frame device_frame) in
    Decides-or (is_in_ram size e) (device && e.frame == device_frame) ram page

entry_decided : (key : GuestRoot) (size : ℕ) (device : Bool) (e : Entry) → Decides (entry_fits key size device e) (IsSavableEntry key size device e)
entry_decided key size device e =
    let tests = both (both (both (both (Decides-ltb e.page (pages_of key)) (reach_decided size device e)) (le_decided e.level (top_level_of key))) (itself (e.r || e.x))) (only_where e.w e.r (itself e.r)) in (
      λ passes. let ((((page, frame), level), right), write) = tests.0 passes in record { page = page; frame = frame; level = level; right = right; write = write },
      λ is. tests.1 ((((is.page, is.frame), is.level), is.right), is.write),
    )

pages_decided : (entries : List Entry) → Decides (all_pairs has_other_page entries) (AllPairs HasOtherPage entries)
pages_decided entries = pairs_decided has_other_page HasOtherPage (λ a b. Decides-not (a.page == b.page) (Decides-eqb a.page b.page)) entries

space_decided : (size room : ℕ) (device : Bool) (s : Space) → Decides (space_fits size room device s) (IsSoundSpace size room device s)
space_decided size room device s =
    let each = all_decided (entry_fits s.key size device) (IsSavableEntry s.key size device) (entry_decided s.key size device) s.entries in
    let tests = both (both (both (itself (is_table s.key)) (le_decided (length s.entries) room)) each) (pages_decided s.entries) in (
      λ passes. let (((table, few), entries), pages) = tests.0 passes in record { table = table; few = few; entries = entries; pages = pages },
      λ is. tests.1 (((is.table, is.few), is.entries), is.pages),
    )

keys_decided : (spaces : List Space) → Decides (all_pairs has_other_key spaces) (AllPairs HasOtherKey spaces)
keys_decided spaces = pairs_decided has_other_key HasOtherKey (λ a b. failing (is_for a.key b)) spaces

front_decided : (key : GuestRoot) (spaces : List Space) → Decides (is_front key spaces) (FrontIs key spaces)
front_decided key [] = (λ passes. absurd (false≢true passes), λ is. absurd is)
front_decided key (s ∷ ss) = (λ passes. root_same s.key key passes, λ is. rw is (root_is key))

-- first-stage translations
first_decided : (e : FirstEntry) → Decides (first_fits e) (IsOfFirstTable e)
first_decided e =
    let page = Decides-ltb e.page (2 ^ 52) in
    let frame = Decides-ltb e.frame (2 ^ 44) in
    let level = Decides-ltb e.level (first_levels e.atp) in
    let tests = both (both (both (both (both (itself (names_table e.atp)) page) frame) level) (itself (e.r || e.x))) (only_where e.w e.r (itself e.r)) in (
      λ passes. let (((((table, page), frame), level), right), write) = tests.0 passes in
          record { table = table; page = page; frame = frame; level = level; right = right; write = write },
      λ is. tests.1 (((((is.table, is.page), is.frame), is.level), is.right), is.write),
    )

has_first_decided : (first : List FirstEntry) → Decides (has_first first) (HasFirst first)
has_first_decided first =
    let apart = pairs_decided is_apart AreApart (λ a b. failing (is_first_of b.tag b.atp b.page a)) first in
    let tests = both (both (le_decided (length first) first_room) apart) (all_decided first_fits IsOfFirstTable first_decided first) in (
      λ passes. let ((few, apart), tables) = tests.0 passes in record { few = few; apart = apart; tables = tables },
      λ is. tests.1 ((is.few, is.apart), is.tables),
    )

-- pc is the eleventh of the numbers
pc_fits : (h : Header) → All Fits (header_numbers Third h) → h.state.regs.pc < 2 ^ 64
pc_fits h fit = fit 10 0 (omega arith)

savable_decided : (m : Machine) → IsRead m → Decides (is_savable m) (IsSavable m)
unfolding is_savable
savable_decided m read = let p = m.platform in let h = header_of m in let size = length m.ram in
    let console = le_decided (length p.console.bytes) p.console.room in
    let registers = both (Decides-eqb (length p.virt.regs.x) 32) (Decides-eqb (p.virt.regs.pc % 4) 0) in
    let numbers = all_decided _ Fits (λ (n : ℕ). Decides-ltb n (2 ^ 64)) (header_numbers Third h) in
    let steps = le_decided p.steps (2 ^ 60) in
    let clock = le_decided p.clock.time (2 ^ 62 + p.steps) in
    let few = le_decided (length m.spaces) m.space_room in
    let spaces = all_decided _ (IsSoundSpace size m.entry_room m.device) (space_decided size m.entry_room m.device) m.spaces in
    let front = only_where (folds p.virt) _ (front_decided p.virt.csrs.hgatp m.spaces) in
    let state = both (both (both (sizes_decided h size) console) (inputs_decided p.console.inputs)) registers in
    let progress = both (both (both state numbers) steps) clock in
    let cached = both (both (both (both (both progress (reserved_decided p.virt.reservation size)) few) spaces) (keys_decided m.spaces)) front in
    let tests = both cached (has_first_decided m.platform.virt.first) in (
      λ passes. let ((((((((((((sizes, console), inputs), registers), numbers), steps), clock), reservation), few), spaces), keys), front), first) = tests.0 passes in
          savable_from m read registers.0 (pc_fits h numbers) numbers (record {
            sizes = sizes;
            platform = record { pc = registers.1; steps = steps; clock = clock; console = console; moments = inputs.0; order = inputs.1 };
            spaces = record { reservation = reservation; few = few; spaces = spaces; keys = keys; front = front };
            first = first;
          }),
      λ savable. let sound = savable_sound m savable in let p = sound.platform in let s = sound.spaces in
          tests.1 ((((((((((((sound.sizes, p.console), (p.moments, p.order)), (savable.registers, p.pc)), savable.numbers), p.steps), p.clock), s.reservation), s.few), s.spaces), s.keys), s.front), sound.first),
    )

pub saved_exactly : SavedExactly
unfolding is_saved
saved_exactly bytes =
    both (savable_decided (saved_machine_in bytes).machine (read_is (version_in bytes) bytes)) (bytes_eq-Decides (saved_form (saved_machine_in bytes)) bytes)

pub form_is_saved : FormIsSaved
form_is_saved version m savable tells = let read = round_trip version m savable tells in
    (saved_exactly (form_of version m)).1 (subst (λ (s : SavedMachine). IsSavable s.machine) (sym read) savable, ap saved_form read)

pub unsaved_is_bad : UnsavedIsBad
unsaved_is_bad bytes fails version m savable tells is =
    absurd (false≢true (sym fails ∙ ap is_saved (sym is) ∙ form_is_saved version m savable tells))

-- what was read in the version that bytes tell
pub read_as : (bytes : List ℕ) (version : Version) (m : Machine) → version ≡ version_in bytes → m ≡ machine_by version bytes
    → record { version = version; machine = m } ≡ saved_machine_in bytes
read_as bytes version m told read =
    let machine : m ≡ machine_by (version_in bytes) bytes = read ∙ ap (λ (v : Version). machine_by v bytes) told in
    λ i. record { version = told i; machine = machine i }

-- another test that tells it gives the same
pub same_test : (bytes : List ℕ) (s : SavedMachine) (b : Bool) → s ≡ saved_machine_in bytes → Decides b (IsSavable s.machine × (saved_form s ≡ bytes)) → is_saved bytes ≡ b
same_test bytes s b read tells =
    same_from_decides (is_saved bytes) b (saved_exactly bytes) (subst (λ (x : SavedMachine). Decides b (IsSavable x.machine × (saved_form x ≡ bytes))) read tells)
