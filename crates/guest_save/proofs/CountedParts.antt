-- The parts of a form that have counts, read again.
use Rattle.std.specs.List.{All, flat_map}
use Rattle.std.specs.Prelude.{slice_index}
use Rattle.std.proofs.Common.{◌≡◌, ℕ, ◌*◌, ◌^◌, ◌<◌, ◌≤◌, List, [], ◌∷◌, ◌++◌, length, drop, refl, ap, ◌∙◌, arith, append_assoc, length-append}
use Rattle.std.proofs.lemmas.Bool.{le-leb}
use Rattle.std.proofs.lemmas.List.Elements.{All-cons, All-head, All-nil, All-tail}
use Rattle.arch_defs.specs.declared.cached.Entry.{Entry}
use Rattle.arch_defs.specs.declared.roots.GuestMode.TheVariants.{Sv39x4, Sv48x4}
use Rattle.arch_defs.specs.declared.roots.GuestRoot.{GuestRoot}
use Rattle.arch_defs.specs.declared.roots.GuestRoot.TheVariants.{Bare, Table}
use Rattle.arch_defs.specs.CsrBits.{guest_root_of, hgatp_bits}
use Rattle.arch_defs.specs.Spaces.{Space}
use Rattle.guest_save.proofs.Bits.{flags_again, flags_small}
use Rattle.guest_save.proofs.Eights.{after_items, after_number, items_again, number_again, number_length, numbers_length, so_many_again}
use Rattle.guest_save.specs.Forms.{entry_form, flags_of, input_form, space_form}
use Rattle.guest_save.specs.Numbers.{number_bytes, number_in}
use Rattle.guest_save.specs.Reading.{after_space, after_spaces, count_in, entries_in, entry_count, entry_in, entry_from_numbers, input_of, leading_inputs, space_in, leading_spaces}

-- a count within its limit
pub count_again : (most n : ℕ) (rest : List ℕ) → n ≤ most → n < 2 ^ 64 → count_in most (number_bytes n ++ rest) ≡ n
count_again most n rest few fits = rw (number_again n rest fits, le-leb n most few) refl

-- the bytes after two numbers
after_both : (a b : ℕ) (rest : List ℕ) → drop 16 (number_bytes a ++ (number_bytes b ++ rest)) ≡ rest
unfolding number_bytes
after_both a b rest = refl

-- an input, and inputs
input_length : (input : ℕ × ℕ) → length (input_form input) ≡ 9
input_length input = omega (arith, length-append (number_bytes input.0) (input.1 ∷ []), number_length input.0)

input_again : (input : ℕ × ℕ) (rest : List ℕ) → input.0 < 2 ^ 64 → input_of (input_form input ++ rest) ≡ input
input_again input rest early =
    let spread = append_assoc (number_bytes input.0) (input.1 ∷ []) rest in
    let moment : number_in (input_form input ++ rest) ≡ input.0 = rw spread (number_again input.0 (input.1 ∷ rest) early) in
    let byte : slice_index (drop 8 (input_form input ++ rest)) 0 ≡ input.1 = rw (spread, after_number input.0 (input.1 ∷ rest)) refl in
    λ i. (moment i, byte i)

pub inputs_again : (inputs : List (ℕ × ℕ)) (rest : List ℕ) → All (λ input. input.0 < 2 ^ 64) inputs
    → leading_inputs (length inputs) (flat_map input_form inputs ++ rest) ≡ inputs
inputs_again inputs rest early = items_again input_form input_of 9 (λ input. input.0 < 2 ^ 64) input_length input_again inputs rest early

pub after_inputs : (inputs : List (ℕ × ℕ)) (rest : List ℕ) → drop (9 * length inputs) (flat_map input_form inputs ++ rest) ≡ rest
after_inputs inputs rest = after_items input_form input_of 9 input_length inputs rest

-- an entry that has room in a form, and entries
pub record FitsForm (e : Entry) : Type 0 where
  pub page : e.page < 2 ^ 64
  pub frame : e.frame < 2 ^ 64
  pub level : e.level < 256

entry_length : (e : Entry) → length (entry_form e) ≡ 24
entry_length e = numbers_length (e.page ∷ e.frame ∷ flags_of e ∷ [])

entry_fits : (e : Entry) → FitsForm e → All (λ n. n < 2 ^ 64) (e.page ∷ e.frame ∷ flags_of e ∷ [])
entry_fits e fits =
    All-cons (λ n. n < 2 ^ 64) e.page (e.frame ∷ flags_of e ∷ []) fits.page
    (All-cons (λ n. n < 2 ^ 64) e.frame (flags_of e ∷ []) fits.frame
    (All-cons (λ n. n < 2 ^ 64) (flags_of e) [] (flags_small e fits.level) (All-nil (λ n. n < 2 ^ 64))))

entry_of_numbers : (e : Entry) → FitsForm e → entry_from_numbers (e.page ∷ e.frame ∷ flags_of e ∷ []) ≡ e
entry_of_numbers e fits = let f = flags_again e fits.level in
    let r = f.r in let w = f.w in let x = f.x in let level = f.level in
    λ i. record { page = e.page; frame = e.frame; r = r i; w = w i; x = x i; level = level i }

entry_again : (e : Entry) (rest : List ℕ) → FitsForm e → entry_in (entry_form e ++ rest) ≡ e
entry_again e rest fits =
    ap entry_from_numbers (so_many_again 3 (e.page ∷ e.frame ∷ flags_of e ∷ []) rest refl (entry_fits e fits)) ∙ entry_of_numbers e fits

entries_again : (entries : List Entry) (rest : List ℕ) → All FitsForm entries
    → entries_in (length entries) (flat_map entry_form entries ++ rest) ≡ entries
entries_again entries rest fit = items_again entry_form entry_in 24 FitsForm entry_length entry_again entries rest fit

after_entries : (entries : List Entry) (rest : List ℕ) → drop (24 * length entries) (flat_map entry_form entries ++ rest) ≡ rest
after_entries entries rest = after_items entry_form entry_in 24 entry_length entries rest

-- a space, and spaces
pub record SpaceFits (s : Space) : Type 0 where
  pub key : guest_root_of (hgatp_bits s.key) ≡ s.key
  pub few : length s.entries ≤ 256
  pub entries : All FitsForm s.entries

pub key_small : (key : GuestRoot) → hgatp_bits key < 2 ^ 64
unfolding hgatp_bits
key_small Bare = omega arith
key_small (Table Sv39x4 vmid ppn) = omega arith
key_small (Table Sv48x4 vmid ppn) = omega arith

spread_space : (s : Space) (rest : List ℕ)
    → space_form s ++ rest ≡ number_bytes (hgatp_bits s.key) ++ (number_bytes (length s.entries) ++ (flat_map entry_form s.entries ++ rest))
spread_space s rest =
    append_assoc (number_bytes (hgatp_bits s.key)) (number_bytes (length s.entries) ++ flat_map entry_form s.entries) rest
    ∙ ap (λ tail. number_bytes (hgatp_bits s.key) ++ tail) (append_assoc (number_bytes (length s.entries)) (flat_map entry_form s.entries) rest)

pub entry_count_again : (s : Space) (rest : List ℕ) → SpaceFits s → entry_count (space_form s ++ rest) ≡ length s.entries
entry_count_again s rest fits =
    let tail = flat_map entry_form s.entries ++ rest in
    rw (spread_space s rest, after_number (hgatp_bits s.key) (number_bytes (length s.entries) ++ tail))
    (count_again 256 (length s.entries) tail fits.few (omega (arith, fits.few)))

after_counts : (s : Space) (rest : List ℕ) → drop 16 (space_form s ++ rest) ≡ flat_map entry_form s.entries ++ rest
after_counts s rest =
    ap (drop 16) (spread_space s rest) ∙ after_both (hgatp_bits s.key) (length s.entries) (flat_map entry_form s.entries ++ rest)

space_again : (s : Space) (rest : List ℕ) → SpaceFits s → space_in (space_form s ++ rest) ≡ s
space_again s rest fits =
    let key : guest_root_of (number_in (space_form s ++ rest)) ≡ s.key =
    rw (spread_space s rest, number_again (hgatp_bits s.key) (number_bytes (length s.entries) ++ (flat_map entry_form s.entries ++ rest)) (key_small s.key)) fits.key in
    let entries : entries_in (entry_count (space_form s ++ rest)) (drop 16 (space_form s ++ rest)) ≡ s.entries =
    rw (entry_count_again s rest fits, after_counts s rest) (entries_again s.entries rest fits.entries) in
    λ i. record { key = key i; entries = entries i }

after_space_is : (s : Space) (rest : List ℕ) → SpaceFits s → after_space (space_form s ++ rest) ≡ rest
after_space_is s rest fits =
    rw (entry_count_again s rest fits, after_counts s rest) (after_entries s.entries rest)

pub spaces_again : (spaces : List Space) (rest : List ℕ) → All SpaceFits spaces
    → leading_spaces (length spaces) (flat_map space_form spaces ++ rest) ≡ spaces
unfolding leading_spaces
spaces_again [] rest fit = refl
spaces_again (s ∷ spaces) rest fit =
    let first = space_again s (flat_map space_form spaces ++ rest) (All-head SpaceFits s spaces fit) in
    let next = after_space_is s (flat_map space_form spaces ++ rest) (All-head SpaceFits s spaces fit) in
    let others = ap (leading_spaces (length spaces)) next ∙ spaces_again spaces rest (All-tail SpaceFits s spaces fit) in
    rw (append_assoc (space_form s) (flat_map space_form spaces) rest) (λ i. first i ∷ others i)

pub after_spaces_again : (spaces : List Space) (rest : List ℕ) → All SpaceFits spaces
    → after_spaces (length spaces) (flat_map space_form spaces ++ rest) ≡ rest
unfolding after_spaces
after_spaces_again [] rest fit = refl
after_spaces_again (s ∷ spaces) rest fit =
    let next = after_space_is s (flat_map space_form spaces ++ rest) (All-head SpaceFits s spaces fit) in
    rw (append_assoc (space_form s) (flat_map space_form spaces) rest)
    (ap (after_spaces (length spaces)) next ∙ after_spaces_again spaces rest (All-tail SpaceFits s spaces fit))
