-- What is accepted is within its limits.
use Rattle.std.proofs.Common.{◌≡◌, ℕ, zero, suc, ◌-◌, ◌^◌, ◌<◌, ◌≤◌, nat_le, Bool, true, false, ◌&&◌, not, List, [], ◌∷◌, ◌++◌, length, get_or, map, Option, Some, None, is_some, unwrap_or, option_map, refl, subst, arith}
use Rattle.std.proofs.lemmas.Bool.{and_parts}
use Rattle.std.proofs.lemmas.Bool.Decides.{nat_tests}
use Rattle.std.proofs.lemmas.List.Elements.{All-nil, All-cons, All-weaker}
use Rattle.std.proofs.lemmas.Option.{option_and_then_some, same_Some}
use Rattle.std.specs.Char.{is_ascii_alphanumeric}
use Rattle.std.specs.List.{All, list_all, list_any}
use Rattle.std.specs.List.Sorted.{IsNonDecreasingBy}
use Rattle.std.specs.Option.{option_map_or}
use Rattle.std.specs.Str.{bytes_eq}
use Rattle.toml.specs.Data.{Data, Items, no_items, item, Members, as_integer, as_str, as_array}
use Rattle.run_config.specs.declared.keys.ConfigKey.{ConfigKey}
use Rattle.run_config.specs.declared.keys.ConfigKey.TheVariants as key
use Rattle.run_config.specs.declared.faults.ConfigFault.{ConfigFault}
use Rattle.run_config.specs.declared.formats.Format.{Format}
use Rattle.run_config.specs.declared.formats.Format.TheVariants.{One, Two}
use Rattle.run_config.specs.declared.guests.InputSource.{InputSource}
use Rattle.run_config.specs.declared.guests.InputSource.TheVariants.{Pairs, File}
use Rattle.run_config.specs.Guests.{absent_key, wrong_value, wrong_option, fresh_of, guest_fault, guest_tests, guests_fault, has_inputs, input_at, inputs_in, is_new_name, is_resumed, optional_source, origin_of, rise_from, settings_by, settings_of, source_in, weight_at}
use Rattle.run_config.specs.Configurations.{AreByteInputs, IsGuestWithin, IsSourceWithin}
use Rattle.run_config.specs.declared.rows.Kind.{Kind}
use Rattle.run_config.specs.declared.rows.Kind.TheVariants.{Own, AnyText, TextOf, IntegerOf}
use Rattle.run_config.specs.declared.rows.Row.{Row}
use Rattle.run_config.specs.Tables.{fresh_table, resumed_table, row}
use Rattle.run_config.specs.Tests.{unless, first_fault, absent_among, absent_fault, out_of_range, wrong_among, wrong_kind}
use Rattle.run_config.specs.Values.{◌>>=◌, passes_if, has_length, is_name, is_of, natural, natural_at, natural_or, number_within, pair_within, pairs_within, text_at, text_within, two_items, value_at}
use Rattle.run_config.proofs.Found.{number_found, text_found}

-- of tests without a fault the first has none, and the others have none
pub first_none : (o : Option ConfigFault) (rest : List (Option ConfigFault)) → first_fault (o ∷ rest) ≡ None → (o ≡ None) × (first_fault rest ≡ None)
first_none None rest e = (refl, e)
first_none (Some f) rest e = cc

pub unless_none : (b : Bool) (f : ConfigFault) → unless b f ≡ None → b ≡ true
unless_none true f e = refl
unless_none false f e = cc

pub is_some_value : {A : Type 0} (o : Option A) → is_some o ≡ true → (x : A) × (o ≡ Some x)
is_some_value None e = cc
is_some_value (Some x) e = (x, refl)

pub holds-some : (b : Bool) (u : Unit {0}) → passes_if b ≡ Some u → b ≡ true
holds-some true u e = refl
holds-some false u e = cc

pub number_within-some : (low high : ℕ) (value : Data) (n : ℕ) → number_within low high value ≡ Some n → (low ≤ n) × (n ≤ high)
unfolding number_within
number_within-some low high value n e =
    option_and_then_some _ (as_integer value) n e (λ z is e.
    option_and_then_some _ (natural z) n e (λ m is_m e.
    option_and_then_some _ (passes_if (nat_le low m && nat_le m high)) n e (λ u held e.
    let parts = and_parts (nat_le low m) (nat_le m high) (holds-some _ u held) in
    let same : m ≡ n = same_Some m n e in
    let least : low ≤ m = grind (arith, nat_tests, parts.0) in
    let most : m ≤ high = grind (arith, nat_tests, parts.1) in
    subst (λ k. (low ≤ k) × (k ≤ high)) same (least, most))))

-- a key that is there, with a value of its kind
pub found_of_kind : (g i : Option ℕ) (t : Members) (k : ConfigKey) (kind : Kind) → absent_fault g t k ≡ None → out_of_range i t (row k kind) ≡ None → (value : Data) × (value_at k t ≡ Some value) × (is_of kind value ≡ true)
unfolding absent_fault out_of_range wrong_kind
found_of_kind g i t k kind there fits =
    let (value, is) = is_some_value (value_at k t) (unless_none _ _ there) in
    (value, is, unless_none _ _ (rw is at fits))

number_row : (g i : Option ℕ) (t : Members) (k : ConfigKey) (low high : ℕ) → absent_fault g t k ≡ None → out_of_range i t (row k (IntegerOf low high)) ≡ None → (low ≤ natural_at k t) × (natural_at k t ≤ high)
unfolding is_of
number_row g i t k low high there fits =
    let (value, is, of) = found_of_kind g i t k (IntegerOf low high) there fits in
    let (n, number) = is_some_value (number_within low high value) of in
    rw (← number_found 0 k t low high value n is number) (number_within-some low high value n number)

has_length-true : (low high : ℕ) (text : List ℕ) → has_length low high text ≡ true → (low ≤ length text) × (length text ≤ high)
unfolding has_length
has_length-true low high text e = grind (arith, nat_tests)

or_false : {A : Type 0} (test : A → Bool) (o : Option A) → option_map_or test o false ≡ true → (x : A) × (o ≡ Some x) × (test x ≡ true)
or_false test None e = cc
or_false test (Some x) e = (x, refl, e)

text_row : (g i : Option ℕ) (t : Members) (k : ConfigKey) (low high : ℕ) → absent_fault g t k ≡ None → out_of_range i t (row k (TextOf low high)) ≡ None → (low ≤ length (text_at k t)) × (length (text_at k t) ≤ high)
unfolding is_of
text_row g i t k low high there fits =
    let (value, is, of) = found_of_kind g i t k (TextOf low high) there fits in
    let (text, is_text, long) = or_false (has_length low high) (as_str value) of in
    rw (← text_found k t value text is is_text) (has_length-true low high text long)

-- what a row says of the value at its key
abbrev fits_as : Kind → ConfigKey → Members → Type 0
fits_as Own k t = Unit {0}
fits_as AnyText k t = Unit {0}
fits_as (TextOf low high) k t = (low ≤ length (text_at k t)) × (length (text_at k t) ≤ high)
fits_as (IntegerOf low high) k t = (low ≤ natural_at k t) × (natural_at k t ≤ high)

abbrev all_fit : List Row → Members → Type 0
all_fit [] t = Unit {0}
all_fit (r ∷ rows) t = fits_as r.kind r.key t × all_fit rows t

row_fits : (g i : Option ℕ) (t : Members) (k : ConfigKey) (kind : Kind) → absent_fault g t k ≡ None → out_of_range i t (row k kind) ≡ None → fits_as kind k t
row_fits g i t k Own there fits = tt
row_fits g i t k AnyText there fits = tt
row_fits g i t k (TextOf low high) there fits = text_row g i t k low high there fits
row_fits g i t k (IntegerOf low high) there fits = number_row g i t k low high there fits

-- a table that has the keys of rows, each with a value of its kind
rows_fit : (g i : Option ℕ) (t : Members) (rows : List Row) → absent_among g t rows ≡ None → wrong_among i t rows ≡ None → all_fit rows t
rows_fit g i t [] absent wrong = tt
rows_fit g i t (r ∷ rows) absent wrong =
    let (there, absent) = first_none (absent_fault g t r.key) _ absent in
    let (fits, wrong) = first_none (out_of_range i t r) _ wrong in
    (row_fits g i t r.key r.kind there fits, rows_fit g i t rows absent wrong)

name-within : (names : List (List ℕ)) (name : List ℕ) → is_new_name names name ≡ true → (1 ≤ length name) × (length name ≤ 32)
unfolding is_new_name is_name
name-within names name e =
    has_length-true 1 32 name (and_parts (has_length 1 32 name) (list_all is_ascii_alphanumeric name) (and_parts (is_name name) (not (list_any (bytes_eq name) names)) e).0).0

-- a pair of at most these two
abbrev pub IsAtMost : ℕ → ℕ → ℕ × ℕ → Type 0
IsAtMost a b p = (p.0 ≤ a) × (p.1 ≤ b)

pair_at_most : (a b : ℕ) (value : Data) (p : ℕ × ℕ) → pair_within a b value ≡ Some p → IsAtMost a b p
unfolding pair_within
pair_at_most a b value p e =
    option_and_then_some _ (as_array value) p e (λ items _ e.
    option_and_then_some _ (two_items items) p e (λ two _ e.
    option_and_then_some _ (number_within 0 a two.0) p e (λ first is_first e.
    option_and_then_some _ (number_within 0 b two.1) p e (λ second is_second e.
    subst (IsAtMost a b) (same_Some (first, second) p e) ((number_within-some 0 a two.0 first is_first).1, (number_within-some 0 b two.1 second is_second).1)))))

pub pairs_at_most : (a b : ℕ) (items : Items) (ps : List (ℕ × ℕ)) → pairs_within a b items ≡ Some ps → All (IsAtMost a b) ps
unfolding pairs_within
pairs_at_most a b no_items ps e = subst (All (IsAtMost a b)) (same_Some [] ps e) (All-nil (IsAtMost a b))
pairs_at_most a b (item value rest) ps e =
    option_and_then_some _ (pair_within a b value) ps e (λ p is_p e.
    option_and_then_some _ (pairs_within a b rest) ps e (λ more is_more e.
    subst (All (IsAtMost a b)) (same_Some (p ∷ more) ps e) (All-cons (IsAtMost a b) p more (pair_at_most a b value p is_p) (pairs_at_most a b rest more is_more))))

-- moments that rise are in order
rest_rises : (least : ℕ) (p : ℕ × ℕ) (ps : List (ℕ × ℕ)) → rise_from least (p ∷ ps) ≡ true → (least ≤ p.0) × (rise_from p.0 ps ≡ true)
unfolding rise_from
rest_rises least p ps e =
    let parts = and_parts (nat_le least p.0) (rise_from p.0 ps) e in
    (grind (arith, nat_tests, parts.0), parts.1)

at_least : (least : ℕ) (ps : List (ℕ × ℕ)) → rise_from least ps ≡ true → (j : ℕ) (d : ℕ × ℕ) → j < length ps → least ≤ (get_or ps j d).0
at_least least [] e j d h = absurd (omega (arith, h))
at_least least (p ∷ ps) e zero d h = (rest_rises least p ps e).0
at_least least (p ∷ ps) e (suc j) d h =
    let rises = rest_rises least p ps e in
    let later = at_least p.0 ps rises.1 j d (omega (arith, h)) in
    omega (arith, rises.0, later)

pub rise_in_order : (least : ℕ) (ps : List (ℕ × ℕ)) → rise_from least ps ≡ true → IsNonDecreasingBy (λ p. p.0) ps
rise_in_order least [] e i j d h inside = absurd (omega (arith, inside))
rise_in_order least (p ∷ ps) e zero zero d h inside = omega arith
rise_in_order least (p ∷ ps) e zero (suc j) d h inside = at_least p.0 ps (rest_rises least p ps e).1 j d (omega (arith, inside))
rise_in_order least (p ∷ ps) e (suc i) zero d h inside = absurd (omega (arith, h))
rise_in_order least (p ∷ ps) e (suc i) (suc j) d h inside =
    rise_in_order p.0 ps (rest_rises least p ps e).1 i j d (omega (arith, h)) (omega (arith, inside))

record HasInputs (ps : List (ℕ × ℕ)) : Type 0 where
  few : length ps ≤ 65536
  rise : rise_from 0 ps ≡ true
  within : All (IsAtMost (2 ^ 62 - 1) 255) ps

inputs_fit : (value : Data) (ps : List (ℕ × ℕ)) → inputs_in value ≡ Some ps → HasInputs ps
unfolding inputs_in
inputs_fit value ps e =
    option_and_then_some _ (as_array value) ps e (λ items _ e.
    option_and_then_some _ (pairs_within (2 ^ 62 - 1) 255 items) ps e (λ inputs is_inputs e.
    option_and_then_some _ (passes_if (nat_le (length inputs) 65536 && rise_from 0 inputs)) ps e (λ u held e.
    let parts = and_parts (nat_le (length inputs) 65536) (rise_from 0 inputs) (holds-some _ u held) in
    let few : length inputs ≤ 65536 = grind (arith, nat_tests, parts.0) in
    subst HasInputs (same_Some inputs ps e) (record { few = few; rise = parts.1; within = pairs_at_most _ _ items inputs is_inputs }))))

may_be_given : (ps : List (ℕ × ℕ)) → HasInputs ps → AreByteInputs ps
may_be_given ps has = record {
  inputs =
      record {
        count = has.few;
        moments = All-weaker (IsAtMost (2 ^ 62 - 1) 255) (λ input. input.0 < 2 ^ 62) (λ p most. omega (arith, most.0)) ps has.within;
        order = rise_in_order 0 ps has.rise;
      };
  bytes = All-weaker (IsAtMost (2 ^ 62 - 1) 255) (λ input. input.1 < 256) (λ p most. omega (arith, most.1)) ps has.within;
}

none_given : AreByteInputs []
unfolding rise_from
none_given = may_be_given [] (record { few = omega arith; rise = refl; within = All-nil _ })

text_within-some : (low high : ℕ) (value : Data) (text : List ℕ) → text_within low high value ≡ Some text → (low ≤ length text) × (length text ≤ high)
unfolding text_within
text_within-some low high value text e =
    option_and_then_some _ (as_str value) text e (λ found _ e.
    option_and_then_some _ (passes_if (has_length low high found)) text e (λ u held e.
    subst (λ x. (low ≤ length x) × (length x ≤ high)) (same_Some found text e) (has_length-true low high found (holds-some _ u held))))

mapped : {A B : Type 0} (f : A → B) (o : Option A) (y : B) → option_map f o ≡ Some y → (x : A) × (o ≡ Some x) × (f x ≡ y)
mapped f None y e = cc
mapped f (Some x) y e = (x, refl, same_Some (f x) y e)

source_fits : (format : Format) (value : Data) (source : InputSource) → source_in format value ≡ Some source → IsSourceWithin source
unfolding source_in
source_fits One value source e =
    let (ps, is, same) = mapped Pairs (inputs_in value) source e in
    subst IsSourceWithin same (may_be_given ps (inputs_fit value ps is))
source_fits Two value source e =
    let (name, is, same) = mapped File (text_within 1 255 value) source e in
    subst IsSourceWithin same (text_within-some 1 255 value name is)

optional_fits : (format : Format) (o : Option Data) (source : InputSource) → optional_source format o ≡ Some source → IsSourceWithin source
optional_fits format None source e = subst IsSourceWithin (same_Some (Pairs []) source e) none_given
optional_fits format (Some value) source e = source_fits format value source e

source_within : (format : Format) (t : Members) → is_some (input_at format t) ≡ true → IsSourceWithin (unwrap_or (input_at format t) (Pairs []))
unfolding input_at
source_within format t e =
    let (source, is) = is_some_value (input_at format t) e in
    rw is (optional_fits format (value_at key.Input t) source is)

-- a number that need not be there
pub optional_row : (absent low high : ℕ) (i : Option ℕ) (t : Members) (k : ConfigKey) → low ≤ absent → absent ≤ high → out_of_range i t (row k (IntegerOf low high)) ≡ None → (low ≤ natural_or absent k t) × (natural_or absent k t ≤ high)
unfolding out_of_range wrong_kind is_of natural_or
optional_row absent low high i t k least most fits = by_value (value_at k t) refl fits
  where
    by_value : (o : Option Data) → value_at k t ≡ o → (o >>= wrong_kind i (row k (IntegerOf low high))) ≡ None → (low ≤ natural_or absent k t) × (natural_or absent k t ≤ high)
    by_value None is fits = rw is (least, most)
    by_value (Some value) is fits =
        let (n, number) = is_some_value (number_within low high value) (unless_none _ _ fits) in
        rw (← number_found absent k t low high value n is number) (number_within-some low high value n number)

weight_row : (n : ℕ) (t : Members) → out_of_range (Some n) t (row key.Weight (IntegerOf 1 1000)) ≡ None → (1 ≤ natural_or 1 key.Weight t) × (natural_or 1 key.Weight t ≤ 1000)
weight_row n t fits = optional_row 1 1 1000 (Some n) t key.Weight (omega arith) (omega arith) fits

weight_within : (resumed : Bool) (format : Format) (n : ℕ) (t : Members) → wrong_option resumed format n t ≡ None → (1 ≤ weight_at format t) × (weight_at format t ≤ 1000)
unfolding wrong_option weight_at
weight_within resumed One n t e = (omega arith, omega arith)
weight_within true Two n t e = weight_row n t (first_none (out_of_range (Some n) t (row key.Weight (IntegerOf 1 1000))) _ e).0
weight_within false Two n t e = weight_row n t (first_none (out_of_range (Some n) t (row key.Weight (IntegerOf 1 1000))) _ e).0

fresh_within : (format : Format) (names : List (List ℕ)) (t : Members) → first_fault (guest_tests false format names t) ≡ None → IsGuestWithin (settings_by false format t)
unfolding guest_tests absent_key wrong_value has_inputs settings_by origin_of fresh_of
fresh_within format names t e =
    let n = length names in
    let (absent, e) = first_none (absent_key false n t) _ e in
    let (wrong, e) = first_none (wrong_value false n t) _ e in
    let (option, e) = first_none (wrong_option false format n t) _ e in
    let (named, e) = first_none (unless (is_new_name names (text_at key.Name t)) _) _ e in
    let (input, e) = first_none (unless (is_some (input_at format t)) _) _ e in
    let (_, fits) = rows_fit (Some n) (Some n) t fresh_table absent wrong in
    let (image, fits) = fits in
    let (blocks, fits) = fits in
    let (spaces, fits) = fits in
    let (entries, fits) = fits in
    let (console, fits) = fits in
    let name = name-within names (text_at key.Name t) (unless_none _ _ named) in
    let weight = weight_within false format n t option in
    record {
      name_some = name.0;
      name_most = name.1;
      weight_some = weight.0;
      weight_most = weight.1;
      origin =
          record {
            image_some = image.0;
            image_most = image.1;
            blocks_some = blocks.0;
            blocks_most = blocks.1;
            spaces_some = spaces.0;
            spaces_most = spaces.1;
            entries_least = entries.0;
            entries_most = entries.1;
            console_most = console.1;
            input = source_within format t (unless_none _ _ input);
          };
    }

resumed_within : (format : Format) (names : List (List ℕ)) (t : Members) → first_fault (guest_tests true format names t) ≡ None → IsGuestWithin (settings_by true format t)
unfolding guest_tests absent_key wrong_value settings_by origin_of
resumed_within format names t e =
    let n = length names in
    let (absent, e) = first_none (absent_key true n t) _ e in
    let (wrong, e) = first_none (wrong_value true n t) _ e in
    let (option, e) = first_none (wrong_option true format n t) _ e in
    let (named, e) = first_none (unless (is_new_name names (text_at key.Name t)) _) _ e in
    let (_, fits) = rows_fit (Some n) (Some n) t resumed_table absent wrong in
    let name = name-within names (text_at key.Name t) (unless_none _ _ named) in
    let weight = weight_within true format n t option in
    record {
      name_some = name.0;
      name_most = name.1;
      weight_some = weight.0;
      weight_most = weight.1;
      origin = fits.0;
    }

pub guest_within : (format : Format) (names : List (List ℕ)) (t : Members) → guest_fault format names t ≡ None → IsGuestWithin (settings_of format t)
unfolding guest_fault settings_of
guest_within format names t e = by (is_resumed format t) e
  where
    by : (resumed : Bool) → first_fault (guest_tests resumed format names t) ≡ None → IsGuestWithin (settings_by resumed format t)
    by true e = resumed_within format names t e
    by false e = fresh_within format names t e

pub guests_within : (format : Format) (names : List (List ℕ)) (ts : List Members) → guests_fault format names ts ≡ None → All IsGuestWithin (map (settings_of format) ts)
unfolding guests_fault
guests_within format names [] e = All-nil IsGuestWithin
guests_within format names (t ∷ ts) e =
    let (here, e) = first_none (guest_fault format names t) _ e in
    let (more, e) = first_none (guests_fault format (names ++ text_at key.Name t ∷ []) ts) _ e in
    All-cons IsGuestWithin (settings_of format t) (map (settings_of format) ts) (guest_within format names t here) (guests_within format (names ++ text_at key.Name t ∷ []) ts more)
