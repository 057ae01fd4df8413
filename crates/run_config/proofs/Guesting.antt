-- Guests one after the other.
use Rattle.std.proofs.Common.{◌≡◌, ℕ, ◌+◌, ◌<◌, ◌≤◌, Bool, List, [], ◌∷◌, ◌++◌, length, drop, get_or, map, Option, Some, None, refl, ap, ◌∙◌, ◌||◌, sym, append_assoc, append-nil}
use Rattle.std.proofs.lemmas.List.{drop_all, drop_more}
use Rattle.std.specs.List.{list_any}
use Rattle.toml.specs.Data.{Members}
use Rattle.toml.specs.View.{table_view}
use Rattle.run_config.specs.declared.faults.ConfigFault.{ConfigFault}
use Rattle.run_config.specs.declared.formats.Format.{Format}
use Rattle.run_config.specs.declared.guests.GuestSettings.{GuestSettings}
use Rattle.run_config.specs.declared.keys.ConfigKey.TheVariants as key
use Rattle.run_config.specs.Guests.{absent_key, guest_fault, guest_tests, guests_fault, is_resumed, settings_by, settings_of, wrong_option, wrong_value}
use Rattle.run_config.specs.Seen.{names_of, tables_seen}
use Rattle.run_config.specs.Tests.{first_fault}
use Rattle.run_config.specs.Values.{text_at}
use Rattle.run_config.proofs.Tabling.{TableRef}

pub list_any_names : (test : List ℕ → Bool) (guests : List GuestSettings) → list_any test (names_of guests) ≡ list_any (λ g. test g.name) guests
list_any_names test [] = refl
list_any_names test (g ∷ guests) = ap (λ b. test g.name || b) (list_any_names test guests)

names_more : (guests : List GuestSettings) (g : GuestSettings) → names_of (guests ++ g ∷ []) ≡ names_of guests ++ g.name ∷ []
names_more [] g = refl
names_more (h ∷ guests) g = ap (λ more. h.name ∷ more) (names_more guests g)

name_kept : (format : Format) (table : Members) → (settings_of format table).name ≡ text_at key.Name table
unfolding settings_of settings_by
name_kept format table = refl

seen_drop : (tables : List TableRef) (i : ℕ) (d : TableRef) → i < length tables → tables_seen (drop i tables) ≡ table_view (get_or tables i d).now ∷ tables_seen (drop (i + 1) tables)
seen_drop tables i d within = rw (drop_more tables i d within) refl

fault_after : (format : Format) (names : List (List ℕ)) (table : Members) (rest : List Members) → guest_fault format names table ≡ None → guests_fault format names (table ∷ rest) ≡ guests_fault format (names ++ text_at key.Name table ∷ []) rest
unfolding guests_fault
fault_after format names table rest e = rw e (only (guests_fault format (names ++ text_at key.Name table ∷ []) rest))
  where
    only : (o : Option ConfigFault) → first_fault (o ∷ []) ≡ o
    only None = refl
    only (Some f) = refl

fault_here : (format : Format) (names : List (List ℕ)) (table : Members) (rest : List Members) (f : ConfigFault) → guest_fault format names table ≡ Some f → guests_fault format names (table ∷ rest) ≡ Some f
unfolding guests_fault
fault_here format names table rest f e = rw e refl

-- the next guest has no fault
pub guest_passes : (format : Format) (guests : List GuestSettings) (g : GuestSettings) (tables : List TableRef) (i : ℕ) (d : TableRef) → i < length tables → g ≡ settings_of format (table_view (get_or tables i d).now) → guest_fault format (names_of guests) (table_view (get_or tables i d).now) ≡ None
    → guests_fault format (names_of guests) (tables_seen (drop i tables)) ≡ guests_fault format (names_of (guests ++ g ∷ [])) (tables_seen (drop (i + 1) tables))
guest_passes format guests g tables i d within is e =
    let table = table_view (get_or tables i d).now in
    let name : g.name ≡ text_at key.Name table = ap (λ s. s.name) is ∙ name_kept format table in
    rw (seen_drop tables i d within, names_more guests g, name) (fault_after format (names_of guests) table (tables_seen (drop (i + 1) tables)) e)

pub guest_fails : (format : Format) (guests : List GuestSettings) (tables : List TableRef) (i : ℕ) (d : TableRef) (f : ConfigFault) → i < length tables → guest_fault format (names_of guests) (table_view (get_or tables i d).now) ≡ Some f
    → guests_fault format (names_of guests) (tables_seen (drop i tables)) ≡ Some f
guest_fails format guests tables i d f within e = rw (seen_drop tables i d within) (fault_here format (names_of guests) _ _ f e)

pub settings_more : (format : Format) (guests : List GuestSettings) (g : GuestSettings) (tables : List TableRef) (i : ℕ) (d : TableRef) → i < length tables → g ≡ settings_of format (table_view (get_or tables i d).now)
    → guests ++ map (settings_of format) (tables_seen (drop i tables)) ≡ (guests ++ g ∷ []) ++ map (settings_of format) (tables_seen (drop (i + 1) tables))
settings_more format guests g tables i d within is = rw (seen_drop tables i d within, is) (sym (append_assoc guests (settings_of format (table_view (get_or tables i d).now) ∷ []) _))

pub all_pass : (format : Format) (names : List (List ℕ)) (tables : List TableRef) (i : ℕ) → length tables ≤ i → guests_fault format names (tables_seen (drop i tables)) ≡ None
unfolding guests_fault
all_pass format names tables i past = rw (drop_all i tables past) refl

pub all_settings : (format : Format) (guests : List GuestSettings) (tables : List TableRef) (i : ℕ) → length tables ≤ i → guests ++ map (settings_of format) (tables_seen (drop i tables)) ≡ guests
all_settings format guests tables i past = rw (drop_all i tables past) (append-nil guests)

pub ruleset names = (list_any_names)

pub ruleset guests = (guest_passes, guest_fails, settings_more)

-- which test of its rows refuses a guest
pub absent_refuses : (format : Format) (names : List (List ℕ)) (table : Members) (f : ConfigFault) → absent_key (is_resumed format table) (length names) table ≡ Some f → guest_fault format names table ≡ Some f
unfolding guest_fault guest_tests
absent_refuses format names table f absent = rw absent refl

pub wrong_refuses : (format : Format) (names : List (List ℕ)) (table : Members) (f : ConfigFault) → absent_key (is_resumed format table) (length names) table ≡ None
    → wrong_value (is_resumed format table) (length names) table ≡ Some f → guest_fault format names table ≡ Some f
unfolding guest_fault guest_tests
wrong_refuses format names table f present wrong = rw (present, wrong) refl

pub option_refuses : (format : Format) (names : List (List ℕ)) (table : Members) (f : ConfigFault) → absent_key (is_resumed format table) (length names) table ≡ None
    → wrong_value (is_resumed format table) (length names) table ≡ None → wrong_option (is_resumed format table) format (length names) table ≡ Some f → guest_fault format names table ≡ Some f
unfolding guest_fault guest_tests
option_refuses format names table f present right wrong = rw (present, right, wrong) refl
