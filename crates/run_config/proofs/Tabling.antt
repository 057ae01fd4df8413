-- Tables one after the other.
use Rattle.std.proofs.Common.{◌≡◌, ℕ, ◌+◌, ◌<◌, ◌≤◌, List, [], ◌∷◌, ◌++◌, length, drop, get_or, Option, Some, None, option_map, Bor, BTreeMap, String, Global, refl, ap, sym, append_assoc, append-nil}
use Rattle.std.proofs.lemmas.List.{drop_all}
use Rattle.toml.specs.Data.{Data, Items, Members, item, as_table}
use Rattle.toml.specs.View.{view, items_view, table_view}
use Rattle.toml.specs.declared.value.Value.{Value}
use Rattle.toml.proofs.Views.{items_view-drop}
use Rattle.run_config.specs.Seen.{tables_seen}
use Rattle.run_config.specs.Values.{◌>>=◌, tables_of}

abbrev pub TableRef : Type 0
TableRef = Bor (BTreeMap (String Global) Value)

-- what all tables are, where these are the first ones, and the others are to be read from these items
abbrev pub goes_on : List Members → Items → Option (List Members)
goes_on done rest = option_map (λ more. done ++ more) (tables_of rest)

goes_on_item : (done : List Members) (value : Data) (rest : Items) (table : Members) → as_table value ≡ Some table → goes_on done (item value rest) ≡ goes_on (done ++ table ∷ []) rest
unfolding tables_of
goes_on_item done value rest table e = rw e (with_rest (tables_of rest))
  where
    with_rest : (o : Option (List Members)) → option_map (λ more. done ++ more) (o >>= (λ tables. Some (table ∷ tables))) ≡ option_map (λ more. (done ++ table ∷ []) ++ more) o
    with_rest None = refl
    with_rest (Some more) = ap (λ all. Some all) (sym (append_assoc done (table ∷ []) more))

stops_at_item : (done : List Members) (value : Data) (rest : Items) → as_table value ≡ None → goes_on done (item value rest) ≡ None
unfolding tables_of
stops_at_item done value rest e = rw e refl

seen_more : (tables : List TableRef) (table : TableRef) → tables_seen (tables ++ table ∷ []) ≡ tables_seen tables ++ table_view table.now ∷ []
seen_more [] table = refl
seen_more (t ∷ tables) table = ap (λ more. table_view t.now ∷ more) (seen_more tables table)

pub table_more : (tables : List TableRef) (values : List Value) (i : ℕ) (d : Value) (table : TableRef) → i < length values → as_table (view (get_or values i d)) ≡ Some (table_view table.now)
    → goes_on (tables_seen tables) (items_view (drop i values)) ≡ goes_on (tables_seen (tables ++ table ∷ [])) (items_view (drop (i + 1) values))
table_more tables values i d table within e = rw (items_view-drop values i d within, seen_more tables table) (goes_on_item (tables_seen tables) _ _ (table_view table.now) e)

pub no_table : (done : List Members) (values : List Value) (i : ℕ) (d : Value) → i < length values → as_table (view (get_or values i d)) ≡ None
    → goes_on done (items_view (drop i values)) ≡ None
no_table done values i d within e = rw (items_view-drop values i d within) (stops_at_item done _ _ e)

pub all_tables : (done : List Members) (values : List Value) (i : ℕ) → length values ≤ i → goes_on done (items_view (drop i values)) ≡ Some done
unfolding tables_of
all_tables done values i past = rw (drop_all i values past) (ap (λ all. Some all) (append-nil done))

pub ruleset tables = (table_more, no_table)
