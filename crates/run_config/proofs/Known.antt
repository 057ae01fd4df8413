-- The keys of a table, beside the members that it stands for.
use Rattle.std.proofs.Common.{◌≡◌, ℕ, Bool, List, [], ◌∷◌, ◌++◌, map, String, Global, string_bytes, refl, ap, ◌||◌}
use Rattle.std.proofs.lemmas.List.Folds.{list_any-append}
use Rattle.std.specs.List.{list_all, list_any}
use Rattle.std.specs.Map.{keys_of}
use Rattle.std.specs.Str.{bytes_eq}
use Rattle.toml.specs.View.{members_view}
use Rattle.toml.specs.declared.value.Value.{Value}
use Rattle.run_config.specs.declared.rows.Row.{Row}
use Rattle.run_config.specs.Keys.{name_of}
use Rattle.run_config.specs.Values.{has_only}

list_any-rows : (test : List ℕ → Bool) (rows : List Row) → list_any test (map name_of (map (λ row. row.key) rows)) ≡ list_any (λ row. test (name_of row.key)) rows
list_any-rows test [] = refl
list_any-rows test (row ∷ rows) = ap (λ b. test (name_of row.key) || b) (list_any-rows test rows)

-- whether a text is the key of a row of either list
abbrev known : List Row → List Row → List ℕ → Bool
known rows options text =
    list_any (λ row. bytes_eq text (name_of row.key)) rows || list_any (λ row. bytes_eq text (name_of row.key)) options

pub has_only_by_rows : (es : List (String Global × Value)) (rows options : List Row) → has_only (map (λ row. row.key) (rows ++ options)) (members_view es) ≡ list_all (λ text. known rows options (string_bytes text)) (keys_of es)
unfolding has_only
has_only_by_rows [] rows options = refl
has_only_by_rows (e ∷ es) rows options =
    rw (list_any-rows (bytes_eq (string_bytes e.0)) (rows ++ options), list_any-append (λ row. bytes_eq (string_bytes e.0) (name_of row.key)) rows options, has_only_by_rows es rows options)
