-- The word that says which kinds of events the log is to have (own).
use Rattle.std.specs.Prelude.{ℕ, ◌==◌, Bool, true, false, List, [], ◌∷◌, Option, Some, None, bytes_eq, codes, if◌then◌else◌}
use Rattle.log_lines.specs.declared.kinds.Kind.{Kind}
use Rattle.log_lines.specs.declared.kinds.Kind.TheVariants.{Traps, Worlds, Calls, Fences, Fills, Stale, Steps, Counts}
use Rattle.log_lines.specs.declared.kinds.Kinds.{Kinds}

-- the kind of a name
unfoldable pub kind_named : List ℕ → Option Kind
kind_named name =
    if bytes_eq name (codes "traps") then Some Traps
    else if bytes_eq name (codes "worlds") then Some Worlds
    else if bytes_eq name (codes "calls") then Some Calls
    else if bytes_eq name (codes "fences") then Some Fences
    else if bytes_eq name (codes "fills") then Some Fills
    else if bytes_eq name (codes "stale") then Some Stale
    else if bytes_eq name (codes "steps") then Some Steps
    else if bytes_eq name (codes "counts") then Some Counts
    else None

abbrev pub no_kinds : Kinds
no_kinds = record {
  traps = false;
  worlds = false;
  calls = false;
  fences = false;
  fills = false;
  stale = false;
  steps = false;
  counts = false;
}

unfoldable pub with_kind : Kinds → Kind → Kinds
with_kind kinds Traps = record kinds { traps = true }
with_kind kinds Worlds = record kinds { worlds = true }
with_kind kinds Calls = record kinds { calls = true }
with_kind kinds Fences = record kinds { fences = true }
with_kind kinds Fills = record kinds { fills = true }
with_kind kinds Stale = record kinds { stale = true }
with_kind kinds Steps = record kinds { steps = true }
with_kind kinds Counts = record kinds { counts = true }

abbrev pub is_comma : ℕ → Bool
is_comma c = c == 44

-- the names in a word, between its commas: one more than there are commas
abbrev pub onto_first : ℕ → List (List ℕ) → List (List ℕ)
onto_first c [] = (c ∷ []) ∷ []
onto_first c (name ∷ names) = (c ∷ name) ∷ names

abbrev pub after_byte : ℕ → Bool → List (List ℕ) → List (List ℕ)
after_byte c true names = [] ∷ names
after_byte c false names = onto_first c names

unfoldable pub kind_names : List ℕ → List (List ℕ)
kind_names [] = [] ∷ []
kind_names (c ∷ cs) = after_byte c (is_comma c) (kind_names cs)

-- kinds and those of names, each of which is a kind
abbrev pub kinds_then : (Kinds → Option Kinds) → Kinds → Option Kind → Option Kinds
kinds_then others kinds (Some kind) = others (with_kind kinds kind)
kinds_then others kinds None = None

unfoldable pub kinds_into : List (List ℕ) → Kinds → Option Kinds
kinds_into [] kinds = Some kinds
kinds_into (name ∷ names) kinds = kinds_then (kinds_into names) kinds (kind_named name)

-- the kinds of a word
unfoldable pub kinds_of : List ℕ → Option Kinds
kinds_of word = kinds_into (kind_names word) no_kinds
