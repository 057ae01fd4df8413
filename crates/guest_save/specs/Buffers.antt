-- Bytes that are put through a buffer.
use Rattle.std.specs.Prelude.{ℕ, ◌≡◌, ◌≤◌, Bool, true, false, List, ◌++◌, Result, is_ok, length, take, OnErr}
use Rattle.outside.specs.declared.sinks.Sink as sinks
use Rattle.outside.specs.Faults.{Rose}
use Rattle.outside.specs.Pieces.{Appends}

-- the sink was given what was held and these bytes, but for what is held now
pub record GivesAll {S : Type 0} (stands_for : S → List ℕ → Type 0) (old : S) (held : List ℕ) (new : S)
    (left bytes : List ℕ) : Type 0 where
  pub given : List ℕ
  pub split : held ++ bytes ≡ given ++ left
  pub puts : Appends stands_for old new given

-- the sink was given a front of what was held and these bytes
pub record GivesFront {S : Type 0} (stands_for : S → List ℕ → Type 0) (old : S) (held : List ℕ) (new : S)
    (bytes : List ℕ) : Type 0 where
  pub count : ℕ
  pub within : count ≤ length (held ++ bytes)
  pub puts : Appends stands_for old new (take count (held ++ bytes))

abbrev pub Gives : {S : Type 0} → (S → List ℕ → Type 0) → S → List ℕ → S → List ℕ → Bool → List ℕ → Type 0
Gives stands_for old held new left true bytes = GivesAll stands_for old held new left bytes
Gives stands_for old held new left false bytes = GivesFront stands_for old held new bytes

-- what a step leaves of a sink and a buffer that it appends bytes to, by whether all were appended
pub record Buffers {Y A E : Type 0} (O : sinks.Ghosts Y) (result : Result A E) (old : Y) (held : List ℕ)
    (new : Y) (left text : List ℕ) : Type 0 where
  pub bytes : Gives O.stands_for old held new left (is_ok result) text
  pub cause : OnErr result (Rose (O.faults old) (O.faults new))
  pub count : O.faults old ≤ O.faults new
  pub stays : O.made_with new ≡ O.made_with old
