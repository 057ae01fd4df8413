-- A text that is put in a sink.
use Rattle.std.specs.Prelude.{ℕ, ◌≡◌, ◌≤◌, List, Result, is_ok, OnErr}
use Rattle.outside.specs.declared.sinks.Sink as sinks
use Rattle.outside.specs.Faults.{Rose}
use Rattle.outside.specs.Pieces.{Puts}

-- what a step leaves of a sink that it puts a text in, by whether all was put
pub record PutsText {Y A E : Type 0} (O : sinks.Ghosts Y) (result : Result A E) (old new : Y)
    (text : List ℕ) : Type 0 where
  pub bytes : Puts O.stands_for old new (is_ok result) text
  pub cause : OnErr result (Rose (O.faults old) (O.faults new))
  pub count : O.faults old ≤ O.faults new
  pub stays : O.made_with new ≡ O.made_with old
