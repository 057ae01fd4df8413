-- What stands in a sink after a step.
use Rattle.std.specs.Prelude.{◌≡◌, ℕ, ◌≤◌, List, Result, Ok, Err, Bool, false, IsErrOf}
use Rattle.outside.specs.declared.sinks.Sink as sinks
use Rattle.outside.specs.Faults.{Rose}
use Rattle.outside.specs.Pieces.{Appends, Puts}
use Rattle.nesthv_top.specs.declared.ends.RunEnd.{RunEnd}
use Rattle.nesthv_top.specs.declared.ends.RunEnd.TheVariants.{NoMemory, WriteFault}
use Rattle.nesthv_top.specs.Lines.{memory_line}

-- a text was written whole, or a front of it, or nothing
abbrev pub IsWritten : {S A : Type 0} → (S → List ℕ → Type 0) → S → S → Result A RunEnd → List ℕ → Type 0
IsWritten stands_for old new (Ok a) text = Appends stands_for old new text
IsWritten stands_for old new (Err WriteFault) text = Puts stands_for old new false text
IsWritten stands_for old new (Err NoMemory) text = new ≡ old

-- what a step leaves of a sink that it writes a text in, where memory may run out before
pub record Writes {Y A : Type 0} (O : sinks.Ghosts Y) (result : Result A RunEnd) (old new : Y)
    (text : List ℕ) : Type 0 where
  pub bytes : IsWritten O.stands_for old new result text
  pub cause : IsErrOf result WriteFault → Rose (O.faults old) (O.faults new)
  pub count : O.faults old ≤ O.faults new
  pub stays : O.made_with new ≡ O.made_with old

-- a line was put: whole, or a front of it where the count of faults rose
abbrev pub IsLinePut : {Z : Type 0} → sinks.Ghosts Z → Z → Z → List ℕ → Type 0
IsLinePut E old new line = (whole : Bool) × Puts E.stands_for old new whole line
    × (whole ≡ false → Rose (E.faults old) (E.faults new))

-- a program without its words: memory ran out for them, which its line tells, and nothing else was done
pub record IsWordless {X Y Z : Type 0} (E : sinks.Ghosts Z) (status : ℕ) (store store' : X) (out out' : Y)
    (err err' : Z) : Type 0 where
  pub short : status ≡ 5
  pub line : IsLinePut E err err' memory_line
  pub unread : store' ≡ store
  pub unwritten : out' ≡ out
