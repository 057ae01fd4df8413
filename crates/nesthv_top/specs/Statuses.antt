-- The status of a command's end.
use Rattle.std.specs.Prelude.{◌≡◌, ◌≤◌, ◌⊎◌, ℕ, List, None, drop, length, true}
use Rattle.std.specs.List.{list_all}
use Rattle.command_line.specs.Commands.{command_of, is_plain}
use Rattle.replay.specs.declared.comparisons.Verdict.{Verdict}
use Rattle.replay.specs.declared.comparisons.Verdict.TheVariants as verdict
use Rattle.nesthv_top.specs.declared.ends.Ended.{Ended}
use Rattle.nesthv_top.specs.declared.ends.Ended.TheVariants.{Done, Differs, NoCommand, Refused, ReadFault, WriteFault, NoMemory}

abbrev pub status_of : Ended → ℕ
status_of Done = 0
status_of NoCommand = 1
status_of (Refused found) = 2
status_of (ReadFault n) = 3
status_of WriteFault = 4
status_of (NoMemory n) = 5
status_of Differs = 6

-- the status is that of an end of which this holds
abbrev pub IsStatusOf : ℕ → (Ended → Type 0) → Type 0
IsStatusOf status P = (ended : Ended) × (status ≡ status_of ended) × P ended

-- the status of a command that was done, and that which tells of its verdict
abbrev pub IsDone : ℕ → Type 0
IsDone status = (status ≡ 0) ⊎ (status ≡ 6)

abbrev pub verdict_status : Verdict → ℕ
verdict_status verdict.Same = 0
verdict_status (verdict.Differs n) = 6

-- there is a word, and none after the first is empty or begins with a dash
pub record ArePlain (words : List (List ℕ)) : Type 0 where
  pub some : 1 ≤ length words
  pub plain : list_all is_plain (drop 1 words) ≡ true

-- the status is 1 only where the words are not a command; and where they are none, the status is 1, unless
-- memory ran out for reading words that are plain
pub record IsNoCommand (words : List (List ℕ)) (status : ℕ) : Type 0 where
  pub only : status ≡ 1 → command_of words ≡ None
  pub always : command_of words ≡ None → (status ≡ 1) ⊎ ((status ≡ 5) × ArePlain words)
