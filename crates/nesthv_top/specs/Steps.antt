-- What a command does before it runs, as a list of steps: each reads a file, or none, and then tests.
use Rattle.std.specs.Prelude.{◌≡◌, ⊤, ℕ, ◌+◌, ◌<◌, ◌≤◌, ◌⊎◌, List, [], ◌∷◌, ◌++◌, length, map, Option, Some, None, option_map, Result, Ok, Err, Bool, true, false}
use Rattle.std.specs.List.{All}
use Rattle.outside.specs.Asks.{Ask}
use Rattle.run_config.specs.declared.faults.ConfigFault.{ConfigFault}
use Rattle.run_config.specs.Tests.{first_fault}
use Rattle.nesthv_top.specs.declared.ends.LoadEnd.{LoadEnd}
use Rattle.nesthv_top.specs.declared.ends.LoadEnd.TheVariants.{Refused, ReadFault, NoMemory}

-- a read, if there is one, whether the test after it takes memory, and the fault that the test finds
pub record Step : Type 0 where
  pub ask : Option Ask
  pub takes : Bool
  pub fault : Option ConfigFault

-- the first fault of steps
abbrev pub fault_in : List Step → Option ConfigFault
fault_in steps = first_fault (map (λ step. step.fault) steps)

-- the read of a step, and those of all steps
abbrev pub asks_by : Option Ask → List Ask
asks_by None = []
asks_by (Some ask) = ask ∷ []

abbrev pub asks_in : List Step → List Ask
asks_in [] = []
asks_in (step ∷ rest) = asks_by step.ask ++ asks_in rest

-- reads that follow where there is no fault
abbrev pub asks_unless : Option ConfigFault → List Ask → List Ask
asks_unless None asks = asks
asks_unless (Some found) asks = []

-- the reads that are made: up to the first step with a fault, its own with them
abbrev pub made_of : List Step → List Ask
made_of [] = []
made_of (step ∷ rest) = asks_by step.ask ++ asks_unless step.fault (made_of rest)

-- what was asked, where the store tells it, after these reads
abbrev pub AskedMore : List Ask → Option (List Ask) → Option (List Ask) → Type 0
AskedMore reads before after = after ≡ option_map (λ asks. asks ++ reads) before

-- these steps were passed, after that many reads of the command; their reads are counted on
pub record ArePassed (steps : List Step) (made : ℕ) (before : Option (List Ask)) (made' : ℕ)
    (after : Option (List Ask)) : Type 0 where
  pub fault : fault_in steps ≡ None
  pub asked : AskedMore (asks_in steps) before after
  pub number : made' ≡ made + length (asks_in steps)

-- some of the steps were passed, and the read of the next one, which is read n of the command, failed
pub record IsFailed (steps : List Step) (made n : ℕ) (before after : Option (List Ask)) : Type 0 where
  pub passed : List Step
  pub failing : Ask
  pub takes : Bool
  pub found : Option ConfigFault
  pub rest : List Step
  pub split : steps ≡ passed ++ record { ask = Some failing; takes = takes; fault = found } ∷ rest
  pub fault : fault_in passed ≡ None
  pub asked : AskedMore (asks_in passed ++ record failing { failed = true } ∷ []) before after
  pub number : n ≡ made + length (asks_in passed) + 1

-- the test of the first of these steps takes memory
abbrev pub TakesMemory : List Step → Type 0
TakesMemory [] = ⊥
TakesMemory (step ∷ rest) = step.takes ≡ true

-- some of the steps were passed, n reads of the command were made, and memory ran out; from the first
-- read on, only where a read was left, or a test that takes memory was the next step
pub record IsShort (steps : List Step) (made n : ℕ) (before after : Option (List Ask)) : Type 0 where
  pub passed : List Step
  pub rest : List Step
  pub split : steps ≡ passed ++ rest
  pub fault : fault_in passed ≡ None
  pub asked : AskedMore (asks_in passed) before after
  pub number : n ≡ made + length (asks_in passed)
  pub left : 1 ≤ n → (1 ≤ length (asks_in rest)) ⊎ TakesMemory rest

-- memory ran out after n reads of the command: before all steps were passed, or after that
abbrev pub IsWanting : List Step → ℕ → Option (List Ask) → Option (List Ask) → Type 0
IsWanting steps n before after = IsShort steps 0 n before after ⊎ ArePassed steps 0 before n after

-- how steps stop: at a fault, a failed read, or out of memory
abbrev pub StopAs : List Step → ℕ → Option (List Ask) → LoadEnd → Option (List Ask) → Type 0
StopAs steps made before (Refused found) after =
    (fault_in steps ≡ Some found) × AskedMore (made_of steps) before after
StopAs steps made before (ReadFault n) after = IsFailed steps made n before after
StopAs steps made before (NoMemory n) after = IsShort steps made n before after

-- how they end
abbrev pub EndAs : {A : Type 0} → List Step → ℕ → Option (List Ask) → Result A LoadEnd → ℕ
    → Option (List Ask) → Type 0
EndAs steps made before (Ok a) made' after = ArePassed steps made before made' after
EndAs steps made before (Err end) made' after = StopAs steps made before end after

-- how one read stops: it failed, or memory ran out before it
abbrev pub ReadStopsAs : Ask → ℕ → Option (List Ask) → LoadEnd → Option (List Ask) → Type 0
ReadStopsAs ask made before (Refused found) after = ⊥
ReadStopsAs ask made before (ReadFault n) after =
    (n ≡ made + 1) × AskedMore (record ask { failed = true } ∷ []) before after
ReadStopsAs ask made before (NoMemory n) after = (n ≡ made) × AskedMore [] before after

-- how it ends
abbrev pub ReadAs : {A : Type 0} → Ask → ℕ → Option (List Ask) → Result A LoadEnd → ℕ → Option (List Ask)
    → Type 0
ReadAs ask made before (Ok a) made' after = (made' ≡ made + 1) × AskedMore (ask ∷ []) before after
ReadAs ask made before (Err end) made' after = ReadStopsAs ask made before end after

-- none of these reads failed
abbrev pub NoneFailed : List Ask → Type 0
NoneFailed reads = All (λ read. read.failed ≡ false) reads

-- reads were made, none of which failed; with those before them, that many have been made
pub record AreAnswered (made : ℕ) (before : Option (List Ask)) (made' : ℕ) (after : Option (List Ask))
    : Type 0 where
  pub reads : List Ask
  pub asked : AskedMore reads before after
  pub none : NoneFailed reads
  pub number : made' ≡ made + length reads

-- reads were made, of which the last one failed and no other; that one is read n of the command
pub record IsLastFailed (made n : ℕ) (before after : Option (List Ask)) : Type 0 where
  pub passed : List Ask
  pub failing : Ask
  pub asked : AskedMore (passed ++ failing ∷ []) before after
  pub none : NoneFailed passed
  pub failed : failing.failed ≡ true
  pub number : n ≡ made + length passed + 1

-- what a stop says of the reads that were made, whether or not the store tells its files
abbrev pub StopAnswers : ℕ → Option (List Ask) → LoadEnd → ℕ → Option (List Ask) → Type 0
StopAnswers made before (Refused found) made' after = AreAnswered made before made' after
StopAnswers made before (ReadFault n) made' after = IsLastFailed made n before after
StopAnswers made before (NoMemory n) made' after = AreAnswered made before n after

-- and any end
abbrev pub EndAnswers : {A : Type 0} → ℕ → Option (List Ask) → Result A LoadEnd → ℕ → Option (List Ask)
    → Type 0
EndAnswers made before (Ok a) made' after = AreAnswered made before made' after
EndAnswers made before (Err end) made' after = StopAnswers made before end made' after

-- the number that a stop of at most that many reads tells, after that many others
abbrev pub IsNumberAfter : ℕ → ℕ → LoadEnd → Type 0
IsNumberAfter most made (Refused found) = ⊤
IsNumberAfter most made (ReadFault n) = (made < n) × (n ≤ made + most)
IsNumberAfter most made (NoMemory n) = made ≤ n

-- how many reads were made at an end of at most that many
abbrev pub IsNumbered : {A : Type 0} → ℕ → ℕ → Result A LoadEnd → ℕ → Type 0
IsNumbered most made (Ok a) made' = (made ≤ made') × (made' ≤ made + most)
IsNumbered most made (Err end) made' = IsNumberAfter most made end
