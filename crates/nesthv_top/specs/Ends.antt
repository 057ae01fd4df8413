-- What each end of a step says.
use Rattle.std.specs.Prelude.{◌≡◌, ◌≤◌, ℕ, List, Some, Result, Ok, Err, IfOk, ⊤}
use Rattle.outside.specs.declared.stores.Store as stores
use Rattle.outside.specs.Faults.{Rose}
use Rattle.outside.specs.Files.{Files}
use Rattle.nesthv_top.specs.declared.ends.Ended.{Ended}
use Rattle.nesthv_top.specs.declared.ends.Ended.TheVariants as ended
use Rattle.nesthv_top.specs.declared.ends.LoadEnd.{LoadEnd}
use Rattle.nesthv_top.specs.declared.ends.LoadEnd.TheVariants.{Refused, ReadFault, NoMemory}
use Rattle.nesthv_top.specs.Steps.{Step, EndAnswers, EndAs, IsNumbered}

-- the end of the command whose step ended so
abbrev pub ended_by : LoadEnd → Ended
ended_by (Refused found) = ended.Refused found
ended_by (ReadFault n) = ended.ReadFault n
ended_by (NoMemory n) = ended.NoMemory n

-- the same for a step that went well, where nothing that follows refuses or fails
abbrev pub ended_of : {A : Type 0} → Result A LoadEnd → Ended
ended_of (Ok a) = ended.Done
ended_of (Err end) = ended_by end

-- a fact for a failed read
abbrev pub IfFailed : LoadEnd → Type 0 → Type 0
IfFailed (Refused found) P = ⊤
IfFailed (ReadFault n) P = P
IfFailed (NoMemory n) P = ⊤

abbrev pub IfReadFailed : {A : Type 0} → Result A LoadEnd → Type 0 → Type 0
IfReadFailed (Ok a) P = ⊤
IfReadFailed (Err end) P = IfFailed end P

-- what at most that many reads leave of a store, whether or not it tells its files: these stay, its count of
-- faults rises where a read failed and never falls, and its list of reads grows, by one that failed where the
-- end says so; the reads are numbered after those made before
pub record Leaves {X A : Type 0} (S : stores.Ghosts X) (most : ℕ) (result : Result A LoadEnd) (old new : X)
    (made made' : ℕ) : Type 0 where
  pub files : S.files new ≡ S.files old
  pub cause : IfReadFailed result (Rose (S.faults old) (S.faults new))
  pub count : S.faults old ≤ S.faults new
  pub answers : EndAnswers made (S.asked old) result made' (S.asked new)
  pub numbers : IsNumbered most made result made'

-- steps of at most that many reads have been made: where the store tells its files, they end as the steps of
-- these files say, and what a good end answers is what the files say
pub record HasRead {X A : Type 0} (S : stores.Ghosts X) (steps : Files → List Step) (most : ℕ)
    (IsSaid : Files → A → Type 0) (result : Result A LoadEnd) (old new : X) (made made' : ℕ) : Type 0 where
  pub ends : (files : Files) → S.files old ≡ Some files
      → EndAs (steps files) made (S.asked old) result made' (S.asked new)
  pub says : (files : Files) → S.files old ≡ Some files → IfOk result (IsSaid files)
  pub leaves : Leaves S most result old new made made'
