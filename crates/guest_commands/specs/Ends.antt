-- When each status of a command about one guest comes, and what it leaves where memory runs out.
use Rattle.std.specs.Prelude.{◌≡◌, ◌⊎◌, ℕ, zero, suc, List, Option, IsSome, length}
use Rattle.command_line.specs.Commands.{Command, command_of}
use Rattle.outside.specs.Files.{Files}
use Rattle.nesthv_top.specs.Endings.{IfKnown, IsRefusal, WithPlan}
use Rattle.nesthv_top.specs.Plans.{Plan, plan_of}
use Rattle.nesthv_top.specs.Reads.{asks_of}
use Rattle.nesthv_top.specs.Statuses.{IsNoCommand}

-- when each status comes, for these words as those of a save: by whether a count rose of faults of what is
-- read, and of what is written. 5 is out of memory, which is free
pub record ComesFor (told : Option Files) (words : List (List ℕ)) (Reading Writing : Type 0) (status : ℕ)
    : Type 0 where
  pub no_command : IsNoCommand words status
  pub refused : IsRefusal told (command_of words) status
  pub read_fault : status ≡ 3 → Reading
  pub write_fault : status ≡ 4 → Writing
  pub complete : IfKnown told (command_of words) (λ files. IsSome (plan_of files (command_of words))
      → ¬ Reading → ¬ Writing → (status ≡ 0) ⊎ (status ≡ 5))

-- where memory ran out after that many reads: nothing was begun, or all files had been read, and this holds
-- of the plan
abbrev pub IsCut : Option Files → Option Command → ℕ → Type 0 → (Command → Plan → Type 0)
    → Type 0
IsCut told command zero Idle Begun = Idle
IsCut told command (suc n) Idle Begun = Idle
    ⊎ IfKnown told command (λ files. (suc n ≡ length (asks_of files command))
    × WithPlan files command Begun)
