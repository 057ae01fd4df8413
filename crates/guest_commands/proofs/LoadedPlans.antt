-- What a plan is that was loaded, and how many files were read for it.
use Rattle.std.proofs.Common.{◌≡◌, ◌∙◌, inr, ℕ, zero, suc, ◌+◌, List, length, Option, Some, None, ap, subst, sym, arith}
use Rattle.std.specs.Option.{IsSomeAnd}
use Rattle.std.specs.Prelude.{⊤}
use Rattle.command_line.specs.Commands.{Command, FileCommand, OnFiles}
use Rattle.outside.specs.declared.stores.Store as stores
use Rattle.outside.specs.Asks.{Ask}
use Rattle.outside.specs.Files.{Files}
use Rattle.nesthv_top.specs.Endings.{HasPlan, WithPlan}
use Rattle.nesthv_top.specs.Loads.{HasPassed}
use Rattle.nesthv_top.specs.Plans.{Plan, plan_of}
use Rattle.nesthv_top.specs.Reads.{asks_of, file_steps}
use Rattle.nesthv_top.specs.Steps.{asks_in, ArePassed}
use Rattle.nesthv_top.proofs.StepLists.{made_all}
use Rattle.guest_commands.specs.Ends.{IsCut}

-- a plan of which something holds
pub has : {A : Type 0} (found : Option A) (a : A) (P : A → Type 0) → found ≡ Some a → P a → IsSomeAnd found P
has found a P is holds = subst (λ found. IsSomeAnd found P) (sym is) holds

-- and of which something else holds then
pub so_has : {A : Type 0} (found : Option A) (P Q : A → Type 0) → ((a : A) → P a → Q a) → IsSomeAnd found P → IsSomeAnd found Q
so_has None P Q goes holds = holds
so_has (Some a) P Q goes holds = goes a holds

-- where something holds of it, there is one
pub some_plan : (files : Files) (command : Option Command) (P : Command → Plan → Type 0) → WithPlan files command P → WithPlan files command (λ command plan. ⊤)
some_plan files (Some command) P holds = so_has (plan_of files (Some command)) (P command) (λ plan. ⊤) (λ plan is. tt) holds
some_plan files None P holds = holds

-- where nothing that was read was refused, all files were read
all_read : (files : Files) (command : FileCommand) (n : ℕ) (before after : Option (List Ask)) → ArePassed (file_steps files command) 0 before n after
    → n ≡ length (asks_of files (Some (OnFiles command)))
all_read files command n before after all = all.number ∙ zero_plus (length (asks_in (file_steps files command)))
    ∙ ap (λ (asks : List Ask). length asks) (sym (made_all (file_steps files command) all.fault))
  where
    zero_plus : (n : ℕ) → 0 + n ≡ n
    zero_plus n = omega arith

-- so where memory ran out after that
pub cut : {X : Type 0} (S : stores.Ghosts X) (command : FileCommand) (made : ℕ) (old new : X) (Idle : Type 0) (Begun : Command → Plan → Type 0) → HasPassed S command made old new
    → HasPlan (S.files old) (Some (OnFiles command)) (λ files. Begun) → IsCut (S.files old) (Some (OnFiles command)) made Idle Begun
cut S command zero old new Idle Begun passed begun = absurd (omega (arith, passed.some))
cut S command (suc n) old new Idle Begun passed begun = inr (λ files told. (all_read files command (suc n) _ _ (passed.steps files told), begun files told))
