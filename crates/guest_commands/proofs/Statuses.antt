-- When each status of a command about one guest comes, by its end.
use Rattle.std.proofs.Common.{◌≡◌, ◌⊎◌, inl, inr, ℕ, List, Some, refl, arith}
use Rattle.std.specs.Prelude.{⊤, Option, IsSome}
use Rattle.command_line.specs.Commands.{command_of}
use Rattle.outside.specs.Files.{Files}
use Rattle.nesthv_top.specs.declared.ends.Ended.{Ended}
use Rattle.nesthv_top.specs.declared.ends.Ended.TheVariants.{Done, Differs, NoCommand, Refused, ReadFault, WriteFault, NoMemory}
use Rattle.nesthv_top.specs.Endings.{IfKnown, IfPlanned, IfReadFault, IfRefusedWith, IfWriteFault, IsEndFor, IsReplay}
use Rattle.nesthv_top.specs.Plans.{command_fault, plan_of}
use Rattle.nesthv_top.specs.Statuses.{status_of}
use Rattle.nesthv_top.proofs.Telling.{has_fault, has_plan, known, no_command, not_both}
use Rattle.guest_commands.specs.Ends.{ComesFor}

-- status 0 is of one end alone
pub of_done : (P : Ended → Type 0) (ended : Ended) → status_of ended ≡ 0 → P ended → P Done
of_done P Done zero holds = holds
of_done P Differs zero holds = absurd (omega (arith, zero))
of_done P NoCommand zero holds = absurd (omega (arith, zero))
of_done P (Refused found) zero holds = absurd (omega (arith, zero))
of_done P (ReadFault n) zero holds = absurd (omega (arith, zero))
of_done P WriteFault zero holds = absurd (omega (arith, zero))
of_done P (NoMemory n) zero holds = absurd (omega (arith, zero))

failed_read : (P : Type 0) (ended : Ended) → status_of ended ≡ 3 → IfReadFault ended (λ n. P) → P
failed_read P Done three cause = absurd (omega (arith, three))
failed_read P Differs three cause = absurd (omega (arith, three))
failed_read P NoCommand three cause = absurd (omega (arith, three))
failed_read P (Refused found) three cause = absurd (omega (arith, three))
failed_read P (ReadFault n) three cause = cause
failed_read P WriteFault three cause = absurd (omega (arith, three))
failed_read P (NoMemory n) three cause = absurd (omega (arith, three))

failed_write : (P : Type 0) (ended : Ended) → status_of ended ≡ 4 → IfWriteFault ended P → P
failed_write P Done four cause = absurd (omega (arith, four))
failed_write P Differs four cause = absurd (omega (arith, four))
failed_write P NoCommand four cause = absurd (omega (arith, four))
failed_write P (Refused found) four cause = absurd (omega (arith, four))
failed_write P (ReadFault n) four cause = absurd (omega (arith, four))
failed_write P WriteFault four cause = cause
failed_write P (NoMemory n) four cause = absurd (omega (arith, four))

module _ (words : List (List ℕ)) (files : Files) (never : IsReplay (command_of words) → ⊥) where
  -- a command that has a fault has no plan
  refuses : (ended : Ended) → IsEndFor ended words → IfPlanned ended files (command_of words) (λ command plan. ⊤) → IsSome (command_fault files (command_of words))
      → (status_of ended ≡ 2) ⊎ (status_of ended ≡ 3) ⊎ (status_of ended ≡ 5)
  refuses Done is plan fault = absurd (not_both files (command_of words) (has_plan files (command_of words) _ plan) fault)
  refuses Differs is plan fault = absurd (never is)
  refuses NoCommand is plan fault = let none = rw is at fault in cc
  refuses (Refused found) is plan fault = inl refl
  refuses (ReadFault n) is plan fault = inr (inl refl)
  refuses WriteFault is plan fault = absurd (not_both files (command_of words) (has_plan files (command_of words) _ plan) fault)
  refuses (NoMemory n) is plan fault = inr (inr refl)

  completes : (Reading Writing : Type 0) (ended : Ended) → IsEndFor ended words → IfRefusedWith ended (λ found. command_fault files (command_of words) ≡ Some found)
      → IfReadFault ended (λ n. Reading) → IfWriteFault ended Writing → IsSome (plan_of files (command_of words)) → ¬ Reading → ¬ Writing → (status_of ended ≡ 0) ⊎ (status_of ended ≡ 5)
  completes Reading Writing Done is fault read written plan no_read no_write = inl refl
  completes Reading Writing Differs is fault read written plan no_read no_write = absurd (never is)
  completes Reading Writing NoCommand is fault read written plan no_read no_write = let none = rw is at plan in cc
  completes Reading Writing (Refused found) is fault read written plan no_read no_write =
      absurd (not_both files (command_of words) plan (known (command_fault files (command_of words)) found fault))
  completes Reading Writing (ReadFault n) is fault read written plan no_read no_write = absurd (no_read read)
  completes Reading Writing WriteFault is fault read written plan no_read no_write = absurd (no_write written)
  completes Reading Writing (NoMemory n) is fault read written plan no_read no_write = inr refl

-- so each status of a command that is not a replay, where an end at which something was written has a plan
pub comes : (told : Option Files) (words : List (List ℕ)) (Reading Writing : Type 0) (ended : Ended) → IsEndFor ended words → (IsReplay (command_of words) → ⊥)
    → IfKnown told (command_of words) (λ files. IfRefusedWith ended (λ found. command_fault files (command_of words) ≡ Some found))
    → IfKnown told (command_of words) (λ files. IfPlanned ended files (command_of words) (λ command plan. ⊤))
    → IfReadFault ended (λ n. Reading) → IfWriteFault ended Writing → ComesFor told words Reading Writing (status_of ended)
comes told words Reading Writing ended is never fault planned read written = record {
  no_command = no_command words ended is;
  refused = record {
    only = λ files from two. has_fault files (command_of words) ended (fault files from) two;
    always = λ files from. refuses words files never ended is (planned files from);
  };
  read_fault = λ three. failed_read Reading ended three read;
  write_fault = λ four. failed_write Writing ended four written;
  complete = λ files from. completes words files never Reading Writing ended is (fault files from) read written;
}
