-- What a status tells, by the end that it stands for.
use Rattle.std.proofs.Common.{cond, ◌≡◌, ◌≤◌, ◌⊎◌, inl, inr, ℕ, zero, suc, List, [], ◌∷◌, Option, Some, None, Result, Bool, true, false, refl, sym, ap, subst, arith}
use Rattle.std.specs.List.{list_all}
use Rattle.std.specs.Prelude.{IsSome, IsSomeAnd}
use Rattle.command_line.specs.Commands.{Command, FileCommand, OnFiles, Run, Replay, Check, Save, Work, asked_by, command_of, is_plain}
use Rattle.replay.specs.declared.comparisons.Verdict.TheVariants as verdict
use Rattle.outside.specs.declared.sinks.Sink as sinks
use Rattle.outside.specs.declared.stores.Store as stores
use Rattle.outside.specs.Faults.{Rose}
use Rattle.outside.specs.Files.{Files}
use Rattle.outside.specs.Pieces.{Appends}
use Rattle.run_config.specs.declared.faults.ConfigFault.{ConfigFault}
use Rattle.nesthv_top.specs.declared.ends.Ended.{Ended}
use Rattle.nesthv_top.specs.declared.ends.Ended.TheVariants.{Done, Differs, NoCommand, Refused, ReadFault, WriteFault, NoMemory}
use Rattle.nesthv_top.specs.Endings.{HasPlan, IfRefusedWith, IfRun, IfSave, IsEndFor, IsOfCommand, IsRefusal, IsReplay, ReadsFrom, SaysOfCause, SaysOfOut, SaysOfReads, SaysOfSaved, Tells, WithPlan}
use Rattle.run_config.specs.Accept.{accept}
use Rattle.run_config.specs.Configurations.{Configuration}
use Rattle.nesthv_top.specs.Contents.{config_of}
use Rattle.nesthv_top.specs.Plans.{AllRunAsWritten, IsResumable, Plan, command_fault, plan_if, plan_of, planned}
use Rattle.nesthv_top.specs.Reads.{file_steps}
use Rattle.nesthv_top.specs.Steps.{fault_in}
use Rattle.nesthv_top.specs.Statuses.{ArePlain, IsDone, IsNoCommand, status_of, verdict_status}
use Rattle.nesthv_top.specs.Texts.{found_of, verdict_with, text_of}

not_done : {P : Type 0} (n : ℕ) → 1 ≤ n → n ≤ 5 → IsDone n → P
not_done n some few (inl e) = absurd (omega (arith, e, some))
not_done n some few (inr e) = absurd (omega (arith, e, few))

-- the text of status 0 and 6
pub texted : {Y : Type 0} (O : sinks.Ghosts Y) (told : Option Files) (command : Option Command) (ended : Ended) (old new : Y)
    → IsDone (status_of ended) → SaysOfOut O told command ended old new
    → HasPlan told command (λ files command plan. Appends O.stands_for old new (text_of files command plan))
texted O told command Done old new e says = says.text
texted O told command Differs old new e says = says.text
texted O told command NoCommand old new e says = not_done 1 (omega arith) (omega arith) e
texted O told command (Refused found) old new e says = not_done 2 (omega arith) (omega arith) e
texted O told command (ReadFault n) old new e says = not_done 3 (omega arith) (omega arith) e
texted O told command WriteFault old new e says = not_done 4 (omega arith) (omega arith) e
texted O told command (NoMemory n) old new e says = not_done 5 (omega arith) (omega arith) e

-- and the machines that it tells of
pub ran_as_written : {Y : Type 0} (O : sinks.Ghosts Y) (told : Option Files) (command : Option Command) (ended : Ended) (old new : Y)
    → IsDone (status_of ended) → SaysOfOut O told command ended old new
    → HasPlan told command (λ files command plan. IfRun command (AllRunAsWritten plan))
ran_as_written O told command Done old new e says = says.machines
ran_as_written O told command Differs old new e says = says.machines
ran_as_written O told command NoCommand old new e says = not_done 1 (omega arith) (omega arith) e
ran_as_written O told command (Refused found) old new e says = not_done 2 (omega arith) (omega arith) e
ran_as_written O told command (ReadFault n) old new e says = not_done 3 (omega arith) (omega arith) e
ran_as_written O told command WriteFault old new e says = not_done 4 (omega arith) (omega arith) e
ran_as_written O told command (NoMemory n) old new e says = not_done 5 (omega arith) (omega arith) e

-- the guest that is saved
pub resumable : (told : Option Files) (command : Option Command) (ended : Ended) → status_of ended ≡ 0 → SaysOfSaved told command ended
    → HasPlan told command (λ files command plan. IfSave command (IsResumable plan))
resumable told command Done e says = says
resumable told command Differs e says = absurd (omega (arith, e))
resumable told command NoCommand e says = absurd (omega (arith, e))
resumable told command (Refused found) e says = absurd (omega (arith, e))
resumable told command (ReadFault n) e says = absurd (omega (arith, e))
resumable told command WriteFault e says = absurd (omega (arith, e))
resumable told command (NoMemory n) e says = absurd (omega (arith, e))

-- what follows of a plan from what holds of it
some_so : (P Q : Plan → Type 0) (o : Option Plan) → ((p : Plan) → P p → Q p) → IsSomeAnd o P → IsSomeAnd o Q
some_so P Q (Some p) so holds = so p holds
some_so P Q None so holds = absurd holds

plan_so : (f : Files) (command : Option Command) (P Q : Command → Plan → Type 0) → ((c : Command) (p : Plan) → P c p → Q c p)
    → WithPlan f command P → WithPlan f command Q
plan_so f (Some command) P Q so holds = some_so (P command) (Q command) (plan_of f (Some command)) (so command) holds
plan_so f None P Q so holds = absurd holds

-- which of the two it is
pub found : {Y : Type 0} (O : sinks.Ghosts Y) (told : Option Files) (command : Option Command) (ended : Ended) (old new : Y)
    → IsDone (status_of ended) → SaysOfOut O told command ended old new
    → HasPlan told command (λ files command plan. status_of ended ≡ verdict_status (found_of files command plan))
found O told command Done old new e says = λ f t.
    plan_so f command (λ c p. Tells Done (found_of f c p)) (λ c p. 0 ≡ verdict_status (found_of f c p)) (λ c p is. sym (ap verdict_status is)) (says.verdict f t)
found O told command Differs old new e says = λ f t.
    plan_so f command (λ c p. Tells Differs (found_of f c p)) (λ c p. 6 ≡ verdict_status (found_of f c p)) (λ c p is. sym (ap verdict_status is.1)) (says.verdict f t)
found O told command NoCommand old new e says = not_done 1 (omega arith) (omega arith) e
found O told command (Refused fault) old new e says = not_done 2 (omega arith) (omega arith) e
found O told command (ReadFault n) old new e says = not_done 3 (omega arith) (omega arith) e
found O told command WriteFault old new e says = not_done 4 (omega arith) (omega arith) e
found O told command (NoMemory n) old new e says = not_done 5 (omega arith) (omega arith) e

-- a command with a plan has no fault
one_of_both : (f : Files) (fault : Option ConfigFault) (accepted : Result Configuration ConfigFault) → IsSome (plan_if f fault accepted) → IsSome fault → ⊥
one_of_both f None accepted some fault = cc
one_of_both f (Some found) accepted some fault = cc

pub not_both : (f : Files) (command : Option Command) → IsSome (plan_of f command) → IsSome (command_fault f command) → ⊥
unfolding planned
not_both f (Some (OnFiles command)) some fault = one_of_both f (fault_in (file_steps f command)) (accept (config_of f command)) some fault
not_both f (Some (Work seed size)) some fault = cc
not_both f None some fault = cc

has_some : {A : Type 0} (P : A → Type 0) (o : Option A) → IsSomeAnd o P → IsSome o
has_some P (Some a) is = refl
has_some P None is = absurd is

pub has_plan : (f : Files) (command : Option Command) (P : Command → Plan → Type 0) → WithPlan f command P → IsSome (plan_of f command)
has_plan f (Some command) P is = has_some (P command) (plan_of f (Some command)) is
has_plan f None P is = absurd is

pub known : {A : Type 0} (o : Option A) (a : A) → o ≡ Some a → IsSome o
known o a is = rw is refl

-- when status 2 comes
refuses : {X Y : Type 0} (S : stores.Ghosts X) (O : sinks.Ghosts Y) (f : Files) (words : List (List ℕ)) (ended : Ended) (store store' : X) (out out' : Y)
    → ReadsFrom (S.files store) (command_of words) f → SaysOfCause S O words ended store store' out out' → SaysOfOut O (S.files store) (command_of words) ended out out'
    → IsSome (command_fault f (command_of words)) → (status_of ended ≡ 2) ⊎ (status_of ended ≡ 3) ⊎ (status_of ended ≡ 5)
refuses S O f words Done store store' out out' told cause says fault = absurd (not_both f (command_of words) (has_plan f (command_of words) _ (says.machines f told)) fault)
refuses S O f words Differs store store' out out' told cause says fault = absurd (not_both f (command_of words) (has_plan f (command_of words) _ (says.machines f told)) fault)
refuses S O f words NoCommand store store' out out' told cause says fault = let none = rw cause.words at fault in cc
refuses S O f words (Refused found) store store' out out' told cause says fault = inl refl
refuses S O f words (ReadFault n) store store' out out' told cause says fault = inr (inl refl)
refuses S O f words WriteFault store store' out out' told cause says fault = absurd (not_both f (command_of words) (has_plan f (command_of words) _ (says.machines f told)) fault)
refuses S O f words (NoMemory n) store store' out out' told cause says fault = inr (inr refl)

pub has_fault : (f : Files) (command : Option Command) (ended : Ended) → IfRefusedWith ended (λ found. command_fault f command ≡ Some found) → status_of ended ≡ 2
    → IsSome (command_fault f command)
has_fault f command Done is e = absurd (omega (arith, e))
has_fault f command Differs is e = absurd (omega (arith, e))
has_fault f command NoCommand is e = absurd (omega (arith, e))
has_fault f command (Refused found) is e = known (command_fault f command) found is
has_fault f command (ReadFault n) is e = absurd (omega (arith, e))
has_fault f command WriteFault is e = absurd (omega (arith, e))
has_fault f command (NoMemory n) is e = absurd (omega (arith, e))

pub refusal : {X Y : Type 0} (S : stores.Ghosts X) (O : sinks.Ghosts Y) (words : List (List ℕ)) (ended : Ended) (store store' : X) (out out' : Y)
    → SaysOfCause S O words ended store store' out out' → SaysOfReads S (command_of words) ended store store' → SaysOfOut O (S.files store) (command_of words) ended out out'
    → IsRefusal (S.files store) (command_of words) (status_of ended)
refusal S O words ended store store' out out' cause reads says = record {
  only = λ f told. has_fault f (command_of words) ended (reads.fault f told);
  always = λ f told. refuses S O f words ended store store' out out' told cause says;
}

-- completeness
pub complete : {X Y : Type 0} (S : stores.Ghosts X) (O : sinks.Ghosts Y) (f : Files) (words : List (List ℕ)) (ended : Ended) (store store' : X) (out out' : Y)
    → ReadsFrom (S.files store) (command_of words) f → SaysOfCause S O words ended store store' out out' → SaysOfReads S (command_of words) ended store store' → IsSome (plan_of f (command_of words))
    → ¬ Rose (S.faults store) (S.faults store') → ¬ Rose (O.faults out) (O.faults out') → IsDone (status_of ended) ⊎ (status_of ended ≡ 5)
complete S O f words Done store store' out out' told cause reads plan read write = inl (inl refl)
complete S O f words Differs store store' out out' told cause reads plan read write = inl (inr refl)
complete S O f words NoCommand store store' out out' told cause reads plan read write = let none = rw cause.words at plan in cc
complete S O f words (Refused found) store store' out out' told cause reads plan read write =
    absurd (not_both f (command_of words) plan (known (command_fault f (command_of words)) found (reads.fault f told)))
complete S O f words (ReadFault n) store store' out out' told cause reads plan read write = absurd (read cause.read)
complete S O f words WriteFault store store' out out' told cause reads plan read write = absurd (write cause.write)
complete S O f words (NoMemory n) store store' out out' told cause reads plan read write = inr refl

-- words that are a command are plain
all_plain : (plain : Bool) (asked : Option Command) → IsSome (cond plain asked None) → plain ≡ true
all_plain true asked some = refl
all_plain false asked some = cc

plain_command : (words : List (List ℕ)) → IsSome (command_of words) → ArePlain words
unfolding command_of
plain_command [] some = cc
plain_command (name ∷ words) some = record { some = omega arith; plain = all_plain (list_all is_plain words) (asked_by words) some }

-- a replay alone finds a difference
pub differing : (command : FileCommand) (stored : List ℕ) (plan : Plan) (n : ℕ) → verdict.Differs n ≡ verdict_with command stored plan → IsReplay (Some (OnFiles command))
differing (Run config) stored plan n is = cc
differing (Replay config report) stored plan n is = (config, report, refl)
differing (Check config) stored plan n is = cc
differing (Save config guest) stored plan n is = cc

-- why a command ended so
pub is_for : (words : List (List ℕ)) (command : Command) (ended : Ended) → command_of words ≡ Some command → IsOfCommand command ended → IsEndFor ended words
is_for words command Done are is = known (command_of words) command are
is_for words command Differs are is = subst IsReplay (sym are) is
is_for words command NoCommand are is = absurd is
is_for words command (Refused found) are is = known (command_of words) command are
is_for words command (ReadFault n) are is = known (command_of words) command are
is_for words command WriteFault are is = known (command_of words) command are
is_for words command (NoMemory zero) are is = plain_command words (known (command_of words) command are)
is_for words command (NoMemory (suc n)) are is = known (command_of words) command are

-- when status 1 comes
none_only : (words : List (List ℕ)) (ended : Ended) → IsEndFor ended words → status_of ended ≡ 1 → command_of words ≡ None
none_only words Done is e = absurd (omega (arith, e))
none_only words Differs is e = absurd (omega (arith, e))
none_only words NoCommand is e = is
none_only words (Refused found) is e = absurd (omega (arith, e))
none_only words (ReadFault n) is e = absurd (omega (arith, e))
none_only words WriteFault is e = absurd (omega (arith, e))
none_only words (NoMemory n) is e = absurd (omega (arith, e))

not_none : {P : Type 0} (o : Option Command) → IsSome o → o ≡ None → P
not_none (Some command) some none = cc
not_none None some none = cc

not_replay : {P : Type 0} (o : Option Command) → IsReplay o → o ≡ None → P
not_replay o (config, report, is) none = cc

none_always : (words : List (List ℕ)) (ended : Ended) → IsEndFor ended words → command_of words ≡ None → (status_of ended ≡ 1) ⊎ ((status_of ended ≡ 5) × ArePlain words)
none_always words Done is none = not_none (command_of words) is none
none_always words Differs is none = not_replay (command_of words) is none
none_always words NoCommand is none = inl refl
none_always words (Refused found) is none = not_none (command_of words) is none
none_always words (ReadFault n) is none = not_none (command_of words) is none
none_always words WriteFault is none = not_none (command_of words) is none
none_always words (NoMemory zero) is none = inr (refl, is)
none_always words (NoMemory (suc n)) is none = not_none (command_of words) is none

pub no_command : (words : List (List ℕ)) (ended : Ended) → IsEndFor ended words → IsNoCommand words (status_of ended)
no_command words ended is = record { only = none_only words ended is; always = none_always words ended is }

-- when status 6 comes
pub replayed : (words : List (List ℕ)) (ended : Ended) → IsEndFor ended words → status_of ended ≡ 6 → IsReplay (command_of words)
replayed words Done is e = absurd (omega (arith, e))
replayed words Differs is e = is
replayed words NoCommand is e = absurd (omega (arith, e))
replayed words (Refused found) is e = absurd (omega (arith, e))
replayed words (ReadFault n) is e = absurd (omega (arith, e))
replayed words WriteFault is e = absurd (omega (arith, e))
replayed words (NoMemory n) is e = absurd (omega (arith, e))
