-- How a talk about a guest of a plan ends.
use Rattle.std.proofs.Common.{◌≡◌, ◌∙◌, ◌⊎◌, inl, inr, ℕ, zero, suc, List, [], Option, Some, ap, subst}
use Rattle.std.specs.Prelude.{⊤}
use Rattle.command_line.specs.Commands.{Command, OnFiles, command_of}
use Rattle.outside.specs.declared.connections.Connection as connections
use Rattle.outside.specs.declared.stores.Store as stores
use Rattle.outside.specs.Faults.{Rose}
use Rattle.outside.specs.Files.{Files}
use Rattle.gdb_stub.specs.Sessions.{Recording}
use Rattle.gdb_stub.specs.Talks.{at_begin, HasTalked, TalkState}
use Rattle.gdb_stub.specs.declared.talks.TalkEnd.{TalkEnd}
use Rattle.guest_commands.specs.declared.guest_words.GuestRequest.{GuestRequest}
use Rattle.guest_commands.specs.declared.lone_guests.LoneGuest.{LoneGuest}
use Rattle.guest_commands.specs.Guests.{IsGuestFor, IsGuestOf}
use Rattle.guest_commands.specs.GuestWords.{guest_command}
use Rattle.guest_commands.proofs.LoadedPlans.{so_has, some_plan}
use Rattle.machine_defs.specs.Machine.{Machine}
use Rattle.nesthv_top.specs.declared.ends.Ended.{Ended}
use Rattle.nesthv_top.specs.declared.ends.Ended.TheVariants.{Done, Differs, NoCommand, Refused, ReadFault, WriteFault, NoMemory}
use Rattle.nesthv_top.specs.Endings.{HasPlan, IfKnown, IfPlanned, IfReadFault, IfRefusedWith, IsEndFor, IsReplay}
use Rattle.nesthv_top.specs.Plans.{command_fault, planned}
use Rattle.gdb_top.specs.Debugging.{recording_by, TalksAbout}
use Rattle.gdb_top.specs.Endings.{files_end, SaysOfCauses, SaysOfTalk}

abbrev pub recording : Machine → ℕ → List ℕ → Recording
recording begin last description = record { begin = begin; last = last; description = description }

pub same_recording : (begin first : Machine) (last steps : ℕ) (description : List ℕ) → begin ≡ first → last ≡ steps
    → recording begin last description ≡ recording first steps description
same_recording begin first last steps description one other =
    ap (λ (m : Machine). recording m last description) one ∙ ap (λ (n : ℕ). recording first n description) other

-- a talk of a recording at its start
pub talks_from : {C : Type 0} (K : connections.Ghosts C) (old new : C) (end : Option TalkEnd) (rec r : Recording) (t : TalkState) (come : List ℕ)
    → rec ≡ r → t ≡ at_begin → come ≡ [] → HasTalked K rec t come end old new → HasTalked K r at_begin [] end old new
talks_from K old new end rec r t come same begins none talked =
    subst (λ (come : List ℕ). HasTalked K r at_begin come end old new) none
    (subst (λ (t : TalkState). HasTalked K r t come end old new) begins
    (subst (λ (rec : Recording). HasTalked K rec t come end old new) same talked))

module _ {C : Type 0} (K : connections.Ghosts C) (description : List ℕ) (old new : C) where
  -- the talk about a guest is that of a plan
  pub talks_for : (told : Option Files) (request : GuestRequest) (lone : LoneGuest) (end : Option TalkEnd) → IsGuestFor told request lone
      → HasTalked K (recording_by lone description) at_begin [] end old new
      → HasPlan told (Some (OnFiles (guest_command request))) (λ files command plan. TalksAbout K plan command description end old new)
  talks_for told request lone end is talked = λ files known.
      so_has (planned files (guest_command request)) (λ plan. IsGuestOf plan request.guest lone) (λ plan. TalksAbout K plan (OnFiles (guest_command request)) description end old new)
      (λ plan of. subst (λ (r : Recording). HasTalked K r at_begin [] end old new) (same_recording _ _ _ _ description of.machine of.steps) talked) (is.plan files known)

  -- where a talk began, there is a plan
  pub talk_planned : (told : Option Files) (words : List (List ℕ)) (ended : Ended) → (IsReplay (command_of words) → ⊥) → IsEndFor ended words
      → SaysOfTalk K told (command_of words) description ended old new → IfKnown told (command_of words) (λ files. IfPlanned ended files (command_of words) (λ command plan. ⊤))
  talk_planned told words Done never is talk = λ files known. some_plan files (command_of words) _ (talk files known)
  talk_planned told words Differs never is talk = absurd (never is)
  talk_planned told words NoCommand never is talk = λ files known. tt
  talk_planned told words (Refused found) never is talk = λ files known. tt
  talk_planned told words (ReadFault n) never is talk = λ files known. tt
  talk_planned told words WriteFault never is talk = λ files known. some_plan files (command_of words) _ (talk files known)
  talk_planned told words (NoMemory n) never is talk = λ files known. tt

-- the first fault and the causes, by the end
pub fault_said : (files : Files) (command : Option Command) (ended : Ended) → IfRefusedWith (files_end ended) (λ found. command_fault files command ≡ Some found)
    → IfRefusedWith ended (λ found. command_fault files command ≡ Some found)
fault_said files command Done says = tt
fault_said files command Differs says = tt
fault_said files command NoCommand says = tt
fault_said files command (Refused found) says = says
fault_said files command (ReadFault n) says = tt
fault_said files command WriteFault says = tt
fault_said files command (NoMemory n) says = tt

module _ {X C : Type 0} (S : stores.Ghosts X) (K : connections.Ghosts C) (store store' : X) (connection connection' : C) where
  pub read_said : (ended : Ended) → SaysOfCauses S K ended store store' connection connection'
      → IfReadFault ended (λ n. Rose (S.faults store) (S.faults store') ⊎ Rose (K.read_faults connection) (K.read_faults connection'))
  read_said Done says = tt
  read_said Differs says = tt
  read_said NoCommand says = tt
  read_said (Refused found) says = tt
  read_said (ReadFault zero) says = inr says.read
  read_said (ReadFault (suc n)) says = inl says.read
  read_said WriteFault says = tt
  read_said (NoMemory n) says = tt
