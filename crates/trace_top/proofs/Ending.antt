-- How the log of a guest of a plan ends.
use Rattle.std.proofs.Common.{◌≡◌, ℕ, Bool, List, Option, Some, None, subst, take}
use Rattle.std.specs.Prelude.{⊤}
use Rattle.command_line.specs.Commands.{Command, OnFiles, command_of}
use Rattle.guest_commands.specs.declared.guest_words.GuestRequest.{GuestRequest}
use Rattle.guest_commands.specs.declared.lone_guests.LoneGuest.{LoneGuest}
use Rattle.guest_commands.specs.Guests.{IsGuestFor, IsGuestOf}
use Rattle.guest_commands.specs.GuestWords.{guest_command}
use Rattle.guest_commands.proofs.GuestWords.{never_replayed}
use Rattle.guest_commands.proofs.LoadedPlans.{so_has, some_plan}
use Rattle.guest_turns.specs.Sources.{machine_of_source}
use Rattle.guest_turns.specs.TurnLists.{own_steps}
use Rattle.log_writer.specs.Logging.{HasLogged}
use Rattle.machine_defs.specs.Machine.{Machine}
use Rattle.outside.specs.declared.sinks.Sink as sinks
use Rattle.outside.specs.Files.{Files}
use Rattle.nesthv_top.specs.declared.ends.Ended.{Ended}
use Rattle.nesthv_top.specs.declared.ends.Ended.TheVariants.{Done, Differs, NoCommand, Refused, ReadFault, WriteFault, NoMemory}
use Rattle.nesthv_top.specs.Endings.{HasPlan, IfKnown, IfPlanned, IsEndFor, IsReplay}
use Rattle.nesthv_top.specs.Plans.{planned}
use Rattle.run_log.specs.Log.{steps_between}
use Rattle.trace_top.specs.declared.asked.Asked.{Asked}
use Rattle.trace_top.specs.Endings.{SaysOfLog}
use Rattle.trace_top.specs.Tracing.{Logs, asked_in, trace_command, words_if}

-- no words of the log are a replay
not_replayed : (asked : Option Asked) (words : List (List ℕ)) → IsReplay (command_of (words_if asked words)) → ⊥
unfolding command_of
not_replayed (Some asked) words is = never_replayed (take 3 words) is
not_replayed None words (config, report, is) = cc

pub never_replays : (words : List (List ℕ)) → IsReplay (trace_command words) → ⊥
never_replays words is = not_replayed (asked_in words) words is

module _ {O : Type 0} (K : sinks.Ghosts O) (old new : O) where
  -- the log of a guest is that of a plan
  pub logs_for : (told : Option Files) (request : GuestRequest) (lone : LoneGuest) (asked : Asked) (whole : Bool) → IsGuestFor told request lone
      → HasLogged K asked.kinds (machine_of_source lone.source) asked.from (steps_between asked.from asked.to lone.steps) whole old new
      → HasPlan told (Some (OnFiles (guest_command request))) (λ files command plan. Logs K plan command (Some asked) whole old new)
  logs_for told request lone asked whole is logged = λ files known.
      so_has (planned files (guest_command request)) (λ plan. IsGuestOf plan request.guest lone) (λ plan. Logs K plan (OnFiles (guest_command request)) (Some asked) whole old new)
      (λ plan of. subst (λ (m : Machine). HasLogged K asked.kinds m asked.from (steps_between asked.from asked.to (own_steps request.guest plan.turns)) whole old new) of.machine
      (subst (λ n. HasLogged K asked.kinds (machine_of_source lone.source) asked.from (steps_between asked.from asked.to n) whole old new) of.steps logged)) (is.plan files known)

  -- where something was put, there is a plan
  pub log_planned : (told : Option Files) (command : Option Command) (asked : Option Asked) (ended : Ended) (words : List (List ℕ)) → (IsReplay command → ⊥) → IsEndFor ended words → command ≡ command_of words
      → SaysOfLog K told command asked ended old new → IfKnown told command (λ files. IfPlanned ended files command (λ command plan. ⊤))
  log_planned told command asked Done words never is same log = λ files known. some_plan files command _ (log files known)
  log_planned told command asked Differs words never is same log = absurd (never (rw same is))
  log_planned told command asked NoCommand words never is same log = λ files known. tt
  log_planned told command asked (Refused found) words never is same log = λ files known. tt
  log_planned told command asked (ReadFault n) words never is same log = λ files known. tt
  log_planned told command asked WriteFault words never is same log = λ files known. some_plan files command _ (log files known)
  log_planned told command asked (NoMemory n) words never is same log = λ files known. tt
