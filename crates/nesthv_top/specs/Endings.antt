-- What each end of a command says: why it comes, and what it leaves of the reads, of `out`, of `err` and of
-- the account.
use Rattle.std.specs.Prelude.{◌≡◌, ℕ, zero, ◌+◌, ◌^◌, ◌≤◌, ◌⊎◌, List, [], Option, Some, None, IsSome, IsSomeAnd, IfSome, false, ⊤}
use Rattle.command_line.specs.Commands.{Command, OnFiles, Run, Replay, Check, Save, Work, command_of}
use Rattle.machine_defs.specs.Runs.{plain_count, trace_of}
use Rattle.outside.specs.declared.sinks.Sink as sinks
use Rattle.outside.specs.declared.stores.Store as stores
use Rattle.outside.specs.Asks.{Ask}
use Rattle.outside.specs.Faults.{Rose}
use Rattle.outside.specs.Files.{Files}
use Rattle.outside.specs.Pieces.{Appends, Puts}
use Rattle.replay.specs.declared.comparisons.Verdict.{Verdict}
use Rattle.replay.specs.declared.comparisons.Verdict.TheVariants as verdict
use Rattle.rv64_hart.specs.Counts.{Counts, IsRaisedBy}
use Rattle.nesthv_top.specs.declared.ends.Ended.{Ended}
use Rattle.nesthv_top.specs.declared.ends.Ended.TheVariants.{Done, Differs, NoCommand, Refused, ReadFault, WriteFault, NoMemory}
use Rattle.nesthv_top.specs.Lines.{usage_line, configuration_line, read_line, write_line, memory_line}
use Rattle.run_config.specs.declared.faults.ConfigFault.{ConfigFault}
use Rattle.nesthv_top.specs.Plans.{AllRunAsWritten, IsResumable, Plan, command_fault, plan_of, run_of, planned_entries, steps_of, events_of}
use Rattle.nesthv_top.specs.Runnings.{moves_for}
use Rattle.nesthv_top.specs.Reads.{asks_of, most_reads, steps_for, BeginsWithConfig}
use Rattle.nesthv_top.specs.Steps.{AskedMore, AreAnswered, IsFailed, IsLastFailed, IsWanting}
use Rattle.nesthv_top.specs.Statuses.{ArePlain}
use Rattle.nesthv_top.specs.Texts.{found_of, text_of}
use Rattle.nesthv_top.specs.Written.{IsLinePut}

-- the files that a command reads from: those that the store tells, and any where it reads none
abbrev pub ReadsFrom : Option Files → Option Command → Files → Type 0
ReadsFrom told (Some (OnFiles command)) files = told ≡ Some files
ReadsFrom told (Some (Work seed size)) files = ⊤
ReadsFrom told None files = ⊤

-- a fact of these files: of a command on files only where the store tells them
abbrev pub IfKnown : Option Files → Option Command → (Files → Type 0) → Type 0
IfKnown told command P = (files : Files) → ReadsFrom told command files → P files

-- there is a command, and a plan for it, of which this holds
abbrev pub WithPlan : Files → Option Command → (Command → Plan → Type 0) → Type 0
WithPlan files (Some command) P = IsSomeAnd (plan_of files (Some command)) (P command)
WithPlan files None P = ⊥

-- the same where the files are known
abbrev pub HasPlan : Option Files → Option Command → (Files → Command → Plan → Type 0) → Type 0
HasPlan told command P = IfKnown told command (λ files. WithPlan files command (P files))

-- the status is 2 only where the command has a first fault; and where it has one, the status is 2, unless a
-- read failed or memory ran out
pub record IsRefusal (told : Option Files) (command : Option Command) (status : ℕ) : Type 0 where
  pub only : IfKnown told command (λ files. status ≡ 2 → IsSome (command_fault files command))
  pub always : IfKnown told command (λ files.
      IsSome (command_fault files command) → (status ≡ 2) ⊎ (status ≡ 3) ⊎ (status ≡ 5))

-- facts for an end of one kind
abbrev pub IfRefusedWith : Ended → (ConfigFault → Type 0) → Type 0
IfRefusedWith (Refused found) P = P found
IfRefusedWith other P = ⊤

abbrev pub IfReadFault : Ended → (ℕ → Type 0) → Type 0
IfReadFault (ReadFault n) P = P n
IfReadFault other P = ⊤

abbrev pub IfWriteFault : Ended → Type 0 → Type 0
IfWriteFault WriteFault P = P
IfWriteFault other P = ⊤

-- a command is a replay
abbrev pub IsReplay : Option Command → Type 0
IsReplay command = (config : List ℕ) × (report : List ℕ) × (command ≡ Some (OnFiles (Replay config report)))

-- whether the words are a command, which is a replay where a difference was found; memory may have run
-- out for reading them only where they are plain
abbrev pub IsEndFor : Ended → List (List ℕ) → Type 0
IsEndFor NoCommand words = command_of words ≡ None
IsEndFor Differs words = IsReplay (command_of words)
IsEndFor (NoMemory zero) words = ArePlain words
IsEndFor other words = IsSome (command_of words)

-- an end that a command may have
abbrev pub IsOfCommand : Command → Ended → Type 0
IsOfCommand command NoCommand = ⊥
IsOfCommand command Differs = IsReplay (Some command)
IsOfCommand command other = ⊤

-- why what is asked for ended so, by the counts of faults
pub record SaysOfCauseFor {X Y : Type 0} (S : stores.Ghosts X) (O : sinks.Ghosts Y) (asked : Command)
    (ended : Ended) (store store' : X) (out out' : Y) : Type 0 where
  pub command : IsOfCommand asked ended
  pub read : IfReadFault ended (λ n. Rose (S.faults store) (S.faults store'))
  pub write : IfWriteFault ended (Rose (O.faults out) (O.faults out'))

-- why a command ended so, by its words and by the counts of faults
pub record SaysOfCause {X Y : Type 0} (S : stores.Ghosts X) (O : sinks.Ghosts Y) (said : List (List ℕ))
    (ended : Ended) (store store' : X) (out out' : Y) : Type 0 where
  pub words : IsEndFor ended said
  pub read : IfReadFault ended (λ n. Rose (S.faults store) (S.faults store'))
  pub write : IfWriteFault ended (Rose (O.faults out) (O.faults out'))

-- the first read: that of the configuration, or none where the words are not a command or a work, or memory
-- ran out before
abbrev pub IsFirstRead : {X : Type 0} → stores.Ghosts X → Option Command → Ended → X → X → Type 0
IsFirstRead S command NoCommand old new = new ≡ old
IsFirstRead S command (NoMemory zero) old new = AskedMore [] (S.asked old) (S.asked new)
IsFirstRead S command other old new = BeginsWithConfig command (S.asked old) (S.asked new)

-- the reads that were made: all that the command asks for, or the first ones where one failed or memory ran
-- out
abbrev pub IsAsked : Ended → Files → Option Command → Option (List Ask) → Option (List Ask) → Type 0
IsAsked (ReadFault n) files command before after = IsFailed (steps_for files command) 0 n before after
IsAsked (NoMemory n) files command before after = IsWanting (steps_for files command) n before after
IsAsked other files command before after = AskedMore (asks_of files command) before after

-- the same whether or not the store tells its files: with a fault of read n, n reads were made, of which the
-- last one failed and no other; else none failed, and where memory ran out after n reads, n were made
abbrev pub AreAnsweredBy : Ended → Option (List Ask) → Option (List Ask) → Type 0
AreAnsweredBy (ReadFault n) before after = IsLastFailed 0 n before after
AreAnsweredBy (NoMemory n) before after = AreAnswered 0 before n after
AreAnsweredBy other before after = (n : ℕ) × AreAnswered 0 before n after

-- what an end says of the store
pub record SaysOfReads {X : Type 0} (S : stores.Ghosts X) (command : Option Command) (ended : Ended)
    (old new : X) : Type 0 where
  pub first : IsFirstRead S command ended old new
  pub reads : IfKnown (S.files old) command (λ files.
      IsAsked ended files command (S.asked old) (S.asked new))
  pub answers : AreAnsweredBy ended (S.asked old) (S.asked new)
  pub number : IfReadFault ended (λ n. (1 ≤ n) × (n ≤ most_reads))
  pub fault : IfKnown (S.files old) command (λ files.
      IfRefusedWith ended (λ found. command_fault files command ≡ Some found))
  pub stays : S.files new ≡ S.files old
  pub count : S.faults old ≤ S.faults new

-- what stays as it was where nothing was run
abbrev pub IsIdle : {A : Type 0} → Ended → A → A → Type 0
IsIdle Done old new = ⊤
IsIdle Differs old new = ⊤
IsIdle WriteFault old new = ⊤
IsIdle other old new = new ≡ old

-- a text was written, whole, or a front of it where a write failed
abbrev pub IsTextPut : {Y : Type 0} → sinks.Ghosts Y → Ended → Y → Y → List ℕ → Type 0
IsTextPut O Done old new text = Appends O.stands_for old new text
IsTextPut O Differs old new text = Appends O.stands_for old new text
IsTextPut O WriteFault old new text = Puts O.stands_for old new false text
IsTextPut O other old new text = ⊤

-- an end at which all was written tells the verdict
abbrev pub Tells : Ended → Verdict → Type 0
Tells Done found = found ≡ verdict.Same
Tells Differs found = (n : ℕ) × (found ≡ verdict.Differs n)
Tells other found = ⊤

-- what is said of the plan of a command that had one, at the ends that come after its tests
abbrev pub IfPlanned : Ended → Files → Option Command → (Command → Plan → Type 0) → Type 0
IfPlanned Done files command P = WithPlan files command P
IfPlanned Differs files command P = WithPlan files command P
IfPlanned WriteFault files command P = WithPlan files command P
IfPlanned other files command P = ⊤

-- a fact of a plan that is run: a check runs none
abbrev pub IfRun : Command → Type 0 → Type 0
IfRun (OnFiles (Run config)) P = P
IfRun (OnFiles (Replay config report)) P = P
IfRun (OnFiles (Check config)) P = ⊤
IfRun (OnFiles (Save config guest)) P = P
IfRun (Work seed size) P = P

-- a fact of the guest that a command saves
abbrev pub IfSave : Command → (ℕ → Type 0) → Type 0
IfSave (OnFiles (Save config guest)) P = P guest
IfSave other P = ⊤

-- what an end at which all was written says of the guest that was saved: another run can go on from its file
abbrev pub SaysOfSaved : Option Files → Option Command → Ended → Type 0
SaysOfSaved told command Done = HasPlan told command (λ files command plan. IfSave command (IsResumable plan))
SaysOfSaved told command other = ⊤

-- what an end says of `out` and of the machines whose report is written or compared
pub record SaysOfOut {Y : Type 0} (O : sinks.Ghosts Y) (told : Option Files) (command : Option Command)
    (ended : Ended) (old new : Y) : Type 0 where
  pub text : IfKnown told command (λ files. IfPlanned ended files command (λ command plan.
      IsTextPut O ended old new (text_of files command plan)))
  pub verdict : IfKnown told command (λ files. IfPlanned ended files command (λ command plan.
      Tells ended (found_of files command plan)))
  pub machines : IfKnown told command (λ files. IfPlanned ended files command (λ command plan.
      IfRun command (AllRunAsWritten plan)))
  pub idle : IsIdle ended old new
  pub count : O.faults old ≤ O.faults new
  pub stays : O.made_with new ≡ O.made_with old

-- the line on `err` that tells of an end
abbrev pub IsLineOf : {Z : Type 0} → sinks.Ghosts Z → Ended → Z → Z → Type 0
IsLineOf E Done old new = new ≡ old
IsLineOf E Differs old new = new ≡ old
IsLineOf E NoCommand old new = IsLinePut E old new usage_line
IsLineOf E (Refused found) old new = IsLinePut E old new (configuration_line found)
IsLineOf E (ReadFault n) old new = IsLinePut E old new (read_line n)
IsLineOf E WriteFault old new = IsLinePut E old new write_line
IsLineOf E (NoMemory n) old new = IsLinePut E old new memory_line

-- what an end says of `err`
pub record SaysOfErr {Z : Type 0} (E : sinks.Ghosts Z) (ended : Ended) (old new : Z) : Type 0 where
  pub line : IsLineOf E ended old new
  pub count : E.faults old ≤ E.faults new
  pub stays : E.made_with new ≡ E.made_with old

-- a run to its end made each plain step of the lone machines, and their trace
pub record CountsRun (plan : Plan) (old new : Counts) : Type 0 where
  pub taken : old.taken + plain_count (events_of plan) ≤ new.taken
  pub trace : IsRaisedBy (trace_of (events_of plan)) old.trace new.trace

abbrev pub CountsIfRun : Option Plan → Ended → Counts → Counts → Type 0
CountsIfRun plan Done old new = IfSome plan (λ p. CountsRun p old new)
CountsIfRun plan Differs old new = IfSome plan (λ p. CountsRun p old new)
CountsIfRun plan other old new = ⊤

abbrev pub IsCheck : Option Command → Type 0
IsCheck command = (config : List ℕ) × (command ≡ Some (OnFiles (Check config)))

-- entries and steps of the hart grew by at most this many
pub record GrewBy (entries steps : ℕ) (old new : Counts) : Type 0 where
  pub entries_most : new.entries ≤ old.entries + entries
  pub taken_most : new.taken ≤ old.taken + steps

-- what an end says of the account of the hart, which a check leaves as it was
pub record SaysOfAccount (told : Option Files) (command : Option Command) (ended : Ended)
    (old new : Counts) : Type 0 where
  pub run : IfKnown told command (λ files. CountsIfRun (run_of files command) ended old new)
  pub idle : IsIdle ended old new
  pub check : IsCheck command → new ≡ old
  pub entries : old.entries ≤ new.entries
  pub taken : old.taken ≤ new.taken
  pub bound : GrewBy (2 ^ 61) (2 ^ 52) old new
  pub most : IfKnown told command (λ files.
      GrewBy (planned_entries (run_of files command)) (steps_of (run_of files command)) old new)

-- a run to its end moved a block after each turn, where there are spare blocks
abbrev pub MovesIfRun : Option Plan → Ended → ℕ → ℕ → Type 0
MovesIfRun plan Done old new = IfSome plan (λ p. new ≡ old + moves_for p)
MovesIfRun plan Differs old new = IfSome plan (λ p. new ≡ old + moves_for p)
MovesIfRun plan other old new = ⊤

-- what an end says of the count of moved blocks
pub record SaysOfMoves (told : Option Files) (command : Option Command) (ended : Ended) (old new : ℕ)
    : Type 0 where
  pub run : IfKnown told command (λ files. MovesIfRun (run_of files command) ended old new)
  pub idle : IsIdle ended old new
  pub check : IsCheck command → new ≡ old
  pub grow : old ≤ new
  pub most : new ≤ old + 2 ^ 20

-- what an end says of both counts
pub record SaysOfCounts (told : Option Files) (command : Option Command) (ended : Ended) (old new : Counts)
    (moves moves' : ℕ) : Type 0 where
  pub account : SaysOfAccount told command ended old new
  pub moved : SaysOfMoves told command ended moves moves'
