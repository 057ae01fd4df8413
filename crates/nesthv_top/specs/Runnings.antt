-- What a run of a plan leaves: its account, and the report of machines.
use Rattle.std.specs.Prelude.{◌≡◌, ℕ, ◌+◌, ◌^◌, ◌<◌, ◌≤◌, zero, suc, Bool, true, false, List, [], ◌∷◌, ◌++◌, length, map, Option, IfSome, Result, Ok, Err}
use Rattle.std.specs.List.{All, range_with_len}
use Rattle.command_line.specs.Commands.{FileCommand, Run, Replay, Check, Save}
use Rattle.guest_turns.specs.Hosted.{Hosted, count_set, is_set, part_at}
use Rattle.guest_turns.specs.Moves.{emptied}
use Rattle.guest_turns.specs.TurnLists.{entries_for, turn_events}
use Rattle.machine_defs.specs.Runs.{plain_count, trace_of}
use Rattle.run_config.specs.Configurations.{IsTurnWithin}
use Rattle.rv64_hart.specs.Counts.{Counts, IsRaisedBy}
use Rattle.nesthv_top.specs.declared.ends.RunEnd.{RunEnd}
use Rattle.nesthv_top.specs.declared.ends.RunEnd.TheVariants.{NoMemory, WriteFault}
use Rattle.nesthv_top.specs.Plans.{Plan, events_of, plan_entries, turn_steps}
use Rattle.machine_defs.specs.Machine.{Machine}
use Rattle.machine_defs.specs.Report.{section_of}
use Rattle.work_images.specs.Guests.{guest_name}
use Rattle.nesthv_top.specs.Works.{line_of, work_heading, work_text}

-- what is said of machines, which have these names, one after the other
unfoldable pub said_of : (List ℕ → Machine → List ℕ) → List (List ℕ) → List Machine → List ℕ
said_of say [] machines = []
said_of say (name ∷ names) [] = []
said_of say (name ∷ names) (m ∷ machines) = say name m ++ said_of say names machines

-- their sections
abbrev pub sections_of : List (List ℕ) → List Machine → List ℕ
sections_of names machines = said_of section_of names machines

-- the lines of generated guests' machines
abbrev pub work_names : List (List ℕ)
work_names = map guest_name (range_with_len 0 4)

abbrev pub lines_of : List Machine → List ℕ
lines_of machines = said_of line_of work_names machines

-- the machines of the four guests of a seed and a size have run, so that their lines are what `work` writes
pub record HasWorked (seed size : ℕ) (machines : List Machine) : Type 0 where
  pub count : length machines ≡ 4
  pub lines : work_heading seed size ++ lines_of machines ≡ work_text seed size

-- a machine as a host has it: without its RAM where its guest has retired
abbrev pub hosted_one : Bool → Machine → Machine
hosted_one true m = emptied m
hosted_one false m = m

-- machines as a host has them, by which of their guests have retired
unfoldable pub hosted_as : List Bool → List Machine → List Machine
hosted_as retired [] = []
hosted_as [] (m ∷ machines) = m ∷ machines
hosted_as (flag ∷ retired) (m ∷ machines) = hosted_one flag m ∷ hosted_as retired machines

-- how many blocks a plan moves: one after each turn, where there are spare blocks
abbrev pub moves_by : ℕ → List (ℕ × ℕ) → ℕ
moves_by zero turns = 0
moves_by (suc spare) turns = length turns

abbrev pub moves_for : Plan → ℕ
moves_for plan = moves_by plan.spare plan.turns

-- an account has room for the entries and steps of a command
pub record HasRoomForCommand (account : Counts) : Type 0 where
  pub entries : account.entries ≤ 2 ^ 61
  pub taken : account.taken ≤ 2 ^ 61

-- and there is room for its moves
pub record HasRoomForRun (counts : Counts) (moved : ℕ) : Type 0 where
  pub account : HasRoomForCommand counts
  pub moves : moved ≤ 2 ^ 61

-- the account of turns of machines
pub record CountsTurnsOf (machines : List Machine) (turns : List (ℕ × ℕ)) (old new : Counts) : Type 0 where
  pub entries_grow : old.entries ≤ new.entries
  pub entries_most : new.entries ≤ old.entries + entries_for machines turns
  pub taken_most : new.taken ≤ old.taken + turn_steps turns
  pub taken_least : old.taken + plain_count (turn_events turns machines) ≤ new.taken
  pub trace : IsRaisedBy (trace_of (turn_events turns machines)) old.trace new.trace

-- a host as it is booted can make these turns, which are few, and short ones of its guests: no machine has
-- made many steps, no guest has retired, and rooms are small
pub record IsReady (host : Hosted) (turns : List (ℕ × ℕ)) : Type 0 where
  pub steps : All (λ m. m.platform.steps ≤ 2 ^ 60) host.machines
  pub active : (g : ℕ) → is_set host.retired g ≡ false
  pub rooms : All (λ m. m.entry_room ≤ 256) host.machines
  pub few : length turns ≤ 2 ^ 20
  pub short : All (IsTurnWithin (length host.machines)) turns

-- each guest of a host that has not retired has a block
pub record HaveBlocks (host : Hosted) : Type 0 where
  pub count : length host.parts ≡ length host.machines
  pub some : (g : ℕ) → g < length host.machines → is_set host.retired g ≡ false
      → 1 ≤ length (part_at host.parts g).blocks

-- blocks of a host can move: one is free. It has few guests, of which the one that is kept is one, and a flag
-- for each of sixteen
pub record CanMove (host : Hosted) (kept : Option ℕ) : Type 0 where
  pub blocks : HaveBlocks host
  pub free : 1 ≤ count_set host.free
  pub guests : length host.machines ≤ 16
  pub flags : length host.retired ≡ 16
  pub there : IfSome kept (λ g. g < length host.machines)

-- the account of a plan's turns
pub record CountsTurns (plan : Plan) (old new : Counts) : Type 0 where
  pub entries_grow : old.entries ≤ new.entries
  pub entries_most : new.entries ≤ old.entries + plan_entries plan
  pub taken_grow : old.taken ≤ new.taken
  pub taken_most : new.taken ≤ old.taken + turn_steps plan.turns
  pub taken_least : old.taken + plain_count (events_of plan) ≤ new.taken
  pub trace : IsRaisedBy (trace_of (events_of plan)) old.trace new.trace

-- the same by how the run ended; where memory ran out, nothing was run
abbrev pub IsAccountOf : {A : Type 0} → Plan → Result A RunEnd → Counts → Counts → Type 0
IsAccountOf plan (Ok a) old new = CountsTurns plan old new
IsAccountOf plan (Err WriteFault) old new = CountsTurns plan old new
IsAccountOf plan (Err NoMemory) old new = new ≡ old

-- how many blocks a run moved; where memory ran out, none
abbrev pub IsMovedBy : {A : Type 0} → Plan → Result A RunEnd → ℕ → ℕ → Type 0
IsMovedBy plan (Ok a) old new = new ≡ old + moves_for plan
IsMovedBy plan (Err WriteFault) old new = new ≡ old + moves_for plan
IsMovedBy plan (Err NoMemory) old new = new ≡ old

-- the account and the moves of a run
pub record AreCountsOf {A : Type 0} (plan : Plan) (result : Result A RunEnd) (old new : Counts)
    (moves moves' : ℕ) : Type 0 where
  pub account : IsAccountOf plan result old new
  pub moved : IsMovedBy plan result moves moves'

-- the same for what is asked for: a check runs nothing
abbrev pub IsAccountFor : {A : Type 0} → FileCommand → Plan → Result A RunEnd → Counts → Counts → Type 0
IsAccountFor (Run config) plan result old new = IsAccountOf plan result old new
IsAccountFor (Replay config report) plan result old new = IsAccountOf plan result old new
IsAccountFor (Check config) plan result old new = new ≡ old
IsAccountFor (Save config guest) plan result old new = IsAccountOf plan result old new

-- the same for what is asked for: a check moves nothing
abbrev pub IsMovedFor : {A : Type 0} → FileCommand → Plan → Result A RunEnd → ℕ → ℕ → Type 0
IsMovedFor (Run config) plan result old new = IsMovedBy plan result old new
IsMovedFor (Replay config report) plan result old new = IsMovedBy plan result old new
IsMovedFor (Check config) plan result old new = new ≡ old
IsMovedFor (Save config guest) plan result old new = IsMovedBy plan result old new

-- the account and the moves of what is asked for
pub record AreCountsFor {A : Type 0} (command : FileCommand) (plan : Plan) (result : Result A RunEnd)
    (old new : Counts) (moves moves' : ℕ) : Type 0 where
  pub account : IsAccountFor command plan result old new
  pub moved : IsMovedFor command plan result moves moves'
