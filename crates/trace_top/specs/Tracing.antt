-- Whose run is logged, and from which step up to which.
use Rattle.std.specs.Prelude.{ℕ, ◌^◌, nat_le, Bool, List, [], ◌∷◌, Option, Some, None, length, take, if◌then◌else◌}
use Rattle.command_line.specs.Commands.{Command, OnFiles, Save, bounded_number, command_of}
use Rattle.guest_commands.specs.GuestWords.{saving_words}
use Rattle.guest_turns.specs.Hosted.{machine_at}
use Rattle.guest_turns.specs.TurnLists.{own_steps}
use Rattle.log_lines.specs.declared.kinds.Kinds.{Kinds}
use Rattle.log_lines.specs.Kinds.{kinds_of}
use Rattle.log_writer.specs.Logging.{HasLogged}
use Rattle.nesthv_top.specs.Plans.{Plan, machines_of}
use Rattle.outside.specs.declared.sinks.Sink as sinks
use Rattle.run_log.specs.Log.{steps_between}
use Rattle.trace_top.specs.declared.asked.Asked.{Asked}

-- no guest has turns of more steps
abbrev pub most_steps : ℕ
most_steps = 2 ^ 53

-- the number of a step
abbrev pub step_number : List ℕ → Option ℕ
step_number word = bounded_number 16 0 most_steps word

-- the steps from which and up to which, by the words FROM and TO: from the first and up to the last, where
-- they are left out
abbrev pub first_step : List (List ℕ) → Option ℕ
first_step [] = Some 0
first_step (from ∷ words) = step_number from

abbrev pub last_step : List (List ℕ) → Option ℕ
last_step [] = Some most_steps
last_step (from ∷ []) = Some most_steps
last_step (from ∷ to ∷ words) = step_number to

abbrev pub asked_with : Option Kinds → Option ℕ → Option ℕ → Option Asked
asked_with (Some kinds) (Some from) (Some to) = Some (record { kinds = kinds; from = from; to = to })
asked_with (Some kinds) (Some from) None = None
asked_with (Some kinds) None to = None
asked_with None from to = None

-- what the words ask for: a program's name, CONFIG, GUEST, KIND[,KIND..], and FROM and TO, where they stand
abbrev pub asked_in : List (List ℕ) → Option Asked
asked_in (name ∷ config ∷ guest ∷ kinds ∷ words) = if nat_le (length words) 2
    then asked_with (kinds_of kinds) (first_step words) (last_step words) else None
asked_in words = None

-- the words of the save of the same guest
abbrev pub words_if : Option Asked → List (List ℕ) → List (List ℕ)
words_if (Some asked) words = saving_words (take 3 words)
words_if None words = []

abbrev pub trace_words : List (List ℕ) → List (List ℕ)
trace_words words = words_if (asked_in words) words

abbrev pub trace_command : List (List ℕ) → Option Command
trace_command words = command_of (trace_words words)

-- the log of a guest of a plan has been appended, or a front of it: of the steps of its own turns, from one
-- on and up to another
abbrev pub LogsGuest : {O : Type 0} → sinks.Ghosts O → Plan → ℕ → Asked → Bool → O → O
    → Type 0
LogsGuest K plan guest asked whole old new =
    HasLogged K asked.kinds (machine_at (machines_of plan) guest) asked.from
    (steps_between asked.from asked.to (own_steps guest plan.turns)) whole old new

-- that of the guest that a command names
abbrev pub Logs : {O : Type 0} → sinks.Ghosts O → Plan → Command → Option Asked → Bool → O → O
    → Type 0
Logs K plan (OnFiles (Save config guest)) (Some asked) whole old new =
    LogsGuest K plan guest asked whole old new
Logs K plan other asked whole old new = ⊥
