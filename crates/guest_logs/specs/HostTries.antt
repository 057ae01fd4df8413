-- A host of one guest, as what runs a machine try by try.
use Rattle.std.specs.Prelude.{ℕ, ◌≡◌, false, List, [], ◌∷◌, ◌++◌, length, Option, Some, None, Result, Ok, Err}
use Rattle.arch_defs.specs.declared.cached.Entry.{Entry}
use Rattle.guest_turns.specs.declared.trying.Made.{Made}
use Rattle.guest_turns.specs.declared.trying.Made.TheVariants.{Filled, Stepped, Waits}
use Rattle.guest_turns.specs.Hosted.{Hosted, is_set}
use Rattle.machine_defs.specs.declared.events.Event.{Event}
use Rattle.op_defs.specs.declared.ops.DataAccess.{DataAccess}
use Rattle.run_log.specs.Steps.{MadeAccess}
use Rattle.step_lines.specs.declared.acts.Act.{Act}
use Rattle.step_lines.specs.declared.acts.Act.TheVariants.{Accesses}

-- it has one guest, which has not retired
pub record IsAlone (host : Hosted) : Type 0 where
  pub one : length host.machines ≡ 1
  pub active : (g : ℕ) → is_set host.retired g ≡ false

-- what a try has made, where the front space has these entries after it: the step, or the last of them
abbrev pub IsAnswerTo : Made → List Entry → Result (Option Event) Entry → Type 0
IsAnswerTo (Stepped event) entries result = result ≡ Ok (Some event)
IsAnswerTo Waits entries result = result ≡ Ok None
IsAnswerTo Filled entries result =
    (others : List Entry) (e : Entry) → entries ≡ others ++ e ∷ [] → result ≡ Err e

-- an access with its place, as the log has it
abbrev pub access_seen : DataAccess × ℕ → MadeAccess
access_seen (wanted, place) = record { access = wanted; place = place }

-- the access that an HLV, HLVX or HSV makes
abbrev pub hlv_wanted : Act → Option DataAccess
hlv_wanted (Accesses wanted) = Some wanted
hlv_wanted _ = None
