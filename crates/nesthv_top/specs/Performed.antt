-- What stands when a job has been done.
use Rattle.std.specs.Prelude.{◌≡◌, ℕ, List, Result, IfOk, OnOk}
use Rattle.command_line.specs.Commands.{Command, FileCommand}
use Rattle.guest_save.specs.Forms.{form}
use Rattle.outside.specs.declared.sinks.Sink as sinks
use Rattle.replay.specs.declared.comparisons.Verdict.{Verdict}
use Rattle.nesthv_top.specs.declared.ends.RunEnd.{RunEnd}
use Rattle.nesthv_top.specs.Endings.{IfRun, IfSave}
use Rattle.nesthv_top.specs.Plans.{Plan, machine_after, AllRunAsWritten, IsResumable}
use Rattle.nesthv_top.specs.Texts.{text_with, verdict_with}
use Rattle.nesthv_top.specs.Written.{Writes}

-- what was found, and the text that is written
pub record HasAnswered {Y : Type 0} (O : sinks.Ghosts Y) (command : FileCommand) (stored : List ℕ)
    (plan : Plan) (result : Result Verdict RunEnd) (old new : Y) : Type 0 where
  pub found : IfOk result (λ found. found ≡ verdict_with command stored plan)
  pub out : Writes O result old new (text_with command stored plan)

-- the machines of the guests that were run, and that of the guest that was saved
pub record HasRunMachines {A : Type 0} (command : Command) (plan : Plan) (result : Result A RunEnd)
    : Type 0 where
  pub written : IfRun command (AllRunAsWritten plan)
  pub saved : OnOk result (IfSave command (IsResumable plan))

-- the form of a guest's machine is written, and where it is whole, another run can go on from it
pub record HasSaved {Y A : Type 0} (O : sinks.Ghosts Y) (plan : Plan) (guest : ℕ) (result : Result A RunEnd)
    (old new : Y) : Type 0 where
  pub out : Writes O result old new (form (machine_after plan guest))
  pub savable : OnOk result (IsResumable plan guest)
