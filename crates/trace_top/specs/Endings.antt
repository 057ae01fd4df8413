-- What the end of a log says.
use Rattle.std.specs.Prelude.{◌≡◌, ◌≤◌, ℕ, true, false, List, Option, codes}
use Rattle.command_line.specs.Commands.{Command}
use Rattle.outside.specs.declared.sinks.Sink as sinks
use Rattle.outside.specs.declared.stores.Store as stores
use Rattle.outside.specs.Faults.{Rose}
use Rattle.outside.specs.Files.{Files}
use Rattle.guest_commands.specs.Ends.{IsCut}
use Rattle.nesthv_top.specs.declared.ends.Ended.{Ended}
use Rattle.nesthv_top.specs.declared.ends.Ended.TheVariants.{Done, WriteFault, NoMemory}
use Rattle.nesthv_top.specs.Endings.{HasPlan, IfReadFault, IfWriteFault}
use Rattle.trace_top.specs.declared.asked.Asked.{Asked}
use Rattle.trace_top.specs.Tracing.{Logs}

abbrev pub trace_usage : List ℕ
trace_usage = codes "nesthv-trace: usage: CONFIG GUEST KIND[,KIND..] [FROM [TO]]\n"

-- why a read or a write failed, by the counts of faults, which never fall
pub record SaysOfFaults {X Y : Type 0} (S : stores.Ghosts X) (O : sinks.Ghosts Y) (ended : Ended)
    (store store' : X) (out out' : Y) : Type 0 where
  pub read : IfReadFault ended (λ n. Rose (S.faults store) (S.faults store'))
  pub write : IfWriteFault ended (Rose (O.faults out) (O.faults out'))
  pub count : O.faults out ≤ O.faults out'

-- the log where it was out of memory after that many reads
abbrev pub IsCutLog : {O : Type 0} → sinks.Ghosts O → Option Files → Option Command → Option Asked
    → ℕ → O → O → Type 0
IsCutLog K told command asked n old new =
    IsCut told command n (new ≡ old) (λ command plan. Logs K plan command asked false old new)

-- the log at each end; nothing is put where none began
abbrev pub SaysOfLog : {O : Type 0} → sinks.Ghosts O → Option Files → Option Command → Option Asked
    → Ended → O → O → Type 0
SaysOfLog K told command asked Done old new =
    HasPlan told command (λ files command plan. Logs K plan command asked true old new)
SaysOfLog K told command asked WriteFault old new =
    HasPlan told command (λ files command plan. Logs K plan command asked false old new)
SaysOfLog K told command asked (NoMemory n) old new = IsCutLog K told command asked n old new
SaysOfLog K told command asked other old new = new ≡ old
