-- What the end of debugging says.
use Rattle.std.specs.Prelude.{◌≡◌, ◌≤◌, ℕ, zero, suc, List, Option, Some, None, codes}
use Rattle.command_line.specs.Commands.{Command}
use Rattle.gdb_stub.specs.declared.talks.TalkEnd.TheVariants as talk_end
use Rattle.outside.specs.declared.connections.Connection as connections
use Rattle.outside.specs.declared.stores.Store as stores
use Rattle.outside.specs.Faults.{Rose}
use Rattle.outside.specs.Files.{Files}
use Rattle.guest_commands.specs.Ends.{IsCut}
use Rattle.nesthv_top.specs.declared.ends.Ended.{Ended}
use Rattle.nesthv_top.specs.declared.ends.Ended.TheVariants.{Done, ReadFault, WriteFault, NoMemory}
use Rattle.nesthv_top.specs.Endings.{HasPlan, IfReadFault, IfWriteFault}
use Rattle.gdb_top.specs.Debugging.{TalksAbout}

abbrev pub debugger_usage : List ℕ
debugger_usage = codes "nesthv-gdb: usage: CONFIG GUEST\n"

-- the end by the reads of files: read fault 0 is one of the connection, and comes after all of these
abbrev pub files_end : Ended → Ended
files_end (ReadFault zero) = Done
files_end other = other

-- why a read failed: the count rose of the connection, or that of the store
abbrev pub IsReadCause : Type 0 → Type 0 → ℕ → Type 0
IsReadCause connection store zero = connection
IsReadCause connection store (suc n) = store

-- why a read or a write failed, by the counts of faults, which never fall
pub record SaysOfCauses {X C : Type 0} (S : stores.Ghosts X) (K : connections.Ghosts C) (ended : Ended)
    (store store' : X) (connection connection' : C) : Type 0 where
  pub read : IfReadFault ended (IsReadCause (Rose (K.read_faults connection) (K.read_faults connection'))
      (Rose (S.faults store) (S.faults store')))
  pub write : IfWriteFault ended (Rose (K.write_faults connection) (K.write_faults connection'))
  pub read_count : K.read_faults connection ≤ K.read_faults connection'
  pub write_count : K.write_faults connection ≤ K.write_faults connection'

-- the talk where it was out of memory after that many reads
abbrev pub IsCutTalk : {C : Type 0} → connections.Ghosts C → Option Files → Option Command → List ℕ
    → ℕ → C → C → Type 0
IsCutTalk K told command description n old new = IsCut told command n (new ≡ old)
    (λ command plan. TalksAbout K plan command description (Some talk_end.NoMemory) old new)

-- the talk at each end; nothing is transferred where none began
abbrev pub SaysOfTalk : {C : Type 0} → connections.Ghosts C → Option Files → Option Command → List ℕ
    → Ended → C → C → Type 0
SaysOfTalk K told command description Done old new =
    HasPlan told command (λ files command plan. TalksAbout K plan command description None old new)
SaysOfTalk K told command description (ReadFault zero) old new = HasPlan told command (λ files command plan.
    TalksAbout K plan command description (Some talk_end.ReadFault) old new)
SaysOfTalk K told command description WriteFault old new = HasPlan told command (λ files command plan.
    TalksAbout K plan command description (Some talk_end.WriteFault) old new)
SaysOfTalk K told command description (NoMemory n) old new = IsCutTalk K told command description n old new
SaysOfTalk K told command description other old new = new ≡ old
