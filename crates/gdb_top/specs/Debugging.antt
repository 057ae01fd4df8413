-- What is debugged, and what is said about it.
use Rattle.std.specs.Prelude.{ℕ, List, [], Option}
use Rattle.command_line.specs.Commands.{Command, OnFiles, Save}
use Rattle.gdb_stub.specs.Sessions.{Recording}
use Rattle.gdb_stub.specs.declared.talks.TalkEnd.{TalkEnd}
use Rattle.gdb_stub.specs.Talks.{at_begin, HasTalked}
use Rattle.guest_commands.specs.declared.lone_guests.LoneGuest.{LoneGuest}
use Rattle.guest_turns.specs.Hosted.{machine_at}
use Rattle.guest_turns.specs.Sources.{machine_of_source}
use Rattle.guest_turns.specs.TurnLists.{own_steps}
use Rattle.nesthv_top.specs.Plans.{Plan, machines_of}
use Rattle.outside.specs.declared.connections.Connection as connections

-- the run of a guest of a plan, up to the end of its own turns
abbrev pub recording_for : Plan → ℕ → List ℕ → Recording
recording_for plan guest description = record {
  begin = machine_at (machines_of plan) guest;
  last = own_steps guest plan.turns;
  description = description;
}

-- that of a guest without the others
abbrev pub recording_by : LoneGuest → List ℕ → Recording
recording_by guest description = record {
  begin = machine_of_source guest.source;
  last = guest.steps;
  description = description;
}

-- how the talk went about the guest that a command names, from the start of its run up to this end
abbrev pub TalksAbout : {C : Type 0} → connections.Ghosts C → Plan → Command → List ℕ
    → Option TalkEnd → C → C → Type 0
TalksAbout K plan (OnFiles (Save config guest)) description end old new =
    HasTalked K (recording_for plan guest description) at_begin [] end old new
TalksAbout K plan other description end old new = ⊥
