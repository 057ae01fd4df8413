-- A session with gdb: a recording, the position at which it is shown, and where it is to stop.
use Rattle.std.specs.Prelude.{◌≡◌, ◌≤◌, ℕ, ◌+◌, ◌-◌, ◌^◌, ◌==◌, ◌&&◌, Bool, List, [], ◌∷◌, ◌++◌, Option, Some, None, map, not, nat_le, if◌then◌else◌}
use Rattle.std.specs.List.{filter}
use Rattle.machine_defs.specs.Machine.{Machine}
use Rattle.machine_defs.specs.Runs.{run}
use Rattle.gdb_commands.specs.declared.commands.Command.{Command}
use Rattle.gdb_commands.specs.declared.commands.Command.TheVariants as command
use Rattle.gdb_commands.specs.declared.commands.Place.{Place}
use Rattle.gdb_commands.specs.declared.commands.Request.{Request}
use Rattle.gdb_commands.specs.declared.commands.Request.TheVariants as request
use Rattle.gdb_commands.specs.declared.commands.StopKind.{StopKind}
use Rattle.gdb_commands.specs.declared.commands.StopKind.TheVariants as kind
use Rattle.run_positions.specs.declared.runners.Runner as runners
use Rattle.run_positions.specs.Positions.{begin_of, IsShown}
use Rattle.run_positions.specs.Stops.{goes_on, last_stop, next_stop, StopSet}
use Rattle.gdb_stub.specs.declared.sessions.Move.{Move}
use Rattle.gdb_stub.specs.declared.sessions.Move.TheVariants as move
use Rattle.gdb_stub.specs.declared.sessions.Session.{Session}
use Rattle.gdb_stub.specs.declared.sessions.Watched.{Watched}
use Rattle.gdb_stub.specs.Looking.{machine_byte, most_shown, offsets_in}

-- a run as it is debugged: the machine that it begins with, its last position, and the description of its
-- registers for gdb
pub record Recording : Type 0 where
  pub begin : Machine
  pub last : ℕ
  pub description : List ℕ

-- the position that is shown, addresses of instructions at which the run is to stop, and bytes of RAM that
-- are watched
pub record SessionState : Type 0 where
  pub place : ℕ
  pub pcs : List ℕ
  pub watched : List Watched

-- the machine that is shown: that of the run after as many steps as the position says
abbrev pub machine_shown : Recording → SessionState → Machine
machine_shown r s = run r.begin s.place

-- watched bytes with what they are
abbrev pub seen_in : Machine → List Watched → List (Watched × ℕ)
seen_in m watched = map (λ w. (w, machine_byte m w.offset)) watched

-- a stop is at one of the addresses, or where a watched byte is another than it was
abbrev pub stops_by : List ℕ → List (Watched × ℕ) → StopSet
stops_by pcs seen = record { pcs = pcs; bytes = map (λ was. (was.0.offset, was.1)) seen }

abbrev pub stops_in : Recording → SessionState → StopSet
stops_in r s = stops_by s.pcs (seen_in (machine_shown r s) s.watched)

-- the latest position of any run
abbrev pub latest : ℕ
latest = 2 ^ 52

-- a position up to the last one
abbrev pub clamped : ℕ → ℕ → ℕ
clamped last n = if nat_le n last then n else last

-- where a move comes to. A step and a run are made where the machine goes on
abbrev pub position_reached : Recording → SessionState → Move → ℕ
position_reached r s move.Step = if goes_on (machine_shown r s).platform.status
    then clamped r.last (s.place + 1) else s.place
position_reached r s move.Continue = if goes_on (machine_shown r s).platform.status
    then next_stop r.begin (stops_in r s) s.place (r.last - s.place) else s.place
position_reached r s move.StepBack = s.place - 1
position_reached r s move.ContinueBack = last_stop r.begin (stops_in r s) s.place

-- the first watched byte that is another than it was, by the address of its stop
abbrev pub changed_in : Machine → List (Watched × ℕ) → Option ℕ
changed_in m [] = None
changed_in m (was ∷ seen) =
    if machine_byte m was.0.offset == was.1 then changed_in m seen else Some was.0.place.address

abbrev pub changed_by_move : Recording → SessionState → Move → Option ℕ
changed_by_move r s way =
    changed_in (run r.begin (position_reached r s way)) (seen_in (machine_shown r s) s.watched)

-- a move that changes a watched byte ends before the step that does: gdb takes a watch to be told so, and
-- makes that step itself
abbrev pub one_step_short : Move → ℕ → ℕ
one_step_short move.Step n = n - 1
one_step_short move.Continue n = n - 1
one_step_short move.StepBack n = clamped latest (n + 1)
one_step_short move.ContinueBack n = clamped latest (n + 1)

abbrev pub place_with : Option ℕ → Move → ℕ → ℕ
place_with (Some address) way n = one_step_short way n
place_with None way n = n

-- the position after a move: where it comes to, or of a watch one step short of that
abbrev pub position_after : Recording → SessionState → Move → ℕ
position_after r s way = place_with (changed_by_move r s way) way (position_reached r s way)

-- the position after what stands behind `monitor`
abbrev pub place_for : Request → ℕ → ℕ → ℕ
place_for (request.Step k) last n = clamped last (n + k)
place_for (request.GoTo k) last n = clamped last k
place_for (request.Walk address) last n = n
place_for request.Fences last n = n
place_for request.Unknown last n = n

-- addresses, and watched bytes, without those of a stop
abbrev pub pcs_without : ℕ → List ℕ → List ℕ
pcs_without address pcs = filter (λ at. not (at == address)) pcs

abbrev pub is_same : Place → Place → Bool
is_same a b = a.address == b.address && a.length == b.length

abbrev pub watched_without : Place → List Watched → List Watched
watched_without place watched = filter (λ w. not (is_same w.place place)) watched

-- bytes that are watched at offsets, for a stop
abbrev pub watched_at : Place → List ℕ → List Watched
watched_at place offsets = map (λ offset. record { place = place; offset = offset }) offsets

-- the bytes of a stop that have a place
abbrev pub offsets_for : Machine → Place → List ℕ
offsets_for m place = offsets_in m place.address (most_shown place.length)

-- a stop that is set again is there once
abbrev pub with_stop : Recording → SessionState → StopKind → Place → SessionState
with_stop r s kind.Instruction place =
    record s { pcs = pcs_without place.address s.pcs ++ place.address ∷ [] }
with_stop r s kind.Written place = record s {
  watched =
      watched_without place s.watched ++ watched_at place (offsets_for (machine_shown r s) place);
}
with_stop r s kind.Other place = s

abbrev pub without_stop : SessionState → StopKind → Place → SessionState
without_stop s kind.Instruction place = record s { pcs = pcs_without place.address s.pcs }
without_stop s kind.Written place = record s { watched = watched_without place s.watched }
without_stop s kind.Other place = s

-- what a move leaves of a session, where no watched byte changes and anyhow
abbrev pub come_to : Recording → SessionState → Move → SessionState
come_to r s way = record s { place = position_reached r s way }

abbrev pub after_move : Recording → SessionState → Move → SessionState
after_move r s way = record s { place = position_after r s way }

-- what a command leaves
unfoldable pub state_after : Recording → SessionState → Command → SessionState
state_after r s command.Step = after_move r s move.Step
state_after r s command.Continue = after_move r s move.Continue
state_after r s command.StepBack = after_move r s move.StepBack
state_after r s command.ContinueBack = after_move r s move.ContinueBack
state_after r s (command.Monitor asked) = record s { place = place_for asked r.last s.place }
state_after r s (command.Set kind place) = with_stop r s kind place
state_after r s (command.Clear kind place) = without_stop s kind place
state_after r s other = s

-- what contracts see of a session
abbrev pub recording_of : {Y : Type 0} → runners.Ghosts Y → Session Y → Recording
recording_of R s =
    record { begin = begin_of R s.positions; last = s.last; description = s.description.items }

abbrev pub session_state : {Y : Type 0} → Session Y → SessionState
session_state s = record { place = s.positions.place; pcs = s.pcs.items; watched = s.watched.items }

-- the machine that is shown is that of the run at its position
pub record ShowsPosition {Y : Type 0} (R : runners.Ghosts Y) (s : Session Y) : Type 0 where
  pub shown : IsShown R s.positions
  pub few : s.last ≤ 2 ^ 52

-- and the recording stays the same, whatever the position is
pub record KeepsSession {Y : Type 0} (R : runners.Ghosts Y) (old new : Session Y) : Type 0 where
  pub held : ShowsPosition R new
  pub recording : recording_of R new ≡ recording_of R old
