-- What stays of a session.
use Rattle.std.proofs.Common.{◌≡◌, ◌∙◌, ap, refl, ℕ}
use Rattle.std.specs.Global.{Vec}
use Rattle.machine_defs.specs.Machine.{Machine}
use Rattle.run_positions.specs.declared.positions.Positions.{Positions}
use Rattle.run_positions.specs.declared.runners.Runner as runners
use Rattle.run_positions.specs.Positions.{shown_of, KeepsRun}
use Rattle.gdb_stub.specs.declared.sessions.Session.{Session}
use Rattle.gdb_stub.specs.declared.sessions.Watched.{Watched}
use Rattle.gdb_stub.specs.Sessions.{recording_of, machine_shown, session_state, ShowsPosition, KeepsSession}

module _ {Y : Type 0} (R : runners.Ghosts Y) where
  -- a session whose run stays the same, whatever its position and its stops are
  pub session_moved : (s : Session Y) (positions : Positions Y) (pcs : Vec ℕ) (watched : Vec Watched) → ShowsPosition R s → KeepsRun R s.positions positions
      → KeepsSession R s (record s { positions = positions; pcs = pcs; watched = watched })
  session_moved s positions pcs watched held keeps = record {
    held = record { shown = keeps.held; few = held.few };
    recording = ap (λ (begin : Machine). record { begin = begin; last = s.last; description = s.description.items }) keeps.origin;
  }

  pub session_same : (s : Session Y) (pcs : Vec ℕ) (watched : Vec Watched) → ShowsPosition R s
      → KeepsSession R s (record s { pcs = pcs; watched = watched })
  session_same s pcs watched held = record { held = record { shown = held.shown; few = held.few }; recording = refl }

  pub session_kept : (s : Session Y) → ShowsPosition R s → KeepsSession R s s
  session_kept s held = record { held = held; recording = refl }

  pub session_then : (p q r : Session Y) → KeepsSession R p q → KeepsSession R q r → KeepsSession R p r
  session_then p q r first next = record { held = next.held; recording = next.recording ∙ first.recording }

  -- the machine that is shown
  pub shown_is : (s : Session Y) → ShowsPosition R s → shown_of R s.positions ≡ machine_shown (recording_of R s) (session_state s)
  shown_is s held = held.shown.machine

pub ruleset sessions = (session_moved, session_same, session_kept, session_then, shown_is)
