-- Runs of plain steps alone: when they can be made, what they are to a machine, and what the tally says of them.
use Rattle.std.specs.Prelude.{ℕ, ◌≡◌, ◌+◌, ◌^◌, ◌<◌, ◌≤◌}
use Rattle.machine_defs.specs.Machine.{Machine}
use Rattle.machine_defs.specs.Runs.{events, plain_count, run, trace_of}
use Rattle.rv64_hart.specs.Counts.{Counts, IsRaisedBy}
use Rattle.guest_turns.specs.Hosted.{Hosted, IsActive, machine_at}

-- a machine's count of steps and the tally have room for a run of k steps
pub record HasRoomForPlainRun (m : Machine) (k : ℕ) (tally : Counts) : Type 0 where
  pub steps : m.platform.steps + k ≤ 2 ^ 61
  pub entries : tally.entries < 2 ^ 62
  pub taken : tally.taken + k ≤ 2 ^ 62

-- a guest of a host has not retired, and there is room for such a run
pub record CanRunPlain (host : Hosted) (g k : ℕ) (tally : Counts) : Type 0 where
  pub guest : IsActive host g
  pub room : HasRoomForPlainRun (machine_at host.machines g) k tally

-- of at most k steps of a machine a run made this many, each of them plain. The room of its spaces stays
pub record IsPlainRun (m : Machine) (k made : ℕ) : Type 0 where
  pub within : made ≤ k
  pub plain : plain_count (events m made) ≡ made
  pub steps : (run m made).platform.steps ≡ m.platform.steps + made
  pub room : (run m made).entry_room ≡ m.entry_room

-- the account of such a run: the hart made each step, in at most one entry
pub record CountsPlainRun (m : Machine) (made : ℕ) (old new : Counts) : Type 0 where
  pub entries_grow : old.entries ≤ new.entries
  pub entries_most : new.entries ≤ old.entries + 1
  pub taken : new.taken ≡ old.taken + made
  pub trace : IsRaisedBy (trace_of (events m made)) old.trace new.trace
