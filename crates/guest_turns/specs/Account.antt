-- Turns and tries: when they can be made, what they are to a machine, and what the tally says of them.
use Rattle.std.specs.Prelude.{ℕ, ◌≡◌, ◌≢◌, ◌+◌, ◌%◌, ◌^◌, ◌<◌, ◌≤◌, List}
use Rattle.guest_settings.specs.declared.statuses.Status.TheVariants.{Running}
use Rattle.machine_defs.specs.declared.events.Event.{Event}
use Rattle.machine_defs.specs.Fills.{needed}
use Rattle.machine_defs.specs.Machine.{Machine}
use Rattle.machine_defs.specs.Runs.{events, instruction_count, plain_count, trace_of}
use Rattle.fill_laws.specs.Budgets.{budget}
use Rattle.rv64_hart.specs.Counts.{Counts, IsRaisedBy}
use Rattle.guest_turns.specs.Calm.{AreCalm, calm_entries}
use Rattle.guest_turns.specs.Hosted.{Hosted, IsActive, machine_at}
use Rattle.guest_turns.specs.TurnLists.{turn_entries}

-- it has room for a turn of at most k steps of a machine
pub record HasRoomForTurn (m : Machine) (k : ℕ) (tally : Counts) : Type 0 where
  pub entries : tally.entries + turn_entries m.entry_room k ≤ 2 ^ 62
  pub taken : tally.taken + k ≤ 2 ^ 62

-- a guest of a host has not retired, and there is room for a turn of at most k steps
pub record CanMakeTurn (host : Hosted) (g k : ℕ) (tally : Counts) : Type 0 where
  pub guest : IsActive host g
  pub steps : (machine_at host.machines g).platform.steps + k ≤ 2 ^ 61
  pub room : HasRoomForTurn (machine_at host.machines g) k tally

-- of at most k steps of a machine a turn made this many, and fewer only where the machine does not go on. The
-- room of its spaces stays
pub record IsTurn (m : Machine) (k : ℕ) (next : Machine) (made : ℕ) : Type 0 where
  pub steps : m.platform.steps + made ≡ next.platform.steps
  pub most : made ≤ k
  pub fewer : made < k → next.platform.status ≢ Running
  pub room : next.entry_room ≡ m.entry_room

-- the account of a turn of at most k steps of a machine, which made this many: the hart made each plain step,
-- and no more steps than the machine. Each step took at most as many entries as a space has room for cached
-- translations, and eleven. Where all k steps were calm, all took one
pub record Accounted (m : Machine) (k made : ℕ) (old new : Counts) : Type 0 where
  pub entries_grow : old.entries ≤ new.entries
  pub entries_least : 0 < instruction_count (events m k) → old.entries < new.entries
  pub entries_most : new.entries ≤ old.entries + turn_entries m.entry_room k
  pub entries_calm : 0 < k → AreCalm m k → new.entries ≡ old.entries + 1
  pub taken_least : old.taken + plain_count (events m k) ≤ new.taken
  pub taken_most : new.taken ≤ old.taken + made
  pub trace : IsRaisedBy (trace_of (events m k)) old.trace new.trace

-- a guest of a host has not retired and goes on, and there is room for a try of its next step
pub record CanMakeTry (host : Hosted) (g : ℕ) (tally : Counts) : Type 0 where
  pub guest : IsActive host g
  pub running : (machine_at host.machines g).platform.status ≡ Running
  pub steps : (machine_at host.machines g).platform.steps < 2 ^ 61
  pub entries : tally.entries < 2 ^ 62
  pub taken : tally.taken < 2 ^ 62

-- a machine's spaces have the room that a step can need, and it stays
pub record KeepsRoom (m next : Machine) : Type 0 where
  pub enough : needed ≤ m.entry_room
  pub same : next.entry_room ≡ m.entry_room

-- the account of one try, which made these events: it took at most one entry, and one where it made an
-- instruction; and the hart made each plain step
pub record CountsTry (m next : Machine) (made : List Event) (old new : Counts) : Type 0 where
  pub entries_grow : old.entries ≤ new.entries
  pub entries_most : new.entries ≤ old.entries + 1
  pub none : new.entries ≡ old.entries → instruction_count made ≡ 0
  pub taken_least : old.taken + plain_count made ≤ new.taken
  pub taken_most : new.taken + m.platform.steps ≤ old.taken + next.platform.steps
  pub trace : IsRaisedBy (trace_of made) old.trace new.trace

-- the account of a part of k steps, after which the next machine makes those that are left: each try took at
-- most one entry
pub record AccountedTo (m : Machine) (k : ℕ) (next : Machine) (left : ℕ) (old new : Counts) : Type 0 where
  pub entries_grow : old.entries ≤ new.entries
  pub entries_least : new.entries ≡ old.entries
      → instruction_count (events m k) ≡ instruction_count (events next left)
  pub entries_most : new.entries + budget next left ≤ old.entries + budget m k
  pub entries_calm : AreCalm m k → AreCalm next left
      × (new.entries + calm_entries left ≡ old.entries + calm_entries k)
  pub taken_least : old.taken + plain_count (events m k) ≤ new.taken + plain_count (events next left)
  pub taken_most : new.taken + m.platform.steps ≤ old.taken + next.platform.steps
  pub trace : (new.trace + trace_of (events next left)) % 2 ^ 64
      ≡ (old.trace + trace_of (events m k)) % 2 ^ 64
