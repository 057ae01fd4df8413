-- Plain steps that are made at once, where the log has nothing of them.
use Rattle.std.specs.Prelude.{ℕ, ◌≡◌, ◌+◌, ◌≤◌, Bool, true, ◌||◌}
use Rattle.log_lines.specs.declared.kinds.Kinds.{Kinds}
use Rattle.machine_defs.specs.Machine.{Machine}
use Rattle.machine_defs.specs.Runs.{events, plain_count, run}

-- whether a kind that is asked for tells of plain steps. Lines of the others are of steps that trap, call,
-- wait, fence or use the device page
abbrev pub tells_plain_steps : Kinds → Bool
tells_plain_steps kinds = kinds.fills || kinds.stale || kinds.steps || kinds.counts

-- this many steps have been made, no more than the most, and each of them is plain; none, where the log
-- tells of plain steps
pub record HasPassedPlain (kinds : Kinds) (m : Machine) (most made : ℕ) (after : Machine) : Type 0 where
  pub machine : after ≡ run m made
  pub plain : plain_count (events m made) ≡ made
  pub within : made ≤ most
  pub told : tells_plain_steps kinds ≡ true → made ≡ 0
  pub steps : after.platform.steps ≤ m.platform.steps + made
