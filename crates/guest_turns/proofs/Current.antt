-- What the clock sets stays as the clock sets it, through steps and fills.
use Rattle.std.proofs.Common.{◌≡◌, ap, subst, sym}
use Rattle.guest_settings.specs.declared.statuses.Status.TheVariants as status
use Rattle.machine_defs.specs.Machine.{Machine, Platform, Tried, Ended, WaitsForGood, with_pending_lines}
use Rattle.machine_defs.specs.Runs.{left_by}
use Rattle.machine_defs.specs.Tries.{try}
use Rattle.guest_exit.specs.Steps.{Fills, MakesStep}
use Rattle.guest_turns.proofs.Tries.{LeavesStep, try_step}

pub left_current : (m : Machine) (t : Tried) → with_pending_lines m.platform ≡ m.platform → LeavesStep m t → with_pending_lines (left_by m t).platform ≡ (left_by m t).platform
left_current m (Ended after event) e h = h.current
left_current m WaitsForGood e h = ap {A = Platform} (λ p. record p { status = status.Waiting }) e

-- a step that lacks nothing, and a fill
pub after_step : (m after : Machine) → with_pending_lines m.platform ≡ m.platform → MakesStep m after → with_pending_lines after.platform ≡ after.platform
after_step m after e made = subst (λ m. with_pending_lines m.platform ≡ m.platform) (sym made.step) (left_current m (try m) e (try_step m))

pub after_fill : (m after : Machine) → with_pending_lines m.platform ≡ m.platform → Fills m after → with_pending_lines after.platform ≡ after.platform
after_fill m after e (entry, lacks, filled) = subst (λ m. with_pending_lines m.platform ≡ m.platform) (sym filled) e
