-- How many steps a step and a run make.
use Rattle.std.proofs.Common.{◌≡◌, ℕ, zero, suc, ◌+◌, ◌≤◌, ap, arith}
use Rattle.fill_laws.proofs.Filling.{only_spaces}
use Rattle.guest_settings.specs.declared.statuses.Status.{Status}
use Rattle.guest_settings.specs.declared.statuses.Status.TheVariants as status
use Rattle.machine_defs.specs.Fills.{after_fills, most_fills, ready}
use Rattle.machine_defs.specs.Machine.{Machine, Tried, Ended, WaitsForGood}
use Rattle.machine_defs.specs.Runs.{left_by, run, step, stepped}
use Rattle.machine_defs.specs.Tries.{try}
use Rattle.guest_turns.specs.TurnLists.{RunsMakeAtMost}
use Rattle.guest_turns.proofs.Tries.{LeavesStep, try_step}

-- fills leave the platform as it is
pub same_platform : (m : Machine) (n : ℕ) → (after_fills n m).platform ≡ m.platform
same_platform m n = ap (λ m. m.platform) (only_spaces m n)

left_adds : (m : Machine) (t : Tried) → LeavesStep m t → (left_by m t).platform.steps ≤ m.platform.steps + 1
left_adds m (Ended after event) one = omega (arith, one.counted)
left_adds m WaitsForGood one = omega arith

stepped_adds : (m : Machine) (s : Status) → (stepped m s).platform.steps ≤ m.platform.steps + 1
stepped_adds m status.Running =
    let same = ap (λ p. p.steps) (same_platform m (most_fills m)) in
    let one = left_adds (ready m) (try (ready m)) (try_step (ready m)) in
    omega (arith, one, same)
stepped_adds m status.Waiting = omega arith
stepped_adds m status.Stopped = omega arith

pub runs_make_at_most : RunsMakeAtMost
unfolding run step
runs_make_at_most m zero = omega arith
runs_make_at_most m (suc k) =
    let one = stepped_adds m m.platform.status in
    let rest = runs_make_at_most (stepped m m.platform.status) k in
    omega (arith, one, rest)
