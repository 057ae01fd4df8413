-- Calm steps: none of them ends an entry of the hart.
use Rattle.std.proofs.Common.{◌≡◌, ℕ, ◌-◌, ◌<◌, ◌≤◌, arith}
use Rattle.machine_defs.specs.Machine.{Machine}
use Rattle.machine_defs.specs.Runs.{run}
use Rattle.guest_exit.specs.HartEntry.{EndsInTrap}
use Rattle.guest_exit.specs.Steps.{IsQuiet}
use Rattle.guest_turns.specs.Calm.{AreCalm, IsCalm}

-- the first of calm steps
pub first_calm : (m : Machine) (k : ℕ) → 0 < k → AreCalm m k → IsCalm m
unfolding run
first_calm m k some calm = calm.each 0 some

-- none of them is a trap, nor one that the hart leaves to the host
pub no_calm_trap : (m : Machine) (k n : ℕ) → AreCalm m k → n ≤ k → EndsInTrap m n → ⊥
no_calm_trap m k n calm within ends =
    let last : n - 1 < k = omega (arith, within, ends.some) in
    let plain = rw ends.trap.1 at (calm.each (n - 1) last).plain in
    omega (arith, plain)

pub no_calm_exit : (m next : Machine) (k n : ℕ) → AreCalm m k → n < k → next ≡ run m n → IsQuiet next → ⊥
no_calm_exit m next k n calm within is quiet =
    let none = rw is at quiet.plain in
    omega (arith, none, (calm.each n within).plain)
