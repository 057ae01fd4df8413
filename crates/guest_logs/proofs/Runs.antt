-- A run is made in parts.
use Rattle.std.proofs.Common.{arith, ◌≡◌, ◌∙◌, ℕ, ◌+◌, ◌-◌, ◌≤◌, ap}
use Rattle.machine_defs.specs.Machine.{Machine}
use Rattle.machine_defs.specs.Runs.{run}
use Rattle.fill_laws.proofs.Running.{run_none, runs_compose}

pub run_rest : (m : Machine) (n k : ℕ) → n ≤ k → run (run m n) (k - n) ≡ run m k
run_rest m n k within = let all : n + (k - n) ≡ k = omega (arith, within) in runs_compose m n (k - n) ∙ ap (run m) all

pub ruleset runs = (run_none, run_rest)
