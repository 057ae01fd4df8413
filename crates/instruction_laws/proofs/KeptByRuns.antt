-- What fills and tries keep, steps and runs keep.
use Rattle.std.proofs.Common.{◌≡◌, ℕ, zero, suc, Option, Some, None, refl}
use Rattle.arch_defs.specs.declared.cached.Entry.{Entry}
use Rattle.guest_settings.specs.declared.statuses.Status.{Status}
use Rattle.guest_settings.specs.declared.statuses.Status.TheVariants.{Running, Waiting, Stopped}
use Rattle.machine_defs.specs.Fills.{after_fill, after_fills, fill, missing_entry, most_fills}
use Rattle.machine_defs.specs.Machine.{Machine}
use Rattle.machine_defs.specs.Runs.{left_after, run, step, stepped}

-- a fill of what is missing keeps it, and so does a try
pub record IsKept (P : Machine → Type 0) : Type 0 where
  pub filled : (m : Machine) (e : Entry) → P m → missing_entry m ≡ Some e → P (fill m e)
  pub tried : (m : Machine) → P m → P (left_after m)

pub kept_by_fills : (P : Machine → Type 0) → IsKept P → (n : ℕ) (m : Machine) → P m → P (after_fills n m)
unfolding after_fills
kept_by_fills P kept zero m holds = holds
kept_by_fills P kept (suc n) m holds = by (missing_entry m) refl (λ next. kept_by_fills P kept n next)
  where
    by : (there : Option Entry) → missing_entry m ≡ there → ((next : Machine) → P next → P (after_fills n next)) → P (after_fill (after_fills n) m there)
    by None is deeper = holds
    by (Some e) is deeper = deeper (fill m e) (kept.filled m e holds is)

stepped_keeps : (P : Machine → Type 0) → IsKept P → (m : Machine) → P m → (s : Status) → P (stepped m s)
stepped_keeps P kept m holds Running = kept.tried (after_fills (most_fills m) m) (kept_by_fills P kept (most_fills m) m holds)
stepped_keeps P kept m holds Waiting = holds
stepped_keeps P kept m holds Stopped = holds

pub kept_by_step : (P : Machine → Type 0) → IsKept P → (m : Machine) → P m → P (step m)
unfolding step
kept_by_step P kept m holds = stepped_keeps P kept m holds m.platform.status

pub kept_by_runs : (P : Machine → Type 0) → IsKept P → (m : Machine) (n : ℕ) → P m → P (run m n)
unfolding run
kept_by_runs P kept m zero holds = holds
kept_by_runs P kept m (suc n) holds = kept_by_runs P kept (step m) n (kept_by_step P kept m holds)
