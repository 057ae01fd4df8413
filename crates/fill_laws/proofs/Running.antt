-- Laws of runs and of their events, in the forms that loops and callers need.
use Rattle.std.proofs.Common.{◌≡◌, ◌≢◌, ℕ, zero, suc, ◌+◌, ◌-◌, ◌<◌, ◌≤◌, [], ◌++◌, refl, ◌∙◌, ap, sym, zero-add, append_assoc, arith}
use Rattle.guest_settings.specs.declared.statuses.Status.{Status}
use Rattle.guest_settings.specs.declared.statuses.Status.TheVariants.{Running, Waiting, Stopped}
use Rattle.machine_defs.specs.Fills.{ready}
use Rattle.machine_defs.specs.Machine.{Machine}
use Rattle.machine_defs.specs.Runs.{left_after, stepped, step, run, event_in, events_by, events}
use Rattle.machine_defs.specs.Tries.{try}

-- a run of no steps, and of more
pub run_none : (m : Machine) (k : ℕ) → k ≤ 0 → run m k ≡ m
unfolding run
run_none m zero h = refl
run_none m (suc k) h = absurd (omega arith)

pub run_more : (m : Machine) (k : ℕ) → 0 < k → run m k ≡ run (step m) (k - 1)
unfolding run
run_more m zero h = absurd (omega arith)
run_more m (suc k) h = let e : suc k - 1 ≡ k = omega arith in rw e refl

pub events_none : (m : Machine) (k : ℕ) → k ≤ 0 → events m k ≡ []
unfolding events
events_none m zero h = refl
events_none m (suc k) h = absurd (omega arith)

pub events_more : (m : Machine) (k : ℕ) → 0 < k → events m k ≡ events_by m m.platform.status ++ events (step m) (k - 1)
unfolding events
events_more m zero h = absurd (omega arith)
events_more m (suc k) h = let e : suc k - 1 ≡ k = omega arith in rw e refl

-- runs compose, and so do their events
pub runs_compose : (m : Machine) (a b : ℕ) → run (run m a) b ≡ run m (a + b)
unfolding run
runs_compose m zero b = ap (run m) (sym (zero-add b))
runs_compose m (suc a) b = let e : suc a + b ≡ suc (a + b) = omega arith in rw e (runs_compose (step m) a b)

pub next_run : (m : Machine) (steps : ℕ) → step (run m steps) ≡ run m (suc steps)
unfolding run
next_run m steps = let more : steps + 1 ≡ suc steps = omega arith in runs_compose m steps 1 ∙ ap (run m) more

pub events_compose : (m : Machine) (a b : ℕ) → events m a ++ events (run m a) b ≡ events m (a + b)
unfolding run events
events_compose m zero b = ap (events m) (sym (zero-add b))
events_compose m (suc a) b = let e : suc a + b ≡ suc (a + b) = omega arith in
    rw (e, append_assoc) (ap (λ rest. events_by m m.platform.status ++ rest) (events_compose (step m) a b))

-- a step of a running machine is its fills and its last try
running : (m : Machine) (s : Status) → s ≡ Running → stepped m s ≡ left_after (ready m)
running m Running is = refl
running m Waiting is = absurd cc
running m Stopped is = absurd cc

pub step_running : (m : Machine) → m.platform.status ≡ Running → step m ≡ left_after (ready m)
unfolding step
step_running m h = running m m.platform.status h

running_events : (m : Machine) (s : Status) → s ≡ Running → events_by m s ≡ event_in (try (ready m))
running_events m Running is = refl
running_events m Waiting is = absurd cc
running_events m Stopped is = absurd cc

pub events_running : (m : Machine) → m.platform.status ≡ Running → events_by m m.platform.status ≡ event_in (try (ready m))
events_running m h = running_events m m.platform.status h

-- a machine that does not go on stays as it is
stays : (m : Machine) (s : Status) → s ≢ Running → stepped m s ≡ m
stays m Running h = absurd (h refl)
stays m Waiting h = refl
stays m Stopped h = refl

quiet : (m : Machine) (s : Status) → s ≢ Running → events_by m s ≡ []
quiet m Running h = absurd (h refl)
quiet m Waiting h = refl
quiet m Stopped h = refl

pub step_idle : (m : Machine) → m.platform.status ≢ Running → step m ≡ m
unfolding step
step_idle m h = stays m m.platform.status h

pub run_idle : (m : Machine) (k : ℕ) → m.platform.status ≢ Running → run m k ≡ m
unfolding run
run_idle m zero h = refl
run_idle m (suc k) h = rw (step_idle m h) (run_idle m k h)

pub events_idle : (m : Machine) (k : ℕ) → m.platform.status ≢ Running → events m k ≡ []
unfolding events
events_idle m zero h = refl
events_idle m (suc k) h = rw (quiet m m.platform.status h, step_idle m h) (events_idle m k h)
