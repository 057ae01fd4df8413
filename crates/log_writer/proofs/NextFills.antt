-- The translations of the second stage that a step caches, one by one.
use Rattle.std.proofs.Common.{arith, ◌≡◌, ◌∙◌, ◌≤◌, ◌<◌, ◌+◌, refl, sym, ap, ℕ, zero, suc, List, [], ◌∷◌, Option, Some, None}
use Rattle.arch_defs.specs.declared.cached.Entry.{Entry}
use Rattle.guest_settings.specs.declared.statuses.Status.{Status}
use Rattle.guest_settings.specs.declared.statuses.Status.TheVariants.{Running, Waiting, Stopped}
use Rattle.machine_defs.specs.Fills.{counted, fill, fills, missing_entry, most_fills, needed}
use Rattle.machine_defs.specs.Machine.{Machine}
use Rattle.fill_laws.proofs.Filling.{fills_go_on}
use Rattle.run_log.specs.Fills.{filled_by_status, filled_then, filled_within, next_filled}

-- where one more fill makes no more, there is none
step_stays : (n : ℕ) (m : Machine) (found : Option Entry)
    → ((e : Entry) → fills n (fill m e) ≡ fills (suc n) (fill m e) → filled_within (suc n) (fill m e) ≡ filled_within n (fill m e))
    → counted (fills n) m found ≡ counted (fills (suc n)) m found → filled_then (filled_within (suc n)) m found ≡ filled_then (filled_within n) m found
step_stays n m None rest same = refl
step_stays n m (Some e) rest same = ap (λ (l : List Entry). e ∷ l) (rest e (omega (arith, same)))

first_stays : (m : Machine) (found : Option Entry) → 0 ≡ counted (fills zero) m found → filled_then (filled_within zero) m found ≡ []
first_stays m None same = refl
first_stays m (Some e) same = absurd (omega (arith, same))

stays : (n : ℕ) (m : Machine) → fills n m ≡ fills (suc n) m → filled_within (suc n) m ≡ filled_within n m
unfolding filled_within fills
stays zero m same = first_stays m (missing_entry m) same
stays (suc n) m same = step_stays n m (missing_entry m) (λ e. stays n (fill m e)) same

-- the first is what the step lacks, and the others are those after its fill
first_of : (n : ℕ) (m : Machine) (e : Entry) → 0 < n → missing_entry m ≡ Some e → fills n m ≡ fills n (fill m e) + 1
    → filled_within n m ≡ e ∷ filled_within n (fill m e)
unfolding filled_within fills
first_of zero m e some lacks fewer = absurd (omega (arith, some))
first_of (suc n) m e some lacks fewer =
    let one : fills n (fill m e) + 1 ≡ fills (suc n) (fill m e) + 1 = sym (ap (counted (fills n) m) lacks) ∙ fewer in
    ap (filled_then (filled_within n) m) lacks
    ∙ ap (λ (l : List Entry). e ∷ l) (sym (stays n (fill m e) (omega (arith, one))))

by_running : (m : Machine) (s : Status) → s ≡ Running → filled_by_status m s ≡ filled_within (most_fills m) m
by_running m Running is = refl
by_running m Waiting is = absurd cc
by_running m Stopped is = absurd cc

pub next_is : (m : Machine) (e : Entry) → needed ≤ m.entry_room → m.platform.status ≡ Running → missing_entry m ≡ Some e
    → next_filled m ≡ e ∷ next_filled (fill m e)
unfolding next_filled
next_is m e room running lacks =
    by_running m m.platform.status running
    ∙ first_of (most_fills m) m e (omega (arith, room)) lacks (fills_go_on m e room lacks).fewer
    ∙ ap (λ (l : List Entry). e ∷ l) (sym (by_running (fill m e) m.platform.status running))

-- a step that lacks nothing caches nothing
none_within : (n : ℕ) (m : Machine) → missing_entry m ≡ None → filled_within n m ≡ []
unfolding filled_within
none_within zero m none = refl
none_within (suc n) m none = ap (filled_then (filled_within n) m) none

by_none : (m : Machine) (s : Status) → missing_entry m ≡ None → filled_by_status m s ≡ []
by_none m Running none = none_within (most_fills m) m none
by_none m Waiting none = refl
by_none m Stopped none = refl

pub next_none : (m : Machine) → missing_entry m ≡ None → next_filled m ≡ []
unfolding next_filled
next_none m none = by_none m m.platform.status none
