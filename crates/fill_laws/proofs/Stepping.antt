-- Steps and runs after fills and after tries.
use Rattle.std.proofs.Common.{◌++◌, ◌≡◌, ℕ, zero, suc, ◌+◌, ◌-◌, ◌*◌, ◌<◌, ◌≤◌, ◌∙◌, Option, refl, ap, sym, subst, arith}
use Rattle.std.proofs.Math.Nat.{suc-mul}
use Rattle.arch_defs.specs.declared.cached.Entry.{Entry}
use Rattle.arch_defs.specs.declared.cached.Fence.{Fence}
use Rattle.guest_settings.specs.declared.statuses.Status.TheVariants as status
use Rattle.machine_defs.specs.Fills.{fill, fills, most_fills, needed, ready}
use Rattle.machine_defs.specs.Machine.{Ended, Machine, Tried, WaitsForGood}
use Rattle.machine_defs.specs.Runs.{event_in, events, left_after, left_by, run, step}
use Rattle.machine_defs.specs.Tries.{stages_of, try}
use Rattle.fill_laws.specs.Budgets.{BudgetIsSmall, FillGoes, FillIsNoEvent, Goes, ReadyStepIsTry, ReadyStepsGo, TryGoes, TryIsEvent, budget}
use Rattle.fill_laws.specs.Laws.{StepsGoOn, StepsSettle}
use Rattle.fill_laws.proofs.Running.{events_running, run_more, step_running}
use Rattle.instruction_laws.proofs.Rooting.{RootEnd, root_end}
use Rattle.instruction_laws.proofs.TryEnds.{Calls, Fences, Halts, Makes, Passes, Serves, Takes}
use Rattle.fill_laws.proofs.Filling.{few_fills, fills_go_on, more_change_nothing, no_fills, none_left}

-- more fills would not change it
pub steps_settle : StepsSettle
steps_settle m n room more is = ap left_after (more_change_nothing m n room more) ∙ sym (step_running m is)

-- after a fill the same step is left
pub steps_go_on : StepsGoOn
steps_go_on m e room is lacks = step_running (fill m e) is ∙ ap left_after (fills_go_on m e room lacks).same ∙ sym (step_running m is)

-- a step that lacks nothing is its try
pub step_ready : ReadyStepIsTry
step_ready m is none = step_running m is ∙ ap left_after (no_fills (most_fills m) m none)

-- a try leaves the room for entries as it is
abbrev HasRoom : ℕ → Tried → Type 0
HasRoom room (Ended after event) = after.entry_room ≡ room
HasRoom room WaitsForGood = Unit {0}

ended_room : (m : Machine) {t : Tried} {fence : Option Fence} → RootEnd m t fence → HasRoom m.entry_room t
ended_room m (Takes first trap) = refl
ended_room m (Makes first completion event keeps) = refl
ended_room m (Serves first rd value console leaves) = refl
ended_room m (Calls first) = refl
ended_room m (Passes first virt moment keeps) = refl
ended_room m Halts = tt
ended_room m (Fences first virt fence keeps) = refl

try_room : (m : Machine) → HasRoom m.entry_room (try m)
try_room m = ended_room m (root_end m (stages_of m))

left_room : (m : Machine) (t : Tried) → HasRoom m.entry_room t → (left_by m t).entry_room ≡ m.entry_room
left_room m (Ended after event) room = room
left_room m WaitsForGood room = refl

-- what one try leaves of a run: a fill leaves all steps
fill_budget : (m : Machine) (e : Entry) (k : ℕ) → 0 < k → fills (most_fills m) m ≡ fills (most_fills m) (fill m e) + 1 → budget (fill m e) k + 1 ≤ budget m k
fill_budget m e zero some fewer = absurd (omega arith)
fill_budget m e (suc k) some fewer = omega arith

pub fill_goes : FillGoes
fill_goes m e k room some is lacks = record {
  ran = run_more (fill m e) k some ∙ ap (λ next. run next (k - 1)) (steps_go_on m e room is lacks) ∙ sym (run_more m k some);
  fewer = fill_budget m e k some (fills_go_on m e room lacks).fewer;
  room = refl;
}

-- and a try that lacks nothing one step less
row : (k few most : ℕ) → few ≤ most → k * (most + 1) + (few + 1) ≤ suc k * (most + 1)
row k few most less = rw (suc-mul k (most + 1)) (omega arith)

budget_below : (m : Machine) (k : ℕ) → budget m k ≤ k * (most_fills m + 1)
budget_below m zero = omega arith
budget_below m (suc k) = row k (fills (most_fills m) m) (most_fills m) (few_fills m (most_fills m))

pub budget_is_small : BudgetIsSmall
budget_is_small = budget_below

try_budget : (m next : Machine) (k : ℕ) → 0 < k → fills (most_fills m) m ≡ 0 → next.entry_room ≡ m.entry_room → budget next (k - 1) + 1 ≤ budget m k
try_budget m next zero some none room = absurd (omega arith)
try_budget m next (suc k) some none room =
    let e : suc k - 1 ≡ k = omega arith in
    let same : k * (most_fills next + 1) ≡ k * (most_fills m + 1) = ap (λ n. k * (n + needed + 1)) room in
    let below = budget_below next k in
    let less : budget next k + 1 ≤ k * (most_fills m + 1) + (fills (most_fills m) m + 1) = omega arith in
    rw e less

pub try_goes : TryGoes
try_goes m k room some is lacks = let same = left_room m (try m) (try_room m) in record {
  ran = ap (λ next. run next (k - 1)) (sym (step_ready m is lacks)) ∙ sym (run_more m k some);
  fewer = try_budget m (left_after m) k some (none_left (most_fills m) m lacks) same;
  room = same;
}

-- several steps that lack nothing
then_goes : (m next last : Machine) (k left rest : ℕ) → Goes m k next left → Goes next left last rest → Goes m k last rest
then_goes m next last k left rest one more = let first = one.fewer in let second = more.fewer in record {
  ran = more.ran ∙ one.ran;
  fewer = omega (arith, first, second);
  room = more.room ∙ one.room;
}

pub ready_steps_go : ReadyStepsGo
unfolding run
ready_steps_go m zero k room some few ready = absurd (omega arith)
ready_steps_go m (suc zero) k room some few ready = let at = ready 0 (omega arith) in
    subst (λ next. Goes m k next (k - 1)) (sym (step_ready m at.0 at.1)) (try_goes m k room (omega arith) at.0 at.1)
ready_steps_go m (suc (suc n)) k room some few ready =
    let at = ready 0 (omega arith) in
    let one : Goes m k (step m) (k - 1) = subst (λ next. Goes m k next (k - 1)) (sym (step_ready m at.0 at.1)) (try_goes m k room (omega arith) at.0 at.1) in
    let room_after : needed ≤ (step m).entry_room = subst (λ n. needed ≤ n) (sym one.room) room in
    let rest = ready_steps_go (step m) (suc n) (k - 1) room_after (omega arith) (omega arith) (λ i below. ready (suc i) (omega arith)) in
    let left : k - 1 - suc n ≡ k - suc (suc n) = omega arith in
    subst (λ left. Goes m k (run (step m) (suc n)) left) left (then_goes m (step m) (run (step m) (suc n)) k (k - 1) (k - 1 - suc n) one rest)

-- the events of a run, a fill being none
more_events : (m : Machine) (k : ℕ) → m.platform.status ≡ status.Running → events m (suc k) ≡ event_in (try (ready m)) ++ events (step m) k
unfolding events
more_events m k is = ap (λ es. es ++ events (step m) k) (events_running m is)

pub fill_is_no_event : FillIsNoEvent
unfolding events
fill_is_no_event m e zero room is lacks = refl
fill_is_no_event m e (suc k) room is lacks = more_events (fill m e) k is
    ∙ ap (λ last. event_in (try last) ++ events (step (fill m e)) k) (fills_go_on m e room lacks).same
    ∙ ap (λ next. event_in (try (ready m)) ++ events next k) (steps_go_on m e room is lacks) ∙ sym (more_events m k is)

pub try_is_event : TryIsEvent
try_is_event m zero some is lacks = absurd (omega arith)
try_is_event m (suc k) some is lacks = let e : suc k - 1 ≡ k = omega arith in
    rw e (more_events m k is ∙ ap (λ last. event_in (try last) ++ events (step m) k) (no_fills (most_fills m) m lacks)
    ∙ ap (λ next. event_in (try m) ++ events next k) (step_ready m is lacks))
