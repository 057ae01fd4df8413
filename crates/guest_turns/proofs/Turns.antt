-- Turns, some steps at a time.
use Rattle.std.proofs.Common.{cond, ◌≡◌, ◌≢◌, ℕ, zero, suc, ◌+◌, ◌*◌, ◌-◌, ◌<◌, ◌≤◌, ◌⊎◌, inl, inr, List, [], ◌∷◌, ◌++◌, refl, ap, sym, subst, ◌∙◌, append_assoc, suc-mul, arith}
use Rattle.std.proofs.lemmas.Bool.{cases_lt}
use Rattle.std.proofs.lemmas.List.Sums.{sum_by-append}
use Rattle.machine_defs.specs.declared.events.Event.{Event}
use Rattle.machine_defs.specs.declared.events.Event.TheVariants as event
use Rattle.guest_settings.specs.declared.statuses.Status.{Status}
use Rattle.guest_settings.specs.declared.statuses.Status.TheVariants as status
use Rattle.machine_defs.specs.Fills.{most_tries, needed, ready}
use Rattle.machine_defs.specs.Machine.{Machine, Tried, Ended, WaitsForGood}
use Rattle.machine_defs.specs.Runs.{event_in, events, events_by, instruction_count, is_instruction, is_plain_step, left_after, pc_and_word, plain_count, run, step, trace_of}
use Rattle.machine_defs.specs.Tries.{try}
use Rattle.fill_laws.proofs.Running.{run_none, run_idle, events_none, events_idle, events_compose}
use Rattle.fill_laws.specs.Budgets.{Goes, NeedNoFill, budget}
use Rattle.fill_laws.proofs.Stepping.{budget_is_small, fill_goes, fill_is_no_event, ready_steps_go, try_goes, try_is_event}
use Rattle.rv64_hart.specs.Counts.{Counts, IsRaisedBy}
use Rattle.guest_exit.specs.declared.hart_exit.Handled.{Handled}
use Rattle.guest_exit.specs.declared.hart_exit.Handled.TheVariants as handled
use Rattle.guest_exit.specs.HartExit.{status_after, steps_made}
use Rattle.guest_exit.specs.Steps.{Fills, IsQuiet, MakesStep}
use Rattle.guest_turns.specs.Account.{Accounted, AccountedTo, CountsTry}
use Rattle.guest_turns.specs.Calm.{AreCalm, calm_entries}
use Rattle.guest_turns.specs.Hosting.{used_by}
use Rattle.guest_turns.specs.TurnLists.{turn_entries}
use Rattle.guest_turns.proofs.CalmSteps.{first_calm}

-- the account of events one after another
pub trace_then : (xs ys : List Event) → trace_of (xs ++ ys) ≡ trace_of xs + trace_of ys
trace_then xs ys = sum_by-append pc_and_word xs ys

pub plain_then : (xs ys : List Event) → plain_count (xs ++ ys) ≡ plain_count xs + plain_count ys
plain_then xs ys = sum_by-append (λ e. cond (is_plain_step e) 1 0) xs ys

pub instructions_then : (xs ys : List Event) → instruction_count (xs ++ ys) ≡ instruction_count xs + instruction_count ys
instructions_then xs ys = sum_by-append (λ e. cond (is_instruction e) 1 0) xs ys

-- no more steps are plain than are made
pub one_plain : (e : Event) → plain_count (e ∷ []) ≤ 1
one_plain (event.Plain pc word) = omega arith
one_plain (event.Trap level interrupt) = omega arith
one_plain event.System = omega arith

plain_in : (t : Tried) → plain_count (event_in t) ≤ 1
plain_in (Ended after event) = one_plain event
plain_in WaitsForGood = omega arith

plain_by : (m : Machine) (s : Status) → plain_count (events_by m s) ≤ 1
plain_by m status.Running = plain_in (try (ready m))
plain_by m status.Waiting = omega arith
plain_by m status.Stopped = omega arith

pub plain_within : (m : Machine) (n : ℕ) → plain_count (events m n) ≤ n
unfolding events
plain_within m zero = omega arith
plain_within m (suc n) =
    let one = plain_by m m.platform.status in
    let rest = plain_within (step m) n in
    rw (plain_then (events_by m m.platform.status) (events (step m) n)) (omega (arith, one, rest))

-- a part of k steps, and its events: the next machine makes the others
pub record Made (m : Machine) (k : ℕ) (next : Machine) (left : ℕ) (es : List Event) : Type 0 where
  pub goes : Goes m k next left
  pub events_are : events m k ≡ es ++ events next left

-- a step that lacks nothing, a fill, and that many steps that lack nothing
pub step_made : (m next : Machine) (k : ℕ) → needed ≤ m.entry_room → 0 < k → m.platform.status ≡ status.Running → MakesStep m next
    → Made m k next (k - 1) (event_in (try m))
step_made m next k room some is made =
    subst (λ next. Made m k next (k - 1) (event_in (try m))) (sym made.step)
    (record { goes = try_goes m k room some is made.ready; events_are = try_is_event m k some is made.ready })

pub fill_made : (m next : Machine) (k : ℕ) → needed ≤ m.entry_room → 0 < k → m.platform.status ≡ status.Running → Fills m next → Made m k next k []
fill_made m next k room some is filled =
    let e = filled.0 in
    let lacks = filled.1 in
    subst (λ next. Made m k next k []) (sym filled.2)
    (record { goes = fill_goes m e k room some is lacks; events_are = sym (fill_is_no_event m e k room is lacks) })

pub run_made : (m next : Machine) (n k : ℕ) → needed ≤ m.entry_room → 0 < n → n ≤ k → NeedNoFill n m → next ≡ run m n → Made m k next (k - n) (events m n)
run_made m next n k room some few need is =
    let all : n + (k - n) ≡ k = omega (arith, few) in
    subst (λ next. Made m k next (k - n) (events m n)) (sym is)
    (record { goes = ready_steps_go m n k room some few need; events_are = sym (events_compose m n (k - n) ∙ ap (events m) all) })

-- one part after another
pub then_made : (m between last : Machine) (k left rest : ℕ) (es more : List Event) → Made m k between left es → Made between left last rest more
    → Made m k last rest (es ++ more)
then_made m between last k left rest es more one then =
    let first = one.goes.fewer in
    let second = then.goes.fewer in
    record {
      goes = record { ran = then.goes.ran ∙ one.goes.ran; fewer = omega (arith, first, second); room = then.goes.room ∙ one.goes.room };
      events_are = one.events_are ∙ ap (λ rest. es ++ rest) then.events_are ∙ sym (append_assoc es more (events last rest));
    }

-- what the host makes of a step
abbrev pub events_of : Handled → Machine → List Event
events_of handled.Stepped m = event_in (try m)
events_of (handled.Trapped into interrupt) m = event_in (try m)
events_of handled.Retry m = []
events_of handled.Waits m = event_in (try m)
events_of handled.Stopped m = event_in (try m)

pub handled_made : (m next : Machine) (k : ℕ) (result : Handled) → needed ≤ m.entry_room → 0 < k → m.platform.status ≡ status.Running
    → (result ≢ handled.Retry → MakesStep m next) → (result ≡ handled.Retry → Fills m next) → Made m k next (k - used_by result) (events_of result m)
handled_made m next k handled.Stepped room some is steps fills = step_made m next k room some is (steps (λ e. cc))
handled_made m next k (handled.Trapped into interrupt) room some is steps fills = step_made m next k room some is (steps (λ e. cc))
handled_made m next k handled.Retry room some is steps fills =
    let all : k - 0 ≡ k = omega arith in subst (λ left. Made m k next left []) (sym all) (fill_made m next k room some is (fills refl))
handled_made m next k handled.Waits room some is steps fills = step_made m next k room some is (steps (λ e. cc))
handled_made m next k handled.Stopped room some is steps fills = step_made m next k room some is (steps (λ e. cc))

-- after the steps of an entry of the hart, of which there may be none
pub exit_made : (m between last : Machine) (n k : ℕ) (result : Handled) → needed ≤ m.entry_room → n < k → NeedNoFill n m → between ≡ run m n
    → between.platform.status ≡ status.Running → (result ≢ handled.Retry → MakesStep between last) → (result ≡ handled.Retry → Fills between last)
    → Made m k last (k - n - used_by result) (events m n ++ events_of result between)
unfolding run events
exit_made m between last zero k result room some need is running steps fills =
    let all : k - 0 ≡ k = omega arith in
    let same : m ≡ between = sym is in
    rw all (subst (λ m. Made m k last (k - used_by result) (events_of result between)) (sym same)
    (handled_made between last k result (subst (λ m. needed ≤ m.entry_room) same room) some running steps fills))
exit_made m between last (suc n) k result room some need is running steps fills =
    let before = run_made m between (suc n) k room (omega arith) (omega (arith, some)) need is in
    let enough : needed ≤ between.entry_room = rw before.goes.room room in
    then_made m between last k (k - suc n) (k - suc n - used_by result) (events m (suc n)) (events_of result between) before
    (handled_made between last (k - suc n) result enough (omega (arith, some)) running steps fills)

-- none of what the host makes is plain
pub no_trace : (m : Machine) (result : Handled) → IsQuiet m → trace_of (events_of result m) ≡ 0
no_trace m handled.Stepped quiet = quiet.trace
no_trace m (handled.Trapped into interrupt) quiet = quiet.trace
no_trace m handled.Retry quiet = refl
no_trace m handled.Waits quiet = quiet.trace
no_trace m handled.Stopped quiet = quiet.trace

pub no_plain : (m : Machine) (result : Handled) → IsQuiet m → plain_count (events_of result m) ≡ 0
no_plain m handled.Stepped quiet = quiet.plain
no_plain m (handled.Trapped into interrupt) quiet = quiet.plain
no_plain m handled.Retry quiet = refl
no_plain m handled.Waits quiet = quiet.plain
no_plain m handled.Stopped quiet = quiet.plain

-- an entry of the hart, and what the host makes after it
pub exit_trace : (m : Machine) (n t u : ℕ) (between : Machine) (result : Handled) → IsRaisedBy (trace_of (events m n)) t u → IsQuiet between
    → IsRaisedBy (trace_of (events m n ++ events_of result between)) t u
exit_trace m n t u between result raised quiet =
    let sum = trace_then (events m n) (events_of result between) in
    let none = no_trace between result quiet in
    omega (arith, raised, sum, none)

pub exit_plain : (m : Machine) (n : ℕ) (between : Machine) (result : Handled) → IsQuiet between
    → plain_count (events m n ++ events_of result between) ≤ n
exit_plain m n between result quiet =
    let within = plain_within m n in
    rw (plain_then (events m n) (events_of result between), no_plain between result quiet) (omega (arith, within))

-- what the host uses up of the steps that are left, by what it has made
pub made_at_most : (result : Handled) → steps_made result ≤ used_by result
made_at_most handled.Stepped = omega arith
made_at_most (handled.Trapped into interrupt) = omega arith
made_at_most handled.Retry = omega arith
made_at_most handled.Waits = omega arith
made_at_most handled.Stopped = omega arith

pub made_if_running : (result : Handled) → status_after result ≡ status.Running → steps_made result ≡ used_by result
made_if_running handled.Stepped is = refl
made_if_running (handled.Trapped into interrupt) is = refl
made_if_running handled.Retry is = refl
made_if_running handled.Waits is = cc
made_if_running handled.Stopped is = cc

pub used_at_most : (result : Handled) → used_by result ≤ 1
used_at_most handled.Stepped = omega arith
used_at_most (handled.Trapped into interrupt) = omega arith
used_at_most handled.Retry = omega arith
used_at_most handled.Waits = omega arith
used_at_most handled.Stopped = omega arith

-- the tries of k steps are within the bound on a turn's entries
pub budget_within : (m : Machine) (k : ℕ) → budget m k ≤ turn_entries m.entry_room k
budget_within m k =
    let small = budget_is_small m k in
    let row : suc k * most_tries m.entry_room ≡ k * most_tries m.entry_room + most_tries m.entry_room = suc-mul k (most_tries m.entry_room) in
    omega (arith, small, row)

-- while steps are left, so is a try
pub budget_positive : (m : Machine) (k : ℕ) → 0 < k → 0 < budget m k
budget_positive m zero some = absurd (omega arith)
budget_positive m (suc k) some = omega arith

-- if it is calm, it is all that is left, in one entry
abbrev pub IsOnce : ℕ → Counts → Counts → Type 0
IsOnce left old new = (left ≡ 0) × (new.entries ≡ old.entries + 1)

one_entry : (k : ℕ) → 0 < k → calm_entries k ≡ 1
one_entry zero some = absurd (omega arith)
one_entry (suc k) some = refl

once_to : (m next : Machine) (k left : ℕ) (old new : Counts) → 0 < k → IsOnce left old new → AreCalm next left × (new.entries + calm_entries left ≡ old.entries + calm_entries k)
once_to m next k left old new some (none, one) =
    let no_more : calm_entries left ≡ 0 = rw none refl in
    let first = one_entry k some in
    (record { each = λ i within. absurd (omega (arith, none, within)); lasts = λ more. absurd (omega (arith, none, more)) }, omega (arith, no_more, first, one))

pub accounted_part : (m next : Machine) (k left : ℕ) (es : List Event) (old new : Counts) → 0 < k → Made m k next left es → CountsTry m next es old new
    → (AreCalm m k → IsOnce left old new) → AccountedTo m k next left old new
accounted_part m next k left es old new some made is once =
    let rest = events next left in
    let plain : plain_count (events m k) ≡ plain_count es + plain_count rest = rw made.events_are (plain_then es rest) in
    let counted : instruction_count (events m k) ≡ instruction_count es + instruction_count rest = rw made.events_are (instructions_then es rest) in
    let traced : trace_of (events m k) ≡ trace_of es + trace_of rest = rw made.events_are (trace_then es rest) in
    record {
      entries_grow = is.entries_grow;
      entries_least = λ same. let none = is.none same in omega (arith, counted, none);
      entries_most = omega (arith, is.entries_most, made.goes.fewer);
      entries_calm = λ calm. once_to m next k left old new some (once calm);
      taken_least = omega (arith, plain, is.taken_least);
      taken_most = is.taken_most;
      trace = omega (arith, traced, is.trace);
    }

pub accounted_then : (m between last : Machine) (k left rest : ℕ) (t u v : Counts) → AccountedTo m k between left t u → AccountedTo between left last rest u v
    → AccountedTo m k last rest t v
accounted_then m between last k left rest t u v one then = record {
  entries_grow = omega (arith, one.entries_grow, then.entries_grow);
  entries_least = λ same.
      let before : u.entries ≡ t.entries = omega (arith, same, one.entries_grow, then.entries_grow) in
      let after : v.entries ≡ u.entries = omega (arith, same, before) in
      one.entries_least before ∙ then.entries_least after;
  entries_most = omega (arith, one.entries_most, then.entries_most);
  entries_calm = λ calm.
      let first = one.entries_calm calm in
      let second = then.entries_calm first.0 in
      (second.0, omega (arith, first.1, second.1));
  taken_least = omega (arith, one.taken_least, then.taken_least);
  taken_most = omega (arith, one.taken_most, then.taken_most);
  trace = then.trace ∙ one.trace;
}

-- a calm part that makes none has no steps
none_calm : (m : Machine) (k : ℕ) → AreCalm m k → events m k ≡ [] → k ≡ 0
none_calm m zero calm none = refl
none_calm m (suc k) calm none =
    let some : 0 < suc k = omega arith in
    let now = first_calm m (suc k) some calm in
    let sum = ap plain_count (try_is_event m (suc k) some now.running now.no_fill) ∙ plain_then (event_in (try m)) (events (left_after m) (suc k - 1)) in
    let counted : plain_count (events m (suc k)) ≡ 0 = ap plain_count none in
    absurd (omega (arith, sum, counted, now.plain))

-- and of all of them, where it makes none
pub accounted : (m next : Machine) (k left made : ℕ) (old new : Counts) → events next left ≡ [] → m.platform.steps + made ≡ next.platform.steps
    → AccountedTo m k next left old new → Accounted m k made old new
accounted m next k left made old new none steps is =
    let counted : instruction_count (events next left) ≡ 0 = ap instruction_count none in
    let plain : plain_count (events next left) ≡ 0 = ap plain_count none in
    let traced : trace_of (events next left) ≡ 0 = ap trace_of none in
    let most = budget_within m k in
    record {
      entries_grow = is.entries_grow;
      entries_least = λ some. by (cases_lt old.entries new.entries) counted some;
      entries_most = omega (arith, is.entries_most, most);
      entries_calm = λ some calm.
          let rest = is.entries_calm calm in
          let no_more : calm_entries left ≡ 0 = ap calm_entries (none_calm next left rest.0 none) in
          let first = one_entry k some in
          omega (arith, rest.1, no_more, first);
      taken_least = omega (arith, is.taken_least, plain);
      taken_most = omega (arith, is.taken_most, steps);
      trace = omega (arith, is.trace, traced);
    }
  where
    by : (old.entries < new.entries) ⊎ (new.entries ≤ old.entries) → instruction_count (events next left) ≡ 0 → 0 < instruction_count (events m k) → old.entries < new.entries
    by (inl grew) counted some = grew
    by (inr stayed) counted some =
        let same : new.entries ≡ old.entries = omega (arith, stayed, is.entries_grow) in
        let none_made = is.entries_least same in
        absurd (omega (arith, none_made, counted, some))

pub ruleset turns = (run_none, run_idle, events_none, events_idle)
