-- One try of a guest's next step: an interrupt, a step of the hart, or what the host makes of what it left.
use Rattle.std.specs.Prelude.{◌↔◌, nat_le}
use Rattle.std.proofs.Common.{◌≡◌, ℕ, ◌+◌, ◌<◌, ◌∙◌, Bool, false, List, [], ◌∷◌, None, refl, ap, sym, subst, arith}
use Rattle.arch_defs.specs.Inputs.{has_input}
use Rattle.guest_settings.specs.declared.statuses.Status.TheVariants.{Running}
use Rattle.machine_defs.specs.declared.events.Event.{Event}
use Rattle.machine_defs.specs.declared.events.Event.TheVariants as event
use Rattle.machine_defs.specs.Fills.{fill, missing_entry}
use Rattle.machine_defs.specs.Machine.{Machine, Platform, WaitsForGood, with_pending_lines}
use Rattle.machine_defs.specs.Runs.{event_in, events, left_after, plain_count, run, trace_of}
use Rattle.machine_defs.specs.Tries.{try}
use Rattle.rv64_hart.specs.Counts.{Counts, IsRaisedBy}
use Rattle.guest_exit.specs.declared.hart_exit.Handled.{Handled}
use Rattle.guest_exit.specs.declared.hart_exit.Handled.TheVariants as handled
use Rattle.guest_exit.specs.HartEntry.{IsAccounted, Lasts}
use Rattle.guest_exit.specs.HartExit.{IsHandled, IsToldEvent, steps_made}
use Rattle.hosted_steps.specs.HartSteps.{host_takes}
use Rattle.guest_exit.specs.Steps.{MakesStep, MakesSteps}
use Rattle.guest_exit.proofs.Entries.{one_event, one_run}
use Rattle.guest_turns.specs.Account.{CountsTry}
use Rattle.guest_turns.specs.Hosted.{machine_at}
use Rattle.guest_turns.specs.Tries.{HasTried, IsTried, events_made, made_by_host}
use Rattle.guest_turns.specs.TurnLists.{updated}
use Rattle.guest_turns.specs.declared.trying.Made.{Made}
use Rattle.guest_turns.specs.declared.trying.Made.TheVariants as made
use Rattle.guest_turns.proofs.Turns.{one_plain}

-- nothing changes before the first step begins
now_is : (has_come : ℕ → Bool) (clock n : ℕ) → n < 1 → has_come (clock + n) ≡ has_come clock
now_is has_come clock n first = let same : clock + n ≡ clock = omega (arith, first) in ap has_come same

pub lasts_once : (p : Platform) → with_pending_lines p ≡ p → host_takes p.virt ≡ false → Lasts p 1
lasts_once p current own = record {
  current = current;
  own = own;
  interrupts = λ more. absurd (omega (arith, more));
  timer = now_is (nat_le p.clock.timer) p.clock.time;
  inputs = now_is (has_input p.console.inputs) p.clock.time;
}

-- one step of the hart, and none
first_of : (m next : Machine) → MakesSteps 1 m next → (m.platform.status ≡ Running) × (missing_entry m ≡ None)
unfolding run
first_of m next made = made.ready 0 (omega arith)

pub one_made : (m next : Machine) → MakesSteps 1 m next → MakesStep m next
one_made m next made = let first = first_of m next made in record { ready = first.1; step = made.steps ∙ one_run m first.0 first.1 }

pub none_made : (m next : Machine) → MakesSteps 0 m next → next ≡ m
unfolding run
none_made m next made = made.steps

-- what the host has made of a step that the hart left
pub handled_tried : (m next : Machine) (result : Handled) → IsHandled result m next → IsToldEvent result (try m) → (result ≡ handled.Waits) ↔ (try m ≡ WaitsForGood)
    → IsTried (made_by_host result) m next
handled_tried m next handled.Stepped is told waits = (is.step (λ e. absurd (cc)), told (λ e. absurd (cc)))
handled_tried m next (handled.Trapped into interrupt) is told waits = (is.step (λ e. absurd (cc)), told (λ e. absurd (cc)))
handled_tried m next handled.Retry is told waits = is.fill refl
handled_tried m next handled.Waits is told waits = (is.step (λ e. absurd (cc)), waits.0 refl)
handled_tried m next handled.Stopped is told waits = (is.step (λ e. absurd (cc)), told (λ e. absurd (cc)))

-- and its account
record IsFree (es : List Event) : Type 0 where
  trace : trace_of es ≡ 0
  plain : plain_count es ≡ 0

handled_free : (result : Handled) → IsFree (events_made (made_by_host result))
handled_free handled.Stepped = record { trace = refl; plain = refl }
handled_free (handled.Trapped into interrupt) = record { trace = refl; plain = refl }
handled_free handled.Retry = record { trace = refl; plain = refl }
handled_free handled.Waits = record { trace = refl; plain = refl }
handled_free handled.Stopped = record { trace = refl; plain = refl }

pub handled_counts : (m between next : Machine) (result : Handled) (old new : Counts) → between ≡ m → IsAccounted 0 (trace_of (events m 0)) old new
    → next.platform.steps ≡ between.platform.steps + steps_made result → CountsTry m next (events_made (made_by_host result)) old new
unfolding events
handled_counts m between next result old new same account steps =
    let free = handled_free result in
    let before = ap (λ (m : Machine). m.platform.steps) same in
    record {
      entries_grow = omega (arith, account.entries);
      entries_most = omega (arith, account.entries);
      none = λ stayed. absurd (omega (arith, account.entries, stayed));
      taken_least = omega (arith, free.plain, account.taken);
      taken_most = omega (arith, before, steps, account.taken);
      trace = rw free.trace account.trace;
    }

-- a step of the hart
pub entered_counts : (m next : Machine) (e : Event) (old new : Counts) → MakesSteps 1 m next → event_in (try m) ≡ e ∷ [] → IsAccounted 1 (trace_of (events m 1)) old new
    → next.platform.steps ≡ m.platform.steps + 1 → CountsTry m next (e ∷ []) old new
entered_counts m next e old new made is account steps =
    let first = first_of m next made in
    let one = one_plain e in
    record {
      entries_grow = omega (arith, account.entries);
      entries_most = omega (arith, account.entries);
      none = λ stayed. absurd (omega (arith, account.entries, stayed));
      taken_least = omega (arith, one, account.taken);
      taken_most = omega (arith, steps, account.taken);
      trace = subst (λ es. IsRaisedBy (trace_of es) old.trace new.trace) (one_event m first.0 first.1 ∙ is) account.trace;
    }

pub counts_as : {m m' next next' : Machine} {es : List Event} {old new : Counts} → m' ≡ m → next' ≡ next → CountsTry m next es old new → CountsTry m' next' es old new
counts_as {m = m} {next' = next'} {es = es} {old = old} {new = new} e f is =
    subst (λ m. CountsTry m next' es old new) (sym e) (subst (λ next. CountsTry m next es old new) (sym f) is)

-- so of one machine of all
pub has_tried : (result : Made) (g : ℕ) (old new : List Machine) (m next : Machine) → machine_at old g ≡ m → IsTried result m next
    → ((change : Machine → Machine) → next ≡ change m → new ≡ updated g change old) → HasTried result g old new
has_tried made.Filled g old new m next at tried changes =
    (tried.0, ap missing_entry at ∙ tried.1, changes (λ m. fill m tried.0) tried.2)
has_tried (made.Stepped event) g old new m next at tried changes =
    (ap missing_entry at ∙ tried.0.ready, ap (λ m. event_in (try m)) at ∙ tried.1, changes left_after tried.0.step)
has_tried made.Waits g old new m next at tried changes =
    (ap missing_entry at ∙ tried.0.ready, ap try at ∙ tried.1, changes left_after tried.0.step)
