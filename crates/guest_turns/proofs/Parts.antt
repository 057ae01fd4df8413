-- What one advance of a guest is to its lone machine: what the hart makes in an entry, and what the host
-- makes after it.
use Rattle.std.proofs.Common.{◌≡◌, ◌≢◌, ℕ, ◌+◌, ◌-◌, ◌<◌, ◌≤◌, List, ◌++◌, refl, ap, arith}
use Rattle.guest_settings.specs.declared.statuses.Status.TheVariants.{Running}
use Rattle.machine_defs.specs.Machine.{with_pending_lines}
use Rattle.machine_defs.specs.Runs.{events, run, trace_of}
use Rattle.fill_laws.specs.Budgets.{NeedNoFill}
use Rattle.guest_exit.specs.declared.guests.Guest.{Guest}
use Rattle.guest_exit.specs.declared.hart_exit.Handled.{Handled}
use Rattle.guest_exit.specs.declared.hart_exit.Handled.TheVariants as handled
use Rattle.guest_exit.specs.HartEntry.{IsAccounted}
use Rattle.guest_exit.specs.Steps.{Fills, IsQuiet, MakesStep}
use Rattle.guest_exit.specs.View.{machine_of, platform_of}
use Rattle.rv64_hart.specs.Counts.{Counts}
use Rattle.guest_turns.specs.Account.{AccountedTo}
use Rattle.guest_turns.specs.Hosting.{CountsLeft, IsHosted, used_by}
use Rattle.guest_turns.specs.Calm.{AreCalm}
use Rattle.guest_turns.proofs.CalmSteps.{no_calm_exit}
use Rattle.guest_turns.proofs.Current.{after_fill, after_step}
use Rattle.guest_turns.proofs.Turns.{Made, accounted_part, events_of, exit_made, exit_plain, exit_trace, plain_within, run_made, step_made}

-- an interrupt that the host takes
pub interrupt_part : (guest new : Guest) (memory : List ℕ) (left : ℕ) → IsHosted guest memory → guest.status ≡ Running → 0 < left
    → MakesStep (machine_of guest memory) (machine_of new memory)
    → Made (machine_of guest memory) left (machine_of new memory) (left - 1) (events_of handled.Stepped (machine_of guest memory))
interrupt_part guest new memory left hosted running some step =
    step_made (machine_of guest memory) (machine_of new memory) left hosted.placed.orderly.entries some running step

-- an entry of the hart that the host makes nothing after
pub entered_part : (guest same new : Guest) (memory changed : List ℕ) (left taken : ℕ) → IsHosted guest memory → same ≡ guest → 0 < taken → taken ≤ left
    → NeedNoFill taken (machine_of same memory) → machine_of new changed ≡ run (machine_of same memory) taken
    → Made (machine_of guest memory) left (machine_of new changed) (left - taken) (events (machine_of guest memory) taken)
entered_part guest same new memory changed left taken hosted is some few need ran =
    run_made (machine_of guest memory) (machine_of new changed) taken left hosted.placed.orderly.entries some few (rw is at need) (rw is at ran)

-- how many steps are left after it
pub entered_counts : (guest same new : Guest) (left taken : ℕ) → same ≡ guest → taken ≤ left → new.steps ≡ same.steps + taken → CountsLeft guest left new (left - taken)
entered_counts guest same new left taken is few made =
    let before : same.steps ≡ guest.steps = ap (λ guest. guest.steps) is in
    record {
      within = omega arith;
      forward = omega (arith, before, made);
      made = omega (arith, few, before, made);
      others = λ _. omega (arith, few, before, made);
    }

-- and one after which it makes the next step, or a fill
pub handed_part : (guest same between new : Guest) (memory changed last : List ℕ) (left taken : ℕ) (result : Handled) → IsHosted guest memory → same ≡ guest
    → taken < left → NeedNoFill taken (machine_of same memory) → machine_of between changed ≡ run (machine_of same memory) taken → between.status ≡ Running
    → (result ≢ handled.Retry → MakesStep (machine_of between changed) (machine_of new last))
    → (result ≡ handled.Retry → Fills (machine_of between changed) (machine_of new last))
    → Made (machine_of guest memory) left (machine_of new last) (left - taken - used_by result)
    (events (machine_of guest memory) taken ++ events_of result (machine_of between changed))
handed_part guest same between new memory changed last left taken result hosted is some need ran running steps fills =
    exit_made (machine_of guest memory) (machine_of between changed) (machine_of new last) taken left result hosted.placed.orderly.entries some
    (rw is at need) (rw is at ran) running steps fills

-- what the clock sets is as the clock sets it
pub handed_current : (between new : Guest) (changed last : List ℕ) (result : Handled) → with_pending_lines (platform_of between) ≡ platform_of between
    → (result ≢ handled.Retry → MakesStep (machine_of between changed) (machine_of new last))
    → (result ≡ handled.Retry → Fills (machine_of between changed) (machine_of new last)) → with_pending_lines (platform_of new) ≡ platform_of new
handed_current between new changed last handled.Stepped e steps fills = after_step (machine_of between changed) (machine_of new last) e (steps (λ e. cc))
handed_current between new changed last (handled.Trapped into interrupt) e steps fills = after_step (machine_of between changed) (machine_of new last) e (steps (λ e. cc))
handed_current between new changed last handled.Retry e steps fills = after_fill (machine_of between changed) (machine_of new last) e (fills refl)
handed_current between new changed last handled.Waits e steps fills = after_step (machine_of between changed) (machine_of new last) e (steps (λ e. cc))
handed_current between new changed last handled.Stopped e steps fills = after_step (machine_of between changed) (machine_of new last) e (steps (λ e. cc))

-- the account of an entry after which the host makes nothing
pub entered_account : (guest same new : Guest) (memory changed : List ℕ) (left taken : ℕ) (old counts : Counts) → 0 < left → same ≡ guest
    → Made (machine_of guest memory) left (machine_of new changed) (left - taken) (events (machine_of guest memory) taken)
    → IsAccounted taken (trace_of (events (machine_of same memory) taken)) old counts → new.steps ≡ same.steps + taken
    → (AreCalm (machine_of guest memory) left → left ≤ taken) → AccountedTo (machine_of guest memory) left (machine_of new changed) (left - taken) old counts
entered_account guest same new memory changed left taken old counts some is made account steps all =
    let m = machine_of guest memory in
    let within = plain_within m taken in
    let before = ap (λ (guest : Guest). guest.steps) is in
    accounted_part m (machine_of new changed) left (left - taken) (events m taken) old counts some made (record {
      entries_grow = omega (arith, account.entries);
      entries_most = omega (arith, account.entries);
      none = λ stayed. absurd (omega (arith, account.entries, stayed));
      taken_least = omega (arith, within, account.taken);
      taken_most = omega (arith, before, steps, account.taken);
      trace = rw is at account.trace;
    }) (λ calm. (omega (arith, all calm), account.entries))

-- and of one after which it makes the next step, or a fill
pub handed_account : (guest same between new : Guest) (memory changed last : List ℕ) (left taken : ℕ) (result : Handled) (old counts : Counts) → same ≡ guest
    → Made (machine_of guest memory) left (machine_of new last) (left - taken - used_by result)
    (events (machine_of guest memory) taken ++ events_of result (machine_of between changed))
    → IsAccounted taken (trace_of (events (machine_of same memory) taken)) old counts → IsQuiet (machine_of between changed)
    → same.steps + taken ≤ new.steps → taken < left → machine_of between changed ≡ run (machine_of same memory) taken
    → AccountedTo (machine_of guest memory) left (machine_of new last) (left - taken - used_by result) old counts
handed_account guest same between new memory changed last left taken result old counts is made account quiet steps some ran =
    let m = machine_of guest memory in
    let after = machine_of between changed in
    let within = exit_plain m taken after result quiet in
    let before = ap (λ (guest : Guest). guest.steps) is in
    accounted_part m (machine_of new last) left (left - taken - used_by result) (events m taken ++ events_of result after) old counts (omega (arith, some)) made (record {
      entries_grow = omega (arith, account.entries);
      entries_most = omega (arith, account.entries);
      none = λ stayed. absurd (omega (arith, account.entries, stayed));
      taken_least = omega (arith, within, account.taken);
      taken_most = omega (arith, before, steps, account.taken);
      trace = exit_trace m taken old.trace counts.trace after result (rw is at account.trace) quiet;
    }) (λ calm. absurd (no_calm_exit m after left taken calm some (rw is at ran) quiet))
