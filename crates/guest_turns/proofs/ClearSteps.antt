-- Steps at which no bit of sip or hip is set: the hart makes them all in one entry.
use Rattle.std.specs.Prelude.{nat_le}
use Rattle.std.proofs.Common.{◌≡◌, ℕ, zero, suc, ◌+◌, ◌<◌, ◌≤◌, Bool, false, Option, refl, ap, sym, subst, arith, ◌∙◌}
use Rattle.guest_settings.specs.declared.statuses.Status.{Status}
use Rattle.guest_settings.specs.declared.statuses.Status.TheVariants as status
use Rattle.arch_defs.specs.declared.cached.Fence.{Fence}
use Rattle.arch_defs.specs.declared.levels.Level.TheVariants as level
use Rattle.arch_defs.specs.declared.registers.Interrupts.{Interrupts}
use Rattle.arch_defs.specs.Inputs.{has_input}
use Rattle.arch_defs.specs.Registers.{clear_interrupts}
use Rattle.arch_defs.specs.Traps.{is_virtual}
use Rattle.machine_defs.specs.Fills.{most_fills, ready}
use Rattle.machine_defs.specs.Machine.{Machine, Tried, with_pending_lines}
use Rattle.machine_defs.specs.Runs.{event_in, left_by, plain_count, run, step, stepped}
use Rattle.machine_defs.specs.Tries.{try}
use Rattle.instruction_laws.proofs.TryEnds.{Calls, Fences, Halts, Makes, Passes, Serves, Takes}
use Rattle.trap_delegation.proofs.Due.{nothing_pending}
use Rattle.guest_exit.specs.HartEntry.{Lasts}
use Rattle.hosted_steps.specs.HartSteps.{is_hosts}
use Rattle.guest_exit.proofs.Entries.{run_further}
use Rattle.hosted_steps.proofs.Interrupts.{none_pending_waits}
use Rattle.guest_exit.proofs.SomeEnds.{SomeEnd, some_end}
use Rattle.guest_turns.specs.Calm.{ClearStepsAreCalm, IsClear}
use Rattle.guest_turns.proofs.Current.{left_current}
use Rattle.guest_turns.proofs.Steps.{same_platform}
use Rattle.guest_turns.proofs.Tries.{try_step}

-- what the clock sets stays as the clock sets it
stepped_current : (m : Machine) (s : Status) → with_pending_lines m.platform ≡ m.platform → with_pending_lines (stepped m s).platform ≡ (stepped m s).platform
stepped_current m status.Running e =
    left_current (ready m) (try (ready m)) (subst (λ p. with_pending_lines p ≡ p) (sym (same_platform m (most_fills m))) e) (try_step (ready m))
stepped_current m status.Waiting e = e
stepped_current m status.Stopped e = e

run_current : (m : Machine) (n : ℕ) → with_pending_lines m.platform ≡ m.platform → with_pending_lines (run m n).platform ≡ (run m n).platform
unfolding run step
run_current m zero e = e
run_current m (suc n) e = run_current (stepped m m.platform.status) n (stepped_current m m.platform.status e)

-- the clock is that many steps further, and the moments are the same
record Elapsed (m after : Machine) (n : ℕ) : Type 0 where
  time : after.platform.clock.time ≡ m.platform.clock.time + n
  timer : after.platform.clock.timer ≡ m.platform.clock.timer
  inputs : after.platform.console.inputs ≡ m.platform.console.inputs

-- so it is after a plain step
plain_ticks : (m : Machine) (tried : Tried) (fence : Option Fence) → SomeEnd m tried fence → plain_count (event_in tried) ≡ 1 → Elapsed m (left_by m tried) 1
plain_ticks m tried fence (Takes first trap) plain = absurd (omega (arith, plain))
plain_ticks m tried fence (Makes first completion event any) plain = record { time = refl; timer = refl; inputs = refl }
plain_ticks m tried fence (Serves first rd value console leaves) plain = absurd (omega (arith, plain))
plain_ticks m tried fence (Calls first) plain = absurd (omega (arith, plain))
plain_ticks m tried fence (Passes first virt moment any) plain = absurd (omega (arith, plain))
plain_ticks m tried fence Halts plain = absurd (omega (arith, plain))
plain_ticks m tried fence (Fences first virt named any) plain = absurd (omega (arith, plain))

abbrev AreClear : Machine → ℕ → Type 0
AreClear m k = (i : ℕ) → i < k → IsClear (run m i)

elapsed : (m : Machine) (k : ℕ) → AreClear m k → (n : ℕ) → n ≤ k → Elapsed m (run m n) n
unfolding run
elapsed m k clear zero within = record { time = omega arith; timer = refl; inputs = refl }
elapsed m k clear (suc n) within =
    let before = elapsed m k clear n (omega (arith, within)) in
    let now = (clear n (omega (arith, within))).calm in
    let one : n + 1 ≡ suc n = omega arith in
    let ticks = plain_ticks (run m n) (try (run m n)) _ (some_end (run m n)) now.plain in
    subst (λ i. Elapsed m (run m i) i) one (subst (λ after. Elapsed m after (n + 1)) (sym (run_further m (run m n) n refl now.running now.no_fill)) (record {
      time = omega (arith, before.time, ticks.time);
      timer = ticks.timer ∙ before.timer;
      inputs = ticks.inputs ∙ before.inputs;
    }))

-- while no bit of sip is set, neither the timer nor an input has come
record NothingCame (timer : ℕ → Bool) (input : ℕ → Bool) (time : ℕ) : Type 0 where
  timer_ahead : timer time ≡ false
  input_ahead : input time ≡ false

none_came : (m : Machine) → with_pending_lines m.platform ≡ m.platform → m.platform.virt.csrs.sip ≡ clear_interrupts
    → NothingCame (nat_le m.platform.clock.timer) (has_input m.platform.console.inputs) m.platform.clock.time
none_came m current sip = record {
  timer_ahead = ap (λ p. p.virt.csrs.sip.timer) current ∙ ap (λ (bits : Interrupts). bits.timer) sip;
  input_ahead = ap (λ p. p.virt.csrs.sip.external) current ∙ ap (λ (bits : Interrupts). bits.external) sip;
}

none_comes : (m : Machine) (k n : ℕ) → with_pending_lines m.platform ≡ m.platform → AreClear m k → n < k
    → NothingCame (nat_le m.platform.clock.timer) (has_input m.platform.console.inputs) (m.platform.clock.time + n)
none_comes m k n current clear within =
    let there = elapsed m k clear n (omega (arith, within)) in
    let now = none_came (run m n) (run_current m n current) (clear n within).sip in
    record {
      timer_ahead = rw (there.timer, there.time) at now.timer_ahead;
      input_ahead = rw (there.inputs, there.time) at now.input_ahead;
    }

-- so an entry may last for all of them
clear_lasts : (m : Machine) (k : ℕ) → with_pending_lines m.platform ≡ m.platform → AreClear m k → 0 < k → Lasts m.platform k
unfolding run
clear_lasts m k current clear some =
    let now = clear 0 some in
    let virt = m.platform.virt in
    let first = none_came m current now.sip in
    record {
      current = current;
      own = ap (λ code. is_hosts code (is_virtual virt.mode) virt.csrs.hideleg) (nothing_pending virt.csrs virt.mode now.sip now.hip);
      interrupts = λ more. none_pending_waits virt.csrs now.hip;
      timer = λ n within. (none_comes m k n current clear within).timer_ahead ∙ sym first.timer_ahead;
      inputs = λ n within. (none_comes m k n current clear within).input_ahead ∙ sym first.input_ahead;
    }

pub clear_are_calm : ClearStepsAreCalm
clear_are_calm m k current clear = record { each = λ i within. (clear i within).calm; lasts = clear_lasts m k current clear }
