-- Moments of the clock.
use Rattle.std.specs.Prelude.{nat_le, nat_lt}
use Rattle.std.specs.Option.{ForSome}
use Rattle.std.proofs.Common.{cond, ◌≡◌, ℕ, ◌+◌, ◌-◌, ◌<◌, ◌≤◌, Bool, true, false, Some, None, refl, arith}
use Rattle.arch_defs.specs.Clocks.{Times, next_event}
use Rattle.arch_defs.specs.Inputs.{has_come}
use Rattle.guest_exit.specs.HartEntry.{KeepsCome}

-- where the timer has not come, or has, so it is with its moment, if that is ahead
ahead_by : (timer time : ℕ) (ahead : Bool) → nat_lt time timer ≡ ahead → (n : ℕ)
    → nat_le timer (time + n) ≡ nat_le timer time
    → has_come (cond ahead (Some timer) None) (time + n) ≡ has_come (cond ahead (Some timer) None) time
ahead_by timer time true e n stays = stays
ahead_by timer time false e n stays = refl

pub stays_by_timer : (times : Times) (limit : ℕ) → KeepsCome (nat_le times.timer) times.time limit → KeepsCome (has_come (next_event times)) times.time limit
stays_by_timer times limit stays n within = ahead_by times.timer times.time (nat_lt times.time times.timer) refl n (stays n within)

-- steps that all begin before the timer's moment, where that is ahead, do not go past it
not_past : (timer time taken : ℕ) (within : Bool) → nat_le (time + taken) timer ≡ within → nat_lt time timer ≡ true
    → ((n : ℕ) → n < taken → nat_le timer (time + n) ≡ nat_le timer time) → time + taken ≤ timer
not_past timer time taken true e ahead stays = grind (arith, e)
not_past timer time taken false e ahead stays =
    let some : timer - time < taken = grind (arith, e, ahead) in
    let come = stays (timer - time) some in
    absurd (grind (arith, come, e, ahead))

before_by : (timer time taken : ℕ) (ahead : Bool) → nat_lt time timer ≡ ahead
    → ((n : ℕ) → n < taken → nat_le timer (time + n) ≡ nat_le timer time)
    → ForSome (cond ahead (Some timer) None) (λ moment. time + taken ≤ moment)
before_by timer time taken true e stays = λ moment is.
    let same : timer ≡ moment = cc in rw (← same) (not_past timer time taken (nat_le (time + taken) timer) refl e stays)
before_by timer time taken false e stays = λ moment is. absurd (cc)

pub before_timer : (times : Times) (limit taken : ℕ) → KeepsCome (nat_le times.timer) times.time limit → taken ≤ limit
    → ForSome (next_event times) (λ moment. times.time + taken ≤ moment)
before_timer times limit taken stays within =
    before_by times.timer times.time taken (nat_lt times.time times.timer) refl
    (λ n h. let here : n < limit = omega (arith, h, within) in stays n here)
