-- Which exceptions the hart takes into VS.
use Rattle.std.specs.Prelude.{nat_lt, ◌==◌}
use Rattle.std.proofs.Common.{◌≡◌, ℕ, true, false, refl, ap, arith}
use Rattle.arch_defs.specs.declared.modes.TheConstants.{VIRTUAL_INSTRUCTION}
use Rattle.arch_defs.specs.Bits.{bit}
use Rattle.arch_defs.specs.CsrBits.{hedeleg_bits}
use Rattle.world_switch.specs.Hosting.{own_exceptions}
use Rattle.hosted_steps.specs.ExitCases.{is_guest_page_code}

-- an exception that the hart takes into VS: with V = 0 always, with V = 1 where the guest delegates it. It is none of those for
-- which the host does more than to raise it
pub record IsOwn (cause : ℕ) : Type 0 where
  pub small : nat_lt cause 64 ≡ true
  pub own : bit cause own_exceptions ≡ true
  pub kept : (hedeleg : ℕ) → bit cause (hedeleg_bits hedeleg) ≡ bit cause hedeleg
  pub other : (cause == VIRTUAL_INSTRUCTION) ≡ false
  pub fault : is_guest_page_code cause ≡ false

kept_0 : (h : ℕ) → bit 0 (hedeleg_bits h) ≡ bit 0 h
unfolding hedeleg_bits
kept_0 h = ap (λ n. n == 1) (omega arith)

kept_2 : (h : ℕ) → bit 2 (hedeleg_bits h) ≡ bit 2 h
unfolding hedeleg_bits
kept_2 h = ap (λ n. n == 1) (omega arith)

kept_3 : (h : ℕ) → bit 3 (hedeleg_bits h) ≡ bit 3 h
unfolding hedeleg_bits
kept_3 h = ap (λ n. n == 1) (omega arith)

kept_4 : (h : ℕ) → bit 4 (hedeleg_bits h) ≡ bit 4 h
unfolding hedeleg_bits
kept_4 h = ap (λ n. n == 1) (omega arith)

kept_6 : (h : ℕ) → bit 6 (hedeleg_bits h) ≡ bit 6 h
unfolding hedeleg_bits
kept_6 h = ap (λ n. n == 1) (omega arith)

kept_8 : (h : ℕ) → bit 8 (hedeleg_bits h) ≡ bit 8 h
unfolding hedeleg_bits
kept_8 h = ap (λ n. n == 1) (omega arith)

kept_12 : (h : ℕ) → bit 12 (hedeleg_bits h) ≡ bit 12 h
unfolding hedeleg_bits
kept_12 h = ap (λ n. n == 1) (omega arith)

kept_13 : (h : ℕ) → bit 13 (hedeleg_bits h) ≡ bit 13 h
unfolding hedeleg_bits
kept_13 h = ap (λ n. n == 1) (omega arith)

kept_15 : (h : ℕ) → bit 15 (hedeleg_bits h) ≡ bit 15 h
unfolding hedeleg_bits
kept_15 h = ap (λ n. n == 1) (omega arith)

pub own_0 : IsOwn 0
own_0 = record { small = refl; own = refl; kept = kept_0; other = refl; fault = refl }

pub own_2 : IsOwn 2
own_2 = record { small = refl; own = refl; kept = kept_2; other = refl; fault = refl }

pub own_3 : IsOwn 3
own_3 = record { small = refl; own = refl; kept = kept_3; other = refl; fault = refl }

pub own_4 : IsOwn 4
own_4 = record { small = refl; own = refl; kept = kept_4; other = refl; fault = refl }

pub own_6 : IsOwn 6
own_6 = record { small = refl; own = refl; kept = kept_6; other = refl; fault = refl }

pub own_8 : IsOwn 8
own_8 = record { small = refl; own = refl; kept = kept_8; other = refl; fault = refl }

pub own_12 : IsOwn 12
own_12 = record { small = refl; own = refl; kept = kept_12; other = refl; fault = refl }

pub own_13 : IsOwn 13
own_13 = record { small = refl; own = refl; kept = kept_13; other = refl; fault = refl }

pub own_15 : IsOwn 15
own_15 = record { small = refl; own = refl; kept = kept_15; other = refl; fault = refl }

-- the exceptions that always go to HS
pub never_10 : (h : ℕ) → bit 10 (hedeleg_bits h) ≡ false
unfolding hedeleg_bits
never_10 h = ap (λ n. n == 1) {y = 0} (omega arith)

pub never_20 : (h : ℕ) → bit 20 (hedeleg_bits h) ≡ false
unfolding hedeleg_bits
never_20 h = ap (λ n. n == 1) {y = 0} (omega arith)

pub never_21 : (h : ℕ) → bit 21 (hedeleg_bits h) ≡ false
unfolding hedeleg_bits
never_21 h = ap (λ n. n == 1) {y = 0} (omega arith)

pub never_22 : (h : ℕ) → bit 22 (hedeleg_bits h) ≡ false
unfolding hedeleg_bits
never_22 h = ap (λ n. n == 1) {y = 0} (omega arith)

pub never_23 : (h : ℕ) → bit 23 (hedeleg_bits h) ≡ false
unfolding hedeleg_bits
never_23 h = ap (λ n. n == 1) {y = 0} (omega arith)
