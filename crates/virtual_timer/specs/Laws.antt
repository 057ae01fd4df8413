-- Laws of waits.
use Rattle.std.specs.Prelude.{ℕ, ◌≡◌, ◌<◌, ◌≤◌, ◌^◌, true, Option, Some, None, ◌⊎◌}
use Rattle.arch_defs.specs.declared.registers.Interrupts.{Interrupts}
use Rattle.arch_defs.specs.Waits.{wake_moment}

-- at a moment below 2^62 the timer or the first unread input comes, and sie enables its interrupt
abbrev pub Wakes : Interrupts → ℕ → Option ℕ → ℕ → Type 0
Wakes sie timer input moment = (moment < 2 ^ 62)
    × (((sie.timer ≡ true) × (timer ≡ moment)) ⊎ ((sie.external ≡ true) × (input ≡ Some moment)))

-- the wake moment is one of these
abbrev pub WakeMomentWakes : Type 0
WakeMomentWakes = (sie : Interrupts) (timer : ℕ) (input : Option ℕ) (moment : ℕ)
    → wake_moment sie timer input ≡ Some moment → Wakes sie timer input moment

-- and the least of them
abbrev pub WakeMomentIsLeast : Type 0
WakeMomentIsLeast = (sie : Interrupts) (timer : ℕ) (input : Option ℕ) (moment other : ℕ)
    → wake_moment sie timer input ≡ Some moment → Wakes sie timer input other → moment ≤ other

-- where there is none, no moment is such
abbrev pub NothingWakesForGood : Type 0
NothingWakesForGood = (sie : Interrupts) (timer : ℕ) (input : Option ℕ) (other : ℕ)
    → wake_moment sie timer input ≡ None → ¬ Wakes sie timer input other
