-- When a wait for an interrupt ends (own, within Privileged Architecture 20211203, 3.3.3 and 4.1.3).
use Rattle.std.specs.Prelude.{ℕ, ◌^◌, Bool, Option, Some, None, min, nat_lt, if◌then◌else◌}
use Rattle.arch_defs.specs.declared.registers.Interrupts.{Interrupts}

-- the moment of an interrupt, if it is enabled
abbrev pub enabled : Bool → Option ℕ → Option ℕ
enabled enable moment = if enable then moment else None

-- a moment, if a wait may end at it: one below 2^62
abbrev pub coming : Option ℕ → Option ℕ
coming None = None
coming (Some moment) = if nat_lt moment (2 ^ 62) then Some moment else None

-- the earlier of two moments, each of which there may not be
abbrev pub earlier : Option ℕ → Option ℕ → Option ℕ
earlier None other = other
earlier (Some one) None = Some one
earlier (Some one) (Some other) = Some (min one other)

-- the wake moment of a WFI at which no enabled interrupt is pending: the earlier of the timer's moment, where
-- sie enables the timer interrupt, and the first unread input's, where sie enables the external interrupt
abbrev pub wake_moment : Interrupts → ℕ → Option ℕ → Option ℕ
wake_moment sie timer input =
    earlier (coming (enabled sie.timer (Some timer))) (coming (enabled sie.external input))
