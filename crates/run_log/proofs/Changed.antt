-- Registers that differ, one by one.
use Rattle.std.proofs.Common.{arith, ◌≡◌, ap, ◌∙◌, ℕ, suc, ◌+◌, ◌-◌, ◌<◌, ◌≤◌, true, false, cond, [], ◌∷◌, filter}
use Rattle.std.specs.List.{range_with_len}
use Rattle.arch_defs.specs.declared.registers.Regs.{Regs}
use Rattle.run_log.specs.Steps.{changed_from, is_changed}

-- none behind the last register
pub changed_none : (before after : Regs) (from : ℕ) → 32 ≤ from → changed_from before after from ≡ []
unfolding changed_from
changed_none before after from past =
    let none : 32 - from ≡ 0 = omega arith in ap (λ n. filter (is_changed before after) (range_with_len from n)) none

more : (before after : Regs) (from : ℕ) → from < 32
    → changed_from before after from ≡ cond (is_changed before after from) (from ∷ changed_from before after (from + 1)) (changed_from before after (from + 1))
unfolding changed_from
more before after from within =
    let some : 32 - from ≡ suc (32 - (from + 1)) = omega arith in
    ap (λ n. filter (is_changed before after) (range_with_len from n)) some

-- a register that differs is the first, and one that does not is passed over
pub changed_here : (before after : Regs) (from : ℕ) → from < 32 → is_changed before after from ≡ true
    → changed_from before after from ≡ from ∷ changed_from before after (from + 1)
changed_here before after from within differs =
    more before after from within ∙ ap (λ b. cond b (from ∷ changed_from before after (from + 1)) (changed_from before after (from + 1))) differs

pub changed_later : (before after : Regs) (from : ℕ) → from < 32 → is_changed before after from ≡ false
    → changed_from before after from ≡ changed_from before after (from + 1)
changed_later before after from within same =
    more before after from within ∙ ap (λ b. cond b (from ∷ changed_from before after (from + 1)) (changed_from before after (from + 1))) same

pub ruleset changed_rules = (changed_none, changed_here, changed_later)
