-- The second register that a step changed.
use Rattle.std.proofs.Common.{arith, ◌≡◌, ◌∙◌, ◌+◌, ◌<◌, ◌≤◌, ◌⊎◌, inl, inr, refl, sym, ap, ℕ, zero, suc, List, [], ◌∷◌, Option, Some, None, Bool, true, false}
use Rattle.std.proofs.lemmas.Bool.{cases_lt}
use Rattle.arch_defs.specs.declared.registers.Regs.{Regs}
use Rattle.log_lines.specs.declared.steps.Written.{Written}
use Rattle.run_log.proofs.Changed.{changed_none, changed_here, changed_later}
use Rattle.run_log.specs.Steps.{changed_from, first_written, is_changed, second_written}

none : (after : Regs) (numbers : List ℕ) → None ≡ first_written after numbers → None ≡ second_written after numbers
none after [] is = refl
none after (n ∷ ns) is = absurd cc

same : (a b : Written) → Some a ≡ Some b → a ≡ b
same a b is = cc

module _ (before after : Regs) where
  pub none_behind : None ≡ first_written after (changed_from before after 0) → None ≡ second_written after (changed_from before after 0)
  none_behind is = none after (changed_from before after 0) is

  abbrev Behind : ℕ → Written → Type 0
  Behind from w = first_written after (changed_from before after (w.register + 1)) ≡ second_written after (changed_from before after from)

  here : (from : ℕ) (w : Written) → from < 32 → is_changed before after from ≡ true → Some w ≡ first_written after (changed_from before after from) → Behind from w
  here from w within differs first =
      let all = changed_here before after from within differs in
      let is : w.register ≡ from = ap (λ (w : Written). w.register) (same w _ (first ∙ ap (first_written after) all)) in
      ap (λ (n : ℕ). first_written after (changed_from before after (n + 1))) is ∙ sym (ap (second_written after) all)

  past : (from : ℕ) (w : Written) → 32 ≤ from → Some w ≡ first_written after (changed_from before after from) → Behind from w
  past from w out first = let never : Some w ≡ None = first ∙ ap (first_written after) (changed_none before after from out) in absurd cc

  abbrev Rest : ℕ → Written → Type 0
  Rest from w = Some w ≡ first_written after (changed_from before after from) → Behind from w

  by_change : (from : ℕ) (w : Written) (b : Bool) → from < 32 → is_changed before after from ≡ b → Rest (from + 1) w
      → Some w ≡ first_written after (changed_from before after from) → Behind from w
  by_change from w true within differs rest first = here from w within differs first
  by_change from w false within alike rest first =
      let all = changed_later before after from within alike in
      rest (first ∙ ap (first_written after) all) ∙ sym (ap (second_written after) all)

  by_place : (from : ℕ) (w : Written) → (from < 32) ⊎ (32 ≤ from) → Rest (from + 1) w
      → Some w ≡ first_written after (changed_from before after from) → Behind from w
  by_place from w (inl within) rest first = by_change from w (is_changed before after from) within refl rest first
  by_place from w (inr out) rest first = past from w out first

  from_on : (room from : ℕ) (w : Written) → 32 ≤ room + from → Some w ≡ first_written after (changed_from before after from) → Behind from w
  from_on zero from w few first = past from w (omega (arith, few)) first
  from_on (suc room) from w few first = by_place from w (cases_lt from 32) (λ first. from_on room (from + 1) w (omega (arith, few)) first) first

  pub behind_first : (w : Written) → Some w ≡ first_written after (changed_from before after 0)
      → first_written after (changed_from before after (w.register + 1)) ≡ second_written after (changed_from before after 0)
  behind_first w first = from_on 32 0 w (omega arith) first
