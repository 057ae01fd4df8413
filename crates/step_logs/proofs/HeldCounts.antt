-- How many translations are cached before a fence drops some.
use Rattle.std.proofs.Common.{◌≡◌, ◌∙◌, ◌⊎◌, inl, inr, refl, sym, ap, ℕ, List, length, Bool, true, false, Option, Some, None}
use Rattle.arch_defs.specs.declared.cached.Fence.{Fence}
use Rattle.arch_defs.specs.declared.first.FirstEntry.{FirstEntry}
use Rattle.arch_defs.specs.declared.registers.Virtual.{Virtual}
use Rattle.arch_defs.specs.FirstEntries.{all_filled}
use Rattle.arch_defs.specs.Interrupts.{due}
use Rattle.log_lines.specs.declared.lines.FenceOp.{FenceOp}
use Rattle.machine_defs.specs.Machine.{Machine}
use Rattle.machine_defs.specs.Tries.{found_by_outcome, found_by_try, found_with_code, stages_of, with_found}
use Rattle.run_log.specs.Fences.{second_count}
use Rattle.run_log.specs.Seen.{step_outcome, step_outcome_with}
use Rattle.step_lines.specs.Acts.{act_in}
use Rattle.step_lines.specs.declared.acts.Act.{Act}
use Rattle.step_lines.specs.declared.acts.Act.TheVariants.{Fences, Other}
use Rattle.step_lines.specs.declared.fences.Held.{Held}
use Rattle.step_logs.specs.Tries.{held_of, needs_word}

abbrev held : ℕ → ℕ → Held
held first second = record { first = first; second = second }

-- where no interrupt is due
pub held_with_found : (m : Machine) (virt : Virtual) (first found items : List FirstEntry) (second : ℕ)
    → due m.platform.virt.csrs m.platform.virt.mode ≡ None → virt ≡ m.platform.virt → found ≡ found_by_try (stages_of m) m
    → first ≡ all_filled virt.first found → items ≡ first → second ≡ second_count m → held (length items) second ≡ held_of (with_found (stages_of m) m)
unfolding found_by_try
held_with_found m virt first found items second none same finds fills shown many =
    let found_is : found ≡ found_by_outcome (stages_of m) m = finds ∙ ap (found_with_code (stages_of m) m) none in
    let filled : first ≡ all_filled m.platform.virt.first (found_by_outcome (stages_of m) m) =
    fills ∙ ap (λ (v : Virtual). all_filled v.first found) same ∙ ap (all_filled m.platform.virt.first) found_is in
    ap (λ (n : ℕ). held n second) (ap (λ (l : List FirstEntry). length l) (shown ∙ filled)) ∙ ap (held _) many

-- a fence is not an interrupt
no_fence : (m : Machine) (code : Option ℕ) (fence : FenceOp) (named : Fence) → Fences fence named ≡ act_in (step_outcome_with m code) → code ≡ None
no_fence m (Some code) fence named is = absurd cc
no_fence m None fence named is = refl

pub fences_uninterrupted : (m : Machine) (act : Act) (fence : FenceOp) (named : Fence) → act ≡ Fences fence named
    → (act ≡ Other) ⊎ (act ≡ act_in (step_outcome m)) → due m.platform.virt.csrs m.platform.virt.mode ≡ None
unfolding step_outcome
fences_uninterrupted m act fence named is (inl other) = absurd cc
fences_uninterrupted m act fence named is (inr acts) = no_fence m (due m.platform.virt.csrs m.platform.virt.mode) fence named (sym is ∙ acts)
