-- A machine's own uses.
use Rattle.std.proofs.Common.{◌≡◌, refl, ap, ℕ, Option, Some, None}
use Rattle.arch_defs.specs.Interrupts.{due}
use Rattle.arch_defs.specs.Memory.{ram_memory}
use Rattle.arch_defs.specs.Spaces.{front}
use Rattle.run_log.specs.Uses.{data_next, uses, uses_with}
use Rattle.cached_uses.specs.StepUses.{StepsUse, uses_unless_due}

pub steps_use : StepsUse
unfolding uses
steps_use m wanted is = by (due m.platform.virt.csrs m.platform.virt.mode) is
  where
    by : (code : Option ℕ) → (code ≡ None → wanted ≡ data_next m)
        → uses_unless_due m.platform.virt (front m.spaces) (ram_memory m.ram) wanted code ≡ uses_with m code
    by (Some code) is = refl
    by None is = ap (λ access. uses_unless_due m.platform.virt (front m.spaces) (ram_memory m.ram) access None) (is refl)
