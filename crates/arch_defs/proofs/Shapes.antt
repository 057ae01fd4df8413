-- What holds of each shape of a table.
use Rattle.std.proofs.Common.{◌≡◌, ℕ, ◌/◌, ◌≤◌, arith}
use Rattle.arch_defs.specs.declared.walks.Shape.{Shape}
use Rattle.arch_defs.specs.declared.walks.Shape.TheVariants.{Sv39, Sv48, Sv39x4, Sv48x4}
use Rattle.arch_defs.specs.Walk.{is_canonical, levels, most_levels}

pub few_levels : (shape : Shape) → levels shape ≤ most_levels
few_levels Sv39 = omega arith
few_levels Sv48 = omega arith
few_levels Sv39x4 = omega arith
few_levels Sv48x4 = omega arith

-- whether an address is translated depends on its page
pub canonical_same : (shape : Shape) (a b : ℕ) → a / 4096 ≡ b / 4096 → is_canonical shape a ≡ is_canonical shape b
canonical_same Sv39 a b same = grind arith
canonical_same Sv48 a b same = grind arith
canonical_same Sv39x4 a b same = grind arith
canonical_same Sv48x4 a b same = grind arith
