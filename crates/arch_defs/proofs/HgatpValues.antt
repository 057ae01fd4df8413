-- Values of hgatp as numbers: a number that the register can hold is that of one root.
use Rattle.std.proofs.Common.{◌≡◌, ℕ, ◌==◌, refl, arith}
use Rattle.arch_defs.specs.declared.roots.GuestMode.TheVariants.{Sv39x4, Sv48x4}
use Rattle.arch_defs.specs.declared.roots.GuestRoot.{GuestRoot}
use Rattle.arch_defs.specs.declared.roots.GuestRoot.TheVariants.{Bare, Table}
use Rattle.arch_defs.specs.CsrBits.{guest_root_of, hgatp_bits}
use Rattle.arch_defs.specs.Roots.{is_root}

-- what a write leaves is what a write of that leaves
pub written_once : (root : GuestRoot) → hgatp_bits (guest_root_of (hgatp_bits root)) ≡ hgatp_bits root
unfolding guest_root_of hgatp_bits
written_once Bare = refl
written_once (Table Sv39x4 vmid ppn) = grind arith
written_once (Table Sv48x4 vmid ppn) = grind arith

-- two roots that can be held are the same exactly if their numbers are
pub same_number : (a b : ℕ) → hgatp_bits (guest_root_of a) ≡ a → hgatp_bits (guest_root_of b) ≡ b
    → is_root (guest_root_of a) (guest_root_of b) ≡ (a == b)
unfolding guest_root_of hgatp_bits
same_number a b held held' = grind arith
