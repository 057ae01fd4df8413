-- What the roots show after a write.
use Rattle.std.specs.Prelude.{bit_and}
use Rattle.std.proofs.Common.{◌≡◌, ℕ, ◌+◌, ◌*◌, ◌/◌, ◌%◌, ◌^◌, ◌<◌, arith}
use Rattle.std.proofs.lemmas.Nat.{and_mask}
use Rattle.std.proofs.lemmas.Nat.Bits.{and_high}
use Rattle.arch_defs.specs.declared.roots.SupervisorRoot.{SupervisorRoot}
use Rattle.arch_defs.specs.Bits.{field}
use Rattle.arch_defs.specs.CsrBits.{satp_bits, supervisor_root_of, hgatp_bits, guest_root_of}
use Rattle.csr_file.specs.Laws.{root_after, guest_root_after}
use Rattle.csr_file.proofs.Masks.{in_blocks}

pub root_shown : (kept : SupervisorRoot) (v : ℕ) → v < 2 ^ 64
    → satp_bits (supervisor_root_of kept v) ≡ root_after (satp_bits kept) v
unfolding satp_bits supervisor_root_of
root_shown kept v h = grind arith

guest_under : (v : ℕ) → v < 2 ^ 64 → bit_and v 0xF007FFFFFFFFFFFC ≡ field 60 4 v * 2 ^ 60 + field 44 7 v * 2 ^ 44 + field 2 42 v * 2 ^ 2
guest_under v h =
    omega (
      arith,
      in_blocks 44 v 0xF007F 0xFFFFFFFFFFC (omega arith),
      in_blocks 16 (v / 2 ^ 44) 0xF 0x7F (omega arith),
      and_high (v % 2 ^ 44) 42 2,
      and_mask (v / 2 ^ 44 / 2 ^ 16) 4,
      and_mask (v / 2 ^ 44 % 2 ^ 16) 7,
    )

pub guest_root_shown : (v : ℕ) → v < 2 ^ 64 → hgatp_bits (guest_root_of v) ≡ guest_root_after v
unfolding hgatp_bits guest_root_of
guest_root_shown v h = grind (arith, guest_under v h)
