-- The registers of interrupts that show or change only some of their bits.
use Rattle.std.specs.Prelude.{bit_and, ◌&&◌, Bool, true, false}
use Rattle.std.proofs.Common.{cond, ◌≡◌, ℕ, ◌+◌, arith}
use Rattle.arch_defs.specs.Bits.{bit, bit_number}
use Rattle.csr_file.proofs.Masks.{masked, under, flag}

-- vsie: hideleg's bits, and those of hie before
pub vsie_taken : (a b c p q r : Bool) (v : ℕ)
    → bit_and v (bit_number 1 a + bit_number 5 b + bit_number 9 c)
    ≡ bit_number 1 (a && cond a (bit 1 v) p) + bit_number 5 (b && cond b (bit 5 v) q) + bit_number 9 (c && cond c (bit 9 v) r)
unfolding masked
vsie_taken true true true p q r v = omega (arith, under 10 0x222 v (omega arith), flag 1 v, flag 5 v, flag 9 v)
vsie_taken true true false p q r v = omega (arith, under 10 0x022 v (omega arith), flag 1 v, flag 5 v, flag 9 v)
vsie_taken true false true p q r v = omega (arith, under 10 0x202 v (omega arith), flag 1 v, flag 5 v, flag 9 v)
vsie_taken true false false p q r v = omega (arith, under 10 0x002 v (omega arith), flag 1 v, flag 5 v, flag 9 v)
vsie_taken false true true p q r v = omega (arith, under 10 0x220 v (omega arith), flag 1 v, flag 5 v, flag 9 v)
vsie_taken false true false p q r v = omega (arith, under 10 0x020 v (omega arith), flag 1 v, flag 5 v, flag 9 v)
vsie_taken false false true p q r v = omega (arith, under 10 0x200 v (omega arith), flag 1 v, flag 5 v, flag 9 v)
vsie_taken false false false p q r v = omega (arith, under 10 0x000 v (omega arith), flag 1 v, flag 5 v, flag 9 v)

pub vsie_kept : (a b c p q r : Bool)
    → bit_and (bit_number 1 (a && p) + bit_number 5 (b && q) + bit_number 9 (c && r)) (bit_number 1 a + bit_number 5 b + bit_number 9 c)
    ≡ bit_number 1 (a && p) + bit_number 5 (b && q) + bit_number 9 (c && r)
vsie_kept true true c p q r = grind arith
vsie_kept true false c p q r = grind arith
vsie_kept false true c p q r = grind arith
vsie_kept false false c p q r = grind arith
