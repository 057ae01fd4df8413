-- sie as a number.
use Rattle.std.proofs.Common.{◌≡◌, Bool, true, false, refl, ap}
use Rattle.arch_defs.specs.declared.registers.Interrupts.{Interrupts}
use Rattle.arch_defs.specs.Bits.{bit}
use Rattle.arch_defs.specs.CsrBits.{sip_bits, supervisor_interrupts}

-- it reads back, in its bits 5 and 9 too
pub read_back : (s : Interrupts) → supervisor_interrupts (sip_bits s) ≡ s
unfolding supervisor_interrupts sip_bits
read_back s = by s.software s.timer s.external
  where
    by : (a b c : Bool) → supervisor_interrupts (sip_bits (record { software = a; timer = b; external = c })) ≡ record { software = a; timer = b; external = c }
    by true true true = refl
    by true true false = refl
    by true false true = refl
    by true false false = refl
    by false true true = refl
    by false true false = refl
    by false false true = refl
    by false false false = refl

pub timer_back : (s : Interrupts) → bit 5 (sip_bits s) ≡ s.timer
unfolding supervisor_interrupts
timer_back s = ap (λ (i : Interrupts). i.timer) (read_back s)

pub external_back : (s : Interrupts) → bit 9 (sip_bits s) ≡ s.external
unfolding supervisor_interrupts
external_back s = ap (λ (i : Interrupts). i.external) (read_back s)
