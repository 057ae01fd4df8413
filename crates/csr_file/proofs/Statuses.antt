-- The numbers of statuses, interrupts and other registers under the masks of their writable bits: of what a write takes
-- from a value, and of what they show.
use mir.Val.{bool_byte}
use Rattle.std.specs.Prelude.{bit_and, Bool, true, false}
use Rattle.std.proofs.Common.{◌≡◌, ℕ, ◌+◌, ◌-◌, ◌*◌, ◌^◌, ◌<◌, arith}
use Rattle.std.proofs.lemmas.Nat.{and-not, and_comm, and_mask}
use Rattle.arch_defs.specs.Bits.{bit_number}
use Rattle.arch_defs.specs.declared.registers.SupervisorStatus.{SupervisorStatus}
use Rattle.arch_defs.specs.declared.registers.HypervisorStatus.{HypervisorStatus}
use Rattle.arch_defs.specs.declared.registers.Interrupts.{Interrupts}
use Rattle.arch_defs.specs.CsrBits.{sstatus_bits, sstatus_of, hstatus_bits, hstatus_of, sip_bits, supervisor_interrupts, hip_bits, virtual_interrupts, tvec_bits, epc_bits, hedeleg_bits}
use Rattle.csr_file.proofs.Masks.{masked, under, flag}

-- a flag's number, moved to its place
pub flag_at : (place : ℕ) (flag : Bool) → bool_byte flag * 2 ^ place ≡ bit_number place flag
flag_at place true = omega arith
flag_at place false = omega arith

pub status_taken : (v : ℕ) → bit_and v 0xC0122 + 2 * 2 ^ 32 ≡ sstatus_bits (sstatus_of v)
unfolding sstatus_bits sstatus_of masked
status_taken v = omega (arith, under 20 0xC0122 v (omega arith), flag 1 v, flag 5 v, flag 8 v, flag 18 v, flag 19 v)

pub status_kept : (s : SupervisorStatus) → bit_and (sstatus_bits s) 0xC0122 + 2 * 2 ^ 32 ≡ sstatus_bits s
unfolding sstatus_bits
status_kept s = grind arith

pub hstatus_taken : (v : ℕ) → bit_and v 0x7003C0 + 2 * 2 ^ 32 ≡ hstatus_bits (hstatus_of v)
unfolding hstatus_bits hstatus_of masked
hstatus_taken v =
    omega (arith, under 23 0x7003C0 v (omega arith), flag 6 v, flag 7 v, flag 8 v, flag 9 v, flag 20 v, flag 21 v, flag 22 v)

hstatus_flags : (gva spv spvp hu vtvm vtw vtsr : Bool)
    → bit_and (hstatus_bits (record { gva = gva; spv = spv; spvp = spvp; hu = hu; vtvm = vtvm; vtw = vtw; vtsr = vtsr })) 0x7003C0 + 2 * 2 ^ 32
    ≡ hstatus_bits (record { gva = gva; spv = spv; spvp = spvp; hu = hu; vtvm = vtvm; vtw = vtw; vtsr = vtsr })
unfolding hstatus_bits
hstatus_flags true true spvp hu vtvm vtw vtsr = grind arith
hstatus_flags true false spvp hu vtvm vtw vtsr = grind arith
hstatus_flags false true spvp hu vtvm vtw vtsr = grind arith
hstatus_flags false false spvp hu vtvm vtw vtsr = grind arith

pub hstatus_kept : (s : HypervisorStatus) → bit_and (hstatus_bits s) 0x7003C0 + 2 * 2 ^ 32 ≡ hstatus_bits s
unfolding hstatus_bits
hstatus_kept s = hstatus_flags s.gva s.spv s.spvp s.hu s.vtvm s.vtw s.vtsr

pub supervisor_taken : (v : ℕ) → bit_and v 0x222 ≡ sip_bits (supervisor_interrupts v)
unfolding sip_bits supervisor_interrupts masked
supervisor_taken v = omega (arith, under 10 0x222 v (omega arith), flag 1 v, flag 5 v, flag 9 v)

pub supervisor_kept : (s : Interrupts) → bit_and (sip_bits s) 0x222 ≡ sip_bits s
unfolding sip_bits
supervisor_kept s = grind arith

pub virtual_taken : (v : ℕ) → bit_and v 0x444 ≡ hip_bits (virtual_interrupts v)
unfolding hip_bits virtual_interrupts masked
virtual_taken v = omega (arith, under 11 0x444 v (omega arith), flag 2 v, flag 6 v, flag 10 v)

pub virtual_kept : (s : Interrupts) → bit_and (hip_bits s) 0x444 ≡ hip_bits s
unfolding hip_bits
virtual_kept s = grind arith

-- a value without bit 1, and without bits 1:0
pub tvec_under : (v : ℕ) → v < 2 ^ 64 → bit_and v 0xFFFFFFFFFFFFFFFD ≡ tvec_bits v
unfolding tvec_bits masked
tvec_under v h = omega (arith, and-not 64 2 v (omega arith) h, and_comm v 0xFFFFFFFFFFFFFFFD, and_comm v 2, under 2 2 v (omega arith))

pub epc_under : (v : ℕ) → v < 2 ^ 64 → bit_and v 0xFFFFFFFFFFFFFFFC ≡ epc_bits v
unfolding epc_bits masked
epc_under v h = omega (arith, and-not 64 3 v (omega arith) h, and_comm v 0xFFFFFFFFFFFFFFFC, and_comm v 3, under 2 3 v (omega arith))

pub hedeleg_under : (v : ℕ) → bit_and v 0xB1FF ≡ hedeleg_bits v
unfolding hedeleg_bits masked
hedeleg_under v = omega (arith, under 16 0xB1FF v (omega arith))

pub all_under : (v : ℕ) → v < 2 ^ 64 → bit_and v (2 ^ 64 - 1) ≡ v
all_under v h = omega (arith, and_mask v 64)
