-- What fences name.
use Rattle.std.proofs.Common.{◌≡◌, ◌≢◌, ℕ, ◌/◌, ◌%◌, ◌^◌, ◌==◌, ◌⊎◌, inl, inr, true, false, Some, refl, ap, ◌∙◌, arith}
use Rattle.std.proofs.lemmas.Bool.{cases_Bool, eqb-true}
use Rattle.arch_defs.specs.Registers.{read}
use Rattle.op_defs.specs.Meaning.{fence_operand, meaning}
use Rattle.fence_handler.specs.Laws.{FenceNamesNoPage, FenceNamesNoVmid, FenceNamesPage, FenceNamesVmid, FirstFenceNamesAsid, FirstFenceNamesNoAsid, FirstFenceNamesNoPage, FirstFenceNamesPage, FirstInstructionsMakeFence, InstructionMakesFence}

pub makes_fence : InstructionMakesFence
unfolding meaning
makes_fence rs1 rs2 regs = refl

named : (register value : ℕ) → register ≢ 0 → fence_operand register value ≡ Some value
named register value some = by (cases_Bool (register == 0))
  where
    by : ((register == 0) ≡ true) ⊎ ((register == 0) ≡ false) → fence_operand register value ≡ Some value
    by (inl zero) = absurd (some (eqb-true register 0 zero))
    by (inr is) = rw is refl

pub names_vmid_of : FenceNamesVmid
names_vmid_of rs1 rs2 regs some = named rs2 (read regs rs2 % 2 ^ 7) some

pub names_no_vmid : FenceNamesNoVmid
names_no_vmid rs1 regs = refl

pub names_page_of : FenceNamesPage
names_page_of rs1 rs2 address regs some is = named rs1 (read regs rs1 / 2 ^ 10) some ∙ ap Some (by (read regs rs1) is)
  where
    by : (value : ℕ) → value ≡ address / 2 ^ 2 → value / 2 ^ 10 ≡ address / 4096
    by value is = omega (arith, is)

pub names_no_page : FenceNamesNoPage
names_no_page rs2 regs = refl

pub first_make_fence : FirstInstructionsMakeFence
unfolding meaning
first_make_fence rs1 rs2 regs = (refl, refl)

pub names_asid_of : FirstFenceNamesAsid
names_asid_of rs1 rs2 regs some = named rs2 (read regs rs2 % 2 ^ 16) some

pub names_no_asid : FirstFenceNamesNoAsid
names_no_asid rs1 regs = refl

pub names_first_page_of : FirstFenceNamesPage
names_first_page_of rs1 rs2 regs some = named rs1 (read regs rs1 / 2 ^ 12) some

pub names_no_first_page : FirstFenceNamesNoPage
names_no_first_page rs2 regs = refl
