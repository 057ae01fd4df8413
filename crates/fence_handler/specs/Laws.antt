-- What a fence names (Privileged Architecture 20211203, 8.3.2, but where another section is named).
use Rattle.std.specs.Prelude.{ℕ, ◌≡◌, ◌≢◌, ◌/◌, ◌%◌, ◌^◌, Some, None}
use Rattle.arch_defs.specs.declared.registers.Regs.{Regs}
use Rattle.arch_defs.specs.Registers.{read}
use Rattle.op_defs.specs.declared.ops.Op.TheVariants as op
use Rattle.op_defs.specs.Meaning.{fence_named, first_fence_named, meaning}
use Rattle.fence_handler.specs.Requests.{fences, fences_first, fences_nested}

-- the fence that it makes
abbrev pub InstructionMakesFence : Type 0
InstructionMakesFence = (rs1 rs2 : ℕ) (regs : Regs)
    → meaning (op.HfenceGvma rs1 rs2) regs ≡ fences (fence_named rs1 rs2 regs)

-- the low 7 bits of rs2 are the VMID that it names, and rs2 as x0 names none
abbrev pub FenceNamesVmid : Type 0
FenceNamesVmid = (rs1 rs2 : ℕ) (regs : Regs) → rs2 ≢ 0
    → (fence_named rs1 rs2 regs).vmid ≡ Some (read regs rs2 % 2 ^ 7)

abbrev pub FenceNamesNoVmid : Type 0
FenceNamesNoVmid = (rs1 : ℕ) (regs : Regs) → (fence_named rs1 0 regs).vmid ≡ None

-- rs1 has a guest physical address shifted right by 2: the fence names the page of this address, and rs1 as
-- x0 names none
abbrev pub FenceNamesPage : Type 0
FenceNamesPage = (rs1 rs2 address : ℕ) (regs : Regs) → rs1 ≢ 0 → read regs rs1 ≡ address / 2 ^ 2
    → (fence_named rs1 rs2 regs).page ≡ Some (address / 4096)

abbrev pub FenceNamesNoPage : Type 0
FenceNamesNoPage = (rs2 : ℕ) (regs : Regs) → (fence_named 0 rs2 regs).page ≡ None

-- SFENCE.VMA and HFENCE.VVMA make the same fence: the low 16 bits of rs2 are the ASID that it names, in the
-- place of a VMID, and rs2 as x0 names none (4.2.1, 8.3.1)
abbrev pub FirstInstructionsMakeFence : Type 0
FirstInstructionsMakeFence = (rs1 rs2 : ℕ) (regs : Regs)
    → (meaning (op.SfenceVma rs1 rs2) regs ≡ fences_first (first_fence_named rs1 rs2 regs))
    × (meaning (op.HfenceVvma rs1 rs2) regs ≡ fences_nested (first_fence_named rs1 rs2 regs))

abbrev pub FirstFenceNamesAsid : Type 0
FirstFenceNamesAsid = (rs1 rs2 : ℕ) (regs : Regs) → rs2 ≢ 0
    → (first_fence_named rs1 rs2 regs).vmid ≡ Some (read regs rs2 % 2 ^ 16)

abbrev pub FirstFenceNamesNoAsid : Type 0
FirstFenceNamesNoAsid = (rs1 : ℕ) (regs : Regs) → (first_fence_named rs1 0 regs).vmid ≡ None

-- rs1 has a virtual address: it names the page of this address, and rs1 as x0 names none
abbrev pub FirstFenceNamesPage : Type 0
FirstFenceNamesPage = (rs1 rs2 : ℕ) (regs : Regs) → rs1 ≢ 0
    → (first_fence_named rs1 rs2 regs).page ≡ Some (read regs rs1 / 4096)

abbrev pub FirstFenceNamesNoPage : Type 0
FirstFenceNamesNoPage = (rs2 : ℕ) (regs : Regs) → (first_fence_named 0 rs2 regs).page ≡ None
