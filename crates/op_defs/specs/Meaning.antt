-- What each instruction asks for, read off the registers (Unprivileged ISA 20191213, 2.4 to 2.8, 3, 5, 7, 8
-- and 9.1; for the hypervisor's fences and accesses Privileged Architecture 20211203, 8.3).
use Rattle.std.specs.Prelude.{ℕ, ◌-◌, ◌/◌, ◌%◌, ◌^◌, Option, Some, None, Bool, true, false, ◌==◌, nat_lt, int_lt, not, if◌then◌else◌}
use Rattle.arch_defs.specs.declared.cached.Fence.{Fence}
use Rattle.arch_defs.specs.declared.modes.TheConstants.{INSTRUCTION_MISALIGNED, BREAKPOINT}
use Rattle.arch_defs.specs.declared.registers.Regs.{Regs}
use Rattle.arch_defs.specs.declared.widths.Width.{Width}
use Rattle.arch_defs.specs.Bits.{add64}
use Rattle.arch_defs.specs.Registers.{next, read}
use Rattle.op_defs.specs.declared.ops.CsrOp.{CsrOp}
use Rattle.op_defs.specs.declared.ops.CsrOp.TheVariants as csr
use Rattle.op_defs.specs.declared.ops.CsrSource.{CsrSource}
use Rattle.op_defs.specs.declared.ops.CsrSource.TheVariants as source
use Rattle.op_defs.specs.declared.ops.Op.{Op}
use Rattle.op_defs.specs.declared.ops.Op.TheVariants as op
use Rattle.op_defs.specs.declared.ops.Test.{Test}
use Rattle.op_defs.specs.declared.ops.Test.TheVariants.{Eq, Ne, Lt, Ge, Ltu, Geu}
use Rattle.op_defs.specs.declared.ops.Effect.{Effect}
use Rattle.op_defs.specs.declared.ops.Effect.TheVariants.{Sets, Raises, Data, Calls, Privileged}
use Rattle.op_defs.specs.declared.ops.Privileged.TheVariants as privileged
use Rattle.op_defs.specs.declared.ops.Purpose.{Purpose}
use Rattle.op_defs.specs.declared.ops.Purpose.TheVariants.{Load, LoadCode, Store, Reserve, StoreReserved, Modify}
use Rattle.op_defs.specs.Arithmetic.{signed, alu, word_alu}

-- the address that a load, store or jump by register has
abbrev pub address_at : Regs → ℕ → ℕ → ℕ
address_at regs rs1 offset = add64 (read regs rs1) offset

-- the same with its lowest bit clear (2.5)
abbrev pub even : ℕ → ℕ
even address = address - address % 2

-- whether a branch is taken
abbrev pub is_branch_taken : Test → ℕ → ℕ → Bool
is_branch_taken Eq a b = a == b
is_branch_taken Ne a b = not (a == b)
is_branch_taken Lt a b = int_lt (signed a) (signed b)
is_branch_taken Ge a b = not (int_lt (signed a) (signed b))
is_branch_taken Ltu a b = nat_lt a b
is_branch_taken Geu a b = not (nat_lt a b)

-- a jump, which leaves the next pc in rd; a target that is not a multiple of 4 is an exception at the jump
-- (2.5)
abbrev pub jump : ℕ → ℕ → ℕ → Effect
jump rd next target = if target % 4 == 0 then Sets rd next target else Raises INSTRUCTION_MISALIGNED target

-- a branch that is taken or not; x0 stands for no register
abbrev pub branch : Bool → ℕ → ℕ → Effect
branch true next target = if target % 4 == 0 then Sets 0 0 target else Raises INSTRUCTION_MISALIGNED target
branch false next target = Sets 0 0 next

-- the operand of an instruction on a control and status register (9.1)
abbrev pub operand_of : CsrSource → Regs → ℕ
operand_of (source.Register rs1) regs = read regs rs1
operand_of (source.Immediate immediate) regs = immediate

-- whether it is x0, or an immediate of 0
abbrev pub is_none : CsrSource → Bool
is_none (source.Register rs1) = rs1 == 0
is_none (source.Immediate immediate) = immediate == 0

-- whether the register is written: CSRRS and CSRRC write nothing where the operand is none (9.1)
abbrev pub writes : CsrOp → CsrSource → Bool
writes csr.Write operand = true
writes csr.Set operand = not (is_none operand)
writes csr.Clear operand = not (is_none operand)

-- the operand of a fence: what a register has, if it is not x0 (Privileged Architecture 20211203, 8.3.2)
abbrev pub fence_operand : ℕ → ℕ → Option ℕ
fence_operand register value = if register == 0 then None else Some value

-- what HFENCE.GVMA names: a VMID by the low 7 bits of rs2, and a guest physical page by rs1, which has the
-- address shifted right by 2 (8.3.2)
abbrev pub fence_named : ℕ → ℕ → Regs → Fence
fence_named rs1 rs2 regs =
    record {
      vmid = fence_operand rs2 (read regs rs2 % 2 ^ 7);
      page = fence_operand rs1 (read regs rs1 / 2 ^ 10);
    }

-- what SFENCE.VMA and HFENCE.VVMA name: an ASID by the low 16 bits of rs2, in the place of a VMID, and a
-- virtual page by rs1 (4.2.1, 8.3.1)
abbrev pub first_fence_named : ℕ → ℕ → Regs → Fence
first_fence_named rs1 rs2 regs =
    record {
      vmid = fence_operand rs2 (read regs rs2 % 2 ^ 16);
      page = fence_operand rs1 (read regs rs1 / 2 ^ 12);
    }

-- an access to data as the instruction's own mode, and one as VS or VU
abbrev pub accesses : ℕ → Width → Purpose → Effect
accesses address width purpose = Data (record { address = address; width = width; purpose = purpose })

abbrev pub accesses_by_hlv : ℕ → Width → Purpose → Effect
accesses_by_hlv address width purpose =
    Privileged (privileged.HlvAccess (record { address = address; width = width; purpose = purpose }))

-- what an instruction asks for
unfoldable pub meaning : Op → Regs → Effect
meaning (op.Lui rd immediate) regs = Sets rd immediate (next regs)
meaning (op.Auipc rd immediate) regs = Sets rd (add64 regs.pc immediate) (next regs)
meaning (op.Jal rd offset) regs = jump rd (next regs) (add64 regs.pc offset)
meaning (op.Jalr rd rs1 offset) regs = jump rd (next regs) (even (address_at regs rs1 offset))
meaning (op.Branch test rs1 rs2 offset) regs =
    branch (is_branch_taken test (read regs rs1) (read regs rs2)) (next regs) (add64 regs.pc offset)
meaning (op.Load width signed rd rs1 offset) regs =
    accesses (address_at regs rs1 offset) width (Load signed rd)
meaning (op.Store width rs1 rs2 offset) regs =
    accesses (address_at regs rs1 offset) width (Store (read regs rs2))
meaning (op.AluImmediate o rd rs1 immediate) regs = Sets rd (alu o (read regs rs1) immediate) (next regs)
meaning (op.Alu o rd rs1 rs2) regs = Sets rd (alu o (read regs rs1) (read regs rs2)) (next regs)
meaning (op.WordImmediate o rd rs1 immediate) regs =
    Sets rd (word_alu o (read regs rs1) immediate) (next regs)
meaning (op.Word o rd rs1 rs2) regs = Sets rd (word_alu o (read regs rs1) (read regs rs2)) (next regs)
meaning op.Fence regs = Sets 0 0 (next regs)
meaning op.FenceI regs = Sets 0 0 (next regs)
meaning (op.LoadReserved width rd rs1) regs = accesses (read regs rs1) width (Reserve rd)
meaning (op.StoreConditional width rd rs1 rs2) regs =
    accesses (read regs rs1) width (StoreReserved (read regs rs2) rd)
meaning (op.Amo o width rd rs1 rs2) regs = accesses (read regs rs1) width (Modify o (read regs rs2) rd)
meaning op.Ecall regs = Calls
meaning op.Ebreak regs = Raises BREAKPOINT regs.pc
meaning op.Sret regs = Privileged privileged.Sret
meaning op.Wfi regs = Privileged privileged.Wfi
meaning (op.Csr o operand rd number) regs =
    Privileged (privileged.Csr o number (operand_of operand regs) (writes o operand) rd)
meaning (op.SfenceVma rs1 rs2) regs = Privileged (privileged.SfenceVma (first_fence_named rs1 rs2 regs))
meaning (op.HfenceVvma rs1 rs2) regs = Privileged (privileged.HfenceVvma (first_fence_named rs1 rs2 regs))
meaning (op.HfenceGvma rs1 rs2) regs = Privileged (privileged.HfenceGvma (fence_named rs1 rs2 regs))
meaning (op.GuestLoad width signed rd rs1) regs = accesses_by_hlv (read regs rs1) width (Load signed rd)
meaning (op.GuestFetch width rd rs1) regs = accesses_by_hlv (read regs rs1) width (LoadCode rd)
meaning (op.GuestStore width rs1 rs2) regs = accesses_by_hlv (read regs rs1) width (Store (read regs rs2))
