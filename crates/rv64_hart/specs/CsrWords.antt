-- What the word of an instruction on a control and status register asks for (Unprivileged ISA 20191213, 9.1).
use Rattle.std.specs.Prelude.{ℕ, ◌==◌, if◌then◌else◌}
use Rattle.arch_defs.specs.declared.registers.Virtual.{Virtual}
use Rattle.arch_defs.specs.Bits.{field}
use Rattle.op_defs.specs.declared.ops.CsrSource.{CsrSource}
use Rattle.op_defs.specs.declared.ops.CsrSource.TheVariants as source
use Rattle.op_defs.specs.Fields.{rd, rs1}
use Rattle.op_defs.specs.Meaning.{operand_of, writes}
use Rattle.op_defs.specs.Table.{csr_op_of}
use Rattle.machine_defs.specs.Outcomes.{Outcome}
use Rattle.machine_defs.specs.Privileges.{csr_accessed}

-- where its operand is
abbrev pub csr_source : ℕ → CsrSource
csr_source word = if field 14 1 word == 0 then source.Register (rs1 word) else source.Immediate (rs1 word)

-- the access
abbrev pub csr_asked : Virtual → ℕ → Outcome
csr_asked virt word = csr_accessed virt word (csr_op_of (field 12 2 word)) (field 20 12 word)
    (operand_of (csr_source word) virt.regs)
    (writes (csr_op_of (field 12 2 word)) (csr_source word)) (rd word)
