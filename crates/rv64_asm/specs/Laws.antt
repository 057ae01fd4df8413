-- Decoding gives the op back, and each op that is decoded can be encoded.
use Rattle.std.specs.Prelude.{ℕ, ◌≡◌, ◌<◌, ◌^◌, Bool, true, false, Some, ◌&&◌, nat_lt}
use Rattle.op_defs.specs.declared.ops.CsrSource.{CsrSource}
use Rattle.op_defs.specs.declared.ops.CsrSource.TheVariants as source
use Rattle.op_defs.specs.declared.ops.Op.{Op}
use Rattle.op_defs.specs.declared.ops.Op.TheVariants as op
use Rattle.op_defs.specs.Table.{is_system, op_of}
use Rattle.rv64_asm.specs.Words.{encoded}
use Rattle.rv64_asm.specs.Fitting.{fits}

-- a register's number, as each value of type Reg is
abbrev pub is_register : ℕ → Bool
is_register register = nat_lt register 32

unfoldable pub source_named : CsrSource → Bool
source_named (source.Register rs1) = is_register rs1
source_named (source.Immediate x) = true

-- whether each register of an op is one of x0 to x31
unfoldable pub all_named : Op → Bool
all_named (op.Lui rd immediate) = is_register rd
all_named (op.Auipc rd immediate) = is_register rd
all_named (op.Jal rd offset) = is_register rd
all_named (op.Jalr rd rs1 offset) = is_register rd && is_register rs1
all_named (op.Branch t rs1 rs2 offset) = is_register rs1 && is_register rs2
all_named (op.Load w signed rd rs1 offset) = is_register rd && is_register rs1
all_named (op.Store w rs1 rs2 offset) = is_register rs1 && is_register rs2
all_named (op.AluImmediate o rd rs1 immediate) = is_register rd && is_register rs1
all_named (op.Alu o rd rs1 rs2) = is_register rd && is_register rs1 && is_register rs2
all_named (op.WordImmediate o rd rs1 immediate) = is_register rd && is_register rs1
all_named (op.Word o rd rs1 rs2) = is_register rd && is_register rs1 && is_register rs2
all_named (op.LoadReserved w rd rs1) = is_register rd && is_register rs1
all_named (op.StoreConditional w rd rs1 rs2) = is_register rd && is_register rs1 && is_register rs2
all_named (op.Amo o w rd rs1 rs2) = is_register rd && is_register rs1 && is_register rs2
all_named (op.Csr o from rd number) = is_register rd && source_named from
all_named (op.SfenceVma rs1 rs2) = is_register rs1 && is_register rs2
all_named (op.HfenceVvma rs1 rs2) = is_register rs1 && is_register rs2
all_named (op.HfenceGvma rs1 rs2) = is_register rs1 && is_register rs2
all_named (op.GuestLoad w signed rd rs1) = is_register rd && is_register rs1
all_named (op.GuestFetch w rd rs1) = is_register rd && is_register rs1
all_named (op.GuestStore w rs1 rs2) = is_register rs1 && is_register rs2
all_named other = true

abbrev pub DecodesBack : Type 0
DecodesBack = (o : Op) → all_named o ≡ true → fits o ≡ true → op_of (encoded o) ≡ Some o

abbrev pub DecodedFits : Type 0
DecodedFits = (word : ℕ) (o : Op) → op_of word ≡ Some o → fits o ≡ true

-- the word of a decoded op, which may differ in fields that the op has not, is decoded to the same op
abbrev pub DecodedStays : Type 0
DecodedStays = (word : ℕ) (o : Op) → op_of word ≡ Some o → op_of (encoded o) ≡ Some o

-- a word of opcode SYSTEM is the one that its op is encoded to: the op has each of its bits
abbrev pub SystemHasOneWord : Type 0
SystemHasOneWord = (word : ℕ) (o : Op) → word < 2 ^ 32 → is_system word ≡ true → op_of word ≡ Some o
    → encoded o ≡ word

-- an instruction of opcode SYSTEM
unfoldable pub is_system_op : Op → Bool
is_system_op op.Ecall = true
is_system_op op.Ebreak = true
is_system_op op.Sret = true
is_system_op op.Wfi = true
is_system_op (op.Csr o from rd number) = true
is_system_op (op.SfenceVma rs1 rs2) = true
is_system_op (op.HfenceVvma rs1 rs2) = true
is_system_op (op.HfenceGvma rs1 rs2) = true
is_system_op (op.GuestLoad w signed rd rs1) = true
is_system_op (op.GuestFetch w rd rs1) = true
is_system_op (op.GuestStore w rs1 rs2) = true
is_system_op other = false

-- the same of its op: each word that is decoded to it is the one that it is encoded to
abbrev pub SystemOpHasOneWord : Type 0
SystemOpHasOneWord = (word : ℕ) (o : Op) → word < 2 ^ 32 → is_system_op o ≡ true → op_of word ≡ Some o
    → encoded o ≡ word
