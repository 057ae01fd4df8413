-- Registers by gdb's numbers (manual of gdb, "RISC-V Features"): x0 to x31, pc, each control and status
-- register by 65 and its number, and the mode. As bytes they are little endian.
use Rattle.std.specs.Prelude.{ℕ, ◌-◌, ◌==◌, ◌&&◌, nat_lt, List, [], ◌∷◌, ◌++◌, slice_index, Option, Some, None, if◌then◌else◌}
use Rattle.std.specs.List.{flat_map}
use Rattle.std.specs.Result.{result_ok}
use Rattle.std.specs.Int.{to_le_bytes, w64}
use Rattle.arch_defs.specs.declared.modes.Mode.{Mode}
use Rattle.arch_defs.specs.declared.modes.Mode.TheVariants.{HS, U, VS, VU}
use Rattle.arch_defs.specs.declared.registers.Virtual.{Virtual}
use Rattle.arch_defs.specs.CsrAccess.{read_csr}
use Rattle.gdb_packets.specs.Digits.{hex}

-- the privilege, and 4 more with V = 1 (own)
abbrev pub mode_value : Mode → ℕ
mode_value HS = 1
mode_value U = 0
mode_value VS = 5
mode_value VU = 4

unfoldable pub register_value : Virtual → ℕ → Option ℕ
register_value state n =
    if nat_lt n 32 then Some (slice_index state.regs.x n)
    else if n == 32 then Some state.regs.pc
    else if nat_lt 64 n && nat_lt n 4161 then result_ok (read_csr state.csrs HS (n - 65))
    else if n == 4161 then Some (mode_value state.mode)
    else None

abbrev pub value_bytes : ℕ → List ℕ
value_bytes value = to_le_bytes w64 value

-- x0 to x31 and pc
abbrev pub registers_bytes : Virtual → List ℕ
registers_bytes state = flat_map value_bytes state.regs.x ++ value_bytes state.regs.pc

abbrev pub registers_text : Virtual → List ℕ
registers_text state = hex (registers_bytes state)

-- what cannot be told is an error
abbrev pub error_text : List ℕ
error_text = 0x45 ∷ 0x30 ∷ 0x31 ∷ []

abbrev pub register_digits : Option ℕ → List ℕ
register_digits (Some value) = hex (value_bytes value)
register_digits None = error_text

abbrev pub register_text : Virtual → ℕ → List ℕ
register_text state n = register_digits (register_value state n)
