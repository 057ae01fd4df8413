-- Places at which instructions are counted, and their order (own).
use Rattle.std.specs.Prelude.{ℕ, ◌≡◌, ◌<◌, ◌+◌, ◌==◌, ◌&&◌, Bool, Option, Some, None}
use Rattle.arch_defs.specs.declared.modes.Mode.{Mode}
use Rattle.arch_defs.specs.declared.modes.Mode.TheVariants.{HS, U, VS, VU}
use Rattle.log_lines.specs.declared.lines.CountKey.{CountKey}

-- the order of modes
abbrev pub mode_rank : Mode → ℕ
mode_rank HS = 0
mode_rank U = 1
mode_rank VS = 2
mode_rank VU = 3

-- no hgatp comes before each
abbrev pub hgatp_number : Option ℕ → ℕ
hgatp_number None = 0
hgatp_number (Some hgatp) = hgatp + 1

abbrev pub is_same_key : CountKey → CountKey → Bool
is_same_key a b = mode_rank a.mode == mode_rank b.mode
    && (hgatp_number a.hgatp == hgatp_number b.hgatp && a.pc == b.pc)

-- one is before another by mode, then by hgatp, and then by pc
pub data IsBefore (a b : CountKey) : Type 0 where
  ByMode : mode_rank a.mode < mode_rank b.mode → IsBefore a b
  ByHgatp : mode_rank a.mode ≡ mode_rank b.mode → hgatp_number a.hgatp < hgatp_number b.hgatp
      → IsBefore a b
  ByPc : mode_rank a.mode ≡ mode_rank b.mode → hgatp_number a.hgatp ≡ hgatp_number b.hgatp
      → a.pc < b.pc → IsBefore a b
