-- An instruction on which the mode decides: its word, its op and its effect.
use Rattle.std.specs.Prelude.{option_and_then, if◌then◌else◌}
use Rattle.std.proofs.Common.{◌≡◌, ℕ, ◌^◌, ◌<◌, Option, Some, None, refl, ap}
use Rattle.std.proofs.lemmas.Option.{same_Some}
use Rattle.arch_defs.specs.declared.registers.Regs.{Regs}
use Rattle.arch_defs.specs.declared.registers.Virtual.{Virtual}
use Rattle.arch_defs.specs.Memory.{Mmu}
use Rattle.op_defs.specs.declared.ops.Effect.{Effect}
use Rattle.op_defs.specs.declared.ops.Effect.TheVariants as effect
use Rattle.op_defs.specs.declared.ops.Op.{Op}
use Rattle.op_defs.specs.declared.ops.Privileged.{Privileged}
use Rattle.op_defs.specs.Meaning.{meaning}
use Rattle.op_defs.specs.Table.{op_of}
use Rattle.machine_defs.specs.Core.{decoded}
use Rattle.machine_defs.specs.Privileges.{privileged}
use Rattle.rv64_asm.specs.Words.{encoded}
use Rattle.rv64_asm.proofs.SystemOps.{op_has_one_word}
use Rattle.hcsr_emulation.proofs.Decided.{asks_decided, decided_system}
use Rattle.hosted_steps.specs.ExitCases.{decided_in}

-- the effect of the instruction that a word is, if the mode decides on it
abbrev pub privileged_of : Effect → Option Privileged
privileged_of (effect.Privileged p) = Some p
privileged_of _ = None

unfoldable pub privileged_in : ℕ → Regs → Option Privileged
privileged_in word regs = option_and_then (λ o. privileged_of (meaning o regs)) (op_of word)

-- its op
pub record IsInstruction (word : ℕ) (regs : Regs) (p : Privileged) : Type 0 where
  pub o : Op
  pub is : op_of word ≡ Some o
  pub asks : meaning o regs ≡ effect.Privileged p

asked : (e : Effect) (p : Privileged) → privileged_of e ≡ Some p → e ≡ effect.Privileged p
asked (effect.Privileged q) p e = ap effect.Privileged (same_Some q p e)
asked other p e = cc

found : (word : ℕ) (regs : Regs) (p : Privileged) (given : Option Op) → op_of word ≡ given → option_and_then (λ o. privileged_of (meaning o regs)) given ≡ Some p
    → IsInstruction word regs p
found word regs p (Some o) is e = record { o = o; is = is; asks = asked (meaning o regs) p e }
found word regs p None is e = cc

pub instruction_of : (word : ℕ) (regs : Regs) (p : Privileged) → privileged_in word regs ≡ Some p → IsInstruction word regs p
unfolding privileged_in
instruction_of word regs p e = found word regs p (op_of word) refl e

-- the mode decides on it
pub is_decided_in : (word : ℕ) (regs : Regs) (p : Privileged) (i : IsInstruction word regs p) → decided_in word ≡ Some i.o
unfolding decided_in
is_decided_in word regs p i = rw (i.is, asks_decided i.o regs p i.asks) refl

-- it ends as with the op's own word
pub ends_as : (through : Mmu) (s : Virtual) (word : ℕ) (p : Privileged) (i : IsInstruction word s.regs p) → word < 2 ^ 32
    → privileged s word p ≡ decoded through s (encoded i.o) (Some i.o)
ends_as through s word p i small =
    let one : encoded i.o ≡ word = op_has_one_word word i.o small (decided_system i.o (asks_decided i.o s.regs p i.asks)) i.is in
    rw (one, i.asks) refl
