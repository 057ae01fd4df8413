-- An HLV, HLVX or HSV is an access that the mode allows, or traps.
use Rattle.std.proofs.Common.{◌≡◌, ℕ, true, Option, Some, None, refl}
use Rattle.arch_defs.specs.declared.csr_names.CsrEnd.{CsrEnd}
use Rattle.arch_defs.specs.declared.modes.Trap.{Trap}
use Rattle.arch_defs.specs.declared.registers.Virtual.{Virtual}
use Rattle.arch_defs.specs.Memory.{Mmu}
use Rattle.op_defs.specs.declared.ops.DataAccess.{DataAccess}
use Rattle.op_defs.specs.declared.ops.Op.{Op}
use Rattle.op_defs.specs.declared.ops.Op.TheVariants as op
use Rattle.op_defs.specs.declared.ops.Privileged.TheVariants.{HlvAccess}
use Rattle.op_defs.specs.Meaning.{meaning}
use Rattle.machine_defs.specs.Core.{decoded}
use Rattle.machine_defs.specs.Outcomes.{Outcome, Accesses, Trapped}
use Rattle.machine_defs.specs.Privileges.{decided, privileged, refusal}
use Rattle.hcsr_emulation.specs.declared.emulation.Emulated.{Emulated}
use Rattle.hcsr_emulation.specs.declared.emulation.Emulated.TheVariants as emulated
use Rattle.hcsr_emulation.specs.Ends.{is_decided, emulated_outcome}
use Rattle.hlv_hsv.specs.Ends.{IsHlvOrHsv}

-- an instruction is to make an access, or traps
abbrev pub AccessesOrTraps : Outcome → Type 0
AccessesOrTraps (Accesses wanted) = Unit {0}
AccessesOrTraps (Trapped trap) = Unit {0}
AccessesOrTraps other = ⊥

by_refusal : (state : Virtual) (word : ℕ) (wanted : DataAccess) (end : Option CsrEnd) → AccessesOrTraps (decided state word (HlvAccess wanted) end)
by_refusal state word wanted (Some end) = tt
by_refusal state word wanted None = tt

pub accesses_or_traps : (o : Op) (state : Virtual) (word : ℕ) (through : Mmu) → IsHlvOrHsv o
    → AccessesOrTraps (decoded through state word (Some o))
unfolding privileged meaning
accesses_or_traps (op.GuestLoad width signed rd rs1) state word through kind =
    by_refusal state word _ (refusal (HlvAccess _) state.csrs.hstatus state.mode)
accesses_or_traps (op.GuestFetch width rd rs1) state word through kind =
    by_refusal state word _ (refusal (HlvAccess _) state.csrs.hstatus state.mode)
accesses_or_traps (op.GuestStore width rs1 rs2) state word through kind =
    by_refusal state word _ (refusal (HlvAccess _) state.csrs.hstatus state.mode)
accesses_or_traps other state word through kind = absurd kind

-- the mode decides on them
pub kind_decided : (o : Op) → IsHlvOrHsv o → is_decided o ≡ true
unfolding is_decided
kind_decided (op.GuestLoad width signed rd rs1) kind = refl
kind_decided (op.GuestFetch width rd rs1) kind = refl
kind_decided (op.GuestStore width rs1 rs2) kind = refl
kind_decided other kind = absurd kind

-- so they end in no other way
pub ends_else : (answer : Emulated) (state : Virtual) → AccessesOrTraps (emulated_outcome answer state) → ((wanted : DataAccess) → answer ≡ emulated.Accesses wanted → ⊥)
    → ((trap : Trap) → answer ≡ emulated.Raise trap → ⊥) → ⊥
ends_else emulated.Done state once accesses raises = once
ends_else (emulated.Raise trap) state once accesses raises = raises trap refl
ends_else emulated.Waits state once accesses raises = once
ends_else (emulated.Fenced fence) state once accesses raises = once
ends_else (emulated.FirstFenced named fence) state once accesses raises = once
ends_else (emulated.Accesses wanted) state once accesses raises = accesses wanted refl
