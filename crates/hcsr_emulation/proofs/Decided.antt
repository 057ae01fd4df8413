-- What an instruction asks for on which the mode decides, and of which opcode it is.
use Rattle.std.proofs.Common.{◌≡◌, ℕ, ◌%◌, Bool, true, false, refl, subst, sym, if◌then◌else◌}
use Rattle.std.specs.Prelude.{◌==◌}
use Rattle.arch_defs.specs.declared.registers.Regs.{Regs}
use Rattle.arch_defs.specs.Bits.{add64}
use Rattle.arch_defs.specs.Registers.{read, next}
use Rattle.op_defs.specs.declared.ops.Effect.{Effect}
use Rattle.op_defs.specs.declared.ops.Effect.TheVariants as effect
use Rattle.op_defs.specs.declared.ops.Op.{Op}
use Rattle.op_defs.specs.declared.ops.Op.TheVariants as op
use Rattle.op_defs.specs.declared.ops.Privileged.{Privileged}
use Rattle.op_defs.specs.Meaning.{address_at, branch, even, is_branch_taken, jump, meaning}
use Rattle.rv64_asm.specs.Laws.{is_system_op}
use Rattle.hcsr_emulation.specs.Ends.{IsCsrOrSret, is_decided}

-- it asks for what the mode decides on
abbrev pub AsksMode : Effect → Type 0
AsksMode (effect.Privileged p) = Unit {0}
AsksMode other = ⊥

pub asks_mode : (o : Op) (regs : Regs) → is_decided o ≡ true → AsksMode (meaning o regs)
unfolding is_decided meaning
asks_mode (op.Csr o source rd number) regs e = tt
asks_mode op.Sret regs e = tt
asks_mode op.Wfi regs e = tt
asks_mode (op.SfenceVma rs1 rs2) regs e = tt
asks_mode (op.HfenceVvma rs1 rs2) regs e = tt
asks_mode (op.HfenceGvma rs1 rs2) regs e = tt
asks_mode (op.GuestLoad w signed rd rs1) regs e = tt
asks_mode (op.GuestFetch w rd rs1) regs e = tt
asks_mode (op.GuestStore w rs1 rs2) regs e = tt
asks_mode other regs e = cc

by_effect : (e : Effect) → AsksMode e → ((p : Privileged) → e ≡ effect.Privileged p → ⊥) → ⊥
by_effect (effect.Privileged p) asks never = never p refl
by_effect other asks never = asks

pub asks_it : (o : Op) (regs : Regs) (e : Effect) → is_decided o ≡ true → e ≡ meaning o regs → ((p : Privileged) → e ≡ effect.Privileged p → ⊥) → ⊥
asks_it o regs e decided is never = by_effect e (subst AsksMode (sym is) (asks_mode o regs decided)) never

-- it is of opcode SYSTEM
pub decided_system : (o : Op) → is_decided o ≡ true → is_system_op o ≡ true
unfolding is_decided is_system_op
decided_system (op.Csr o source rd number) e = refl
decided_system op.Sret e = refl
decided_system op.Wfi e = refl
decided_system (op.SfenceVma rs1 rs2) e = refl
decided_system (op.HfenceVvma rs1 rs2) e = refl
decided_system (op.HfenceGvma rs1 rs2) e = refl
decided_system (op.GuestLoad w signed rd rs1) e = refl
decided_system (op.GuestFetch w rd rs1) e = refl
decided_system (op.GuestStore w rs1 rs2) e = refl
decided_system other e = cc

-- no other asks for that
abbrev Never : Effect → Type 0
Never e = (p : Privileged) → e ≡ effect.Privileged p → ⊥

either : (test : Bool) (x y : Effect) → Never x → Never y → Never (if test then x else y)
either true x y h k = h
either false x y h k = k

jump_never : (rd next target : ℕ) → Never (jump rd next target)
jump_never rd next target = either (target % 4 == 0) _ _ (λ p e. cc) (λ p e. cc)

branch_never : (taken : Bool) (next target : ℕ) → Never (branch taken next target)
branch_never true next target = either (target % 4 == 0) _ _ (λ p e. cc) (λ p e. cc)
branch_never false next target = λ p e. cc

pub asks_decided : (o : Op) (regs : Regs) (p : Privileged) → meaning o regs ≡ effect.Privileged p → is_decided o ≡ true
unfolding is_decided meaning
asks_decided (op.Csr o source rd number) regs p e = refl
asks_decided op.Sret regs p e = refl
asks_decided op.Wfi regs p e = refl
asks_decided (op.SfenceVma rs1 rs2) regs p e = refl
asks_decided (op.HfenceVvma rs1 rs2) regs p e = refl
asks_decided (op.HfenceGvma rs1 rs2) regs p e = refl
asks_decided (op.GuestLoad w signed rd rs1) regs p e = refl
asks_decided (op.GuestFetch w rd rs1) regs p e = refl
asks_decided (op.GuestStore w rs1 rs2) regs p e = refl
asks_decided (op.Jal rd offset) regs p e = absurd (jump_never rd (next regs) (add64 regs.pc offset) p e)
asks_decided (op.Jalr rd rs1 offset) regs p e =
    absurd (jump_never rd (next regs) (even (address_at regs rs1 offset)) p e)
asks_decided (op.Branch test rs1 rs2 offset) regs p e =
    absurd (branch_never (is_branch_taken test (read regs rs1) (read regs rs2)) (next regs) (add64 regs.pc offset) p e)
asks_decided other regs p e = absurd (cc)

-- an instruction on a register, or an SRET, is one on which the mode decides
pub kind_decided : (o : Op) → IsCsrOrSret o → is_decided o ≡ true
unfolding is_decided
kind_decided (op.Csr o source rd number) kind = refl
kind_decided op.Sret kind = refl
kind_decided other kind = absurd kind
