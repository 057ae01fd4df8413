-- What `perform` answers and leaves, as the end of an instruction.
use Rattle.std.specs.Prelude.{ℕ, Option, None, Result, Ok, Err, ⊤}
use Rattle.arch_defs.specs.declared.csr_names.CsrEnd.{CsrEnd}
use Rattle.arch_defs.specs.declared.csr_names.Register.{Register}
use Rattle.arch_defs.specs.declared.modes.Mode.{Mode}
use Rattle.arch_defs.specs.declared.registers.HypervisorStatus.{HypervisorStatus}
use Rattle.arch_defs.specs.declared.registers.Virtual.{Virtual}
use Rattle.arch_defs.specs.CsrAccess.{shown, written}
use Rattle.arch_defs.specs.Registers.{sets}
use Rattle.op_defs.specs.declared.ops.CsrOp.{CsrOp}
use Rattle.op_defs.specs.declared.ops.Effect.{Effect}
use Rattle.op_defs.specs.declared.ops.Effect.TheVariants.{Privileged}
use Rattle.machine_defs.specs.declared.events.Event.TheVariants.{System}
use Rattle.machine_defs.specs.Outcomes.{Outcome}
use Rattle.machine_defs.specs.Outcomes as outcome
use Rattle.machine_defs.specs.Privileges.{combined, refusal, refused}
use Rattle.privileged_ops.specs.declared.instructions.Performed.{Performed}
use Rattle.privileged_ops.specs.declared.instructions.Performed.TheVariants.{Done, Waits, Fenced, FirstFenced, Accesses, Refused}

-- how the instruction of this word ended, by the answer and the state after it
abbrev pub outcome_of : ℕ → Performed → Virtual → Outcome
outcome_of word Done state = outcome.Done state None System
outcome_of word Waits state = outcome.Waits state
outcome_of word (Fenced fence) state = outcome.Fenced state fence
outcome_of word (FirstFenced named fence) state = outcome.FirstFenced state named fence
outcome_of word (Accesses access) state = outcome.Accesses access
outcome_of word (Refused end) state = refused state word end

-- how it ended where it was made or refused, and nothing else
abbrev pub made_outcome : ℕ → Result (Unit {0}) CsrEnd → Virtual → Outcome
made_outcome word (Ok made) state = outcome.Done state None System
made_outcome word (Err end) state = refused state word end

-- the refusal of what an instruction asks for; the mode decides on none but these
abbrev pub effect_refusal : Effect → HypervisorStatus → Mode → Option CsrEnd
effect_refusal (Privileged effect) hstatus mode = refusal effect hstatus mode
effect_refusal other hstatus mode = None

-- where the instruction was not made
abbrev pub IfNotMade : Performed → Type 0 → Type 0
IfNotMade Done P = ⊤
IfNotMade Waits P = ⊤
IfNotMade (Fenced fence) P = ⊤
IfNotMade (FirstFenced named fence) P = ⊤
IfNotMade (Accesses access) P = P
IfNotMade (Refused end) P = P

-- the state after an instruction that reads and writes a register that its mode may write
abbrev pub with_register : Virtual → CsrOp → Register → ℕ → ℕ → Virtual
with_register state op register operand rd =
    let before = shown state.csrs register in
    let csrs = written state.csrs register (combined op before operand) in
    sets (record state { csrs = csrs }) rd before
