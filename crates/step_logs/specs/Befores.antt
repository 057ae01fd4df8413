-- What is kept of a machine for the time after its step.
use Rattle.std.specs.Prelude.{ℕ, Bool, List, [], ◌∷◌, Option, Some, None, length, if◌then◌else◌}
use Rattle.arch_defs.specs.declared.modes.Mode.{Mode}
use Rattle.arch_defs.specs.declared.registers.Csrs.{Csrs}
use Rattle.arch_defs.specs.CsrBits.{hgatp_bits}
use Rattle.arch_defs.specs.Traps.{is_virtual}
use Rattle.log_lines.specs.declared.heads.Head.{Head}
use Rattle.log_lines.specs.declared.lines.CountKey.{CountKey}
use Rattle.machine_defs.specs.Machine.{Machine}
use Rattle.step_logs.specs.declared.befores.Before.{Before}

abbrev pub first_input : List (ℕ × ℕ) → Option (ℕ × ℕ)
first_input [] = None
first_input (input ∷ inputs) = Some input

abbrev pub before_of : ℕ → Machine → Before
before_of n m = record {
  number = n;
  regs = m.platform.virt.regs;
  csrs = m.platform.virt.csrs;
  mode = m.platform.virt.mode;
  bytes = length m.platform.console.bytes;
  unread = length m.platform.console.inputs;
  input = first_input m.platform.console.inputs;
}

abbrev pub head_before : Before → Head
head_before b = record { step = b.number; mode = b.mode; pc = b.regs.pc }

abbrev pub hgatp_in : Mode → Csrs → Option ℕ
hgatp_in mode csrs = if is_virtual mode then Some (hgatp_bits csrs.hgatp) else None

abbrev pub key_before : Before → CountKey
key_before b = record { mode = b.mode; hgatp = hgatp_in b.mode b.csrs; pc = b.regs.pc }
