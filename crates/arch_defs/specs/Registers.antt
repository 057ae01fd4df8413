-- x registers and pc, and the state in which all registers are zero.
use Rattle.std.specs.Prelude.{ℕ, None, [], false, ◌==◌, replicate, slice_index, slice_set, if◌then◌else◌}
use Rattle.arch_defs.specs.declared.modes.Mode.{Mode}
use Rattle.arch_defs.specs.declared.registers.Regs.{Regs}
use Rattle.arch_defs.specs.declared.registers.SupervisorCsrs.{SupervisorCsrs}
use Rattle.arch_defs.specs.declared.registers.Csrs.{Csrs}
use Rattle.arch_defs.specs.declared.registers.Interrupts.{Interrupts}
use Rattle.arch_defs.specs.declared.registers.SupervisorStatus.{SupervisorStatus}
use Rattle.arch_defs.specs.declared.registers.HypervisorStatus.{HypervisorStatus}
use Rattle.arch_defs.specs.declared.roots.SupervisorRoot.TheVariants as supervisor_root
use Rattle.arch_defs.specs.declared.roots.GuestRoot.TheVariants as guest_root
use Rattle.arch_defs.specs.declared.registers.Virtual.{Virtual}
use Rattle.arch_defs.specs.Bits.{add64}

-- the value of register n; x0 is 0 from the start, and never written
abbrev pub read : Regs → ℕ → ℕ
read regs n = slice_index regs.x n

-- register rd becomes a value, if it is not x0, and pc the next address (Unprivileged ISA 20191213, 2.1)
abbrev pub advanced : Regs → ℕ → ℕ → ℕ → Regs
advanced regs rd value next =
    if rd == 0 then record regs { pc = next } else record { x = slice_set regs.x rd value; pc = next }

-- the address of the next instruction
abbrev pub next : Regs → ℕ
next regs = add64 regs.pc 4

-- the registers with an argument and the answer of a call of the environment, a0, with a second answer, a1,
-- and with its number, a7
abbrev pub a0 : ℕ
a0 = 10

abbrev pub a1 : ℕ
a1 = 11

abbrev pub a7 : ℕ
a7 = 17

-- all x registers zero, and pc
abbrev pub regs_at : ℕ → Regs
regs_at pc = record { x = replicate 32 0; pc = pc }

abbrev pub clear_interrupts : Interrupts
clear_interrupts = record { software = false; timer = false; external = false }

abbrev pub clear_supervisor_status : SupervisorStatus
clear_supervisor_status = record { sie = false; spie = false; spp = false; sum = false; mxr = false }

abbrev pub clear_hypervisor_status : HypervisorStatus
clear_hypervisor_status =
    record { gva = false; spv = false; spvp = false; hu = false; vtvm = false; vtw = false; vtsr = false }

abbrev pub supervisor_at_reset : SupervisorCsrs
supervisor_at_reset = record {
  status = clear_supervisor_status;
  tvec = 0;
  scratch = 0;
  epc = 0;
  cause = 0;
  tval = 0;
  atp = supervisor_root.Bare;
}

abbrev pub csrs_at_reset : Csrs
csrs_at_reset = record {
  hs = supervisor_at_reset;
  vs = supervisor_at_reset;
  sie = clear_interrupts;
  sip = clear_interrupts;
  scounteren_tm = false;
  senvcfg_fiom = false;
  hstatus = clear_hypervisor_status;
  hedeleg = 0;
  hideleg = clear_interrupts;
  hie = clear_interrupts;
  hvip = clear_interrupts;
  hcounteren_tm = false;
  henvcfg_fiom = false;
  htimedelta = 0;
  htval = 0;
  htinst = 0;
  hgatp = guest_root.Bare;
  time = 0;
}

-- all registers zero but for pc, no reservation, and no cached translation
abbrev pub virtual_at : Mode → ℕ → Virtual
virtual_at mode pc =
    record { regs = regs_at pc; csrs = csrs_at_reset; mode = mode; reservation = None; first = [] }

-- a register is set, and pc goes on
abbrev pub sets : Virtual → ℕ → ℕ → Virtual
sets state rd value = record state { regs = advanced state.regs rd value (next state.regs) }

-- pc goes on, and nothing else changes
abbrev pub passed : Virtual → Virtual
passed state = sets state 0 0
