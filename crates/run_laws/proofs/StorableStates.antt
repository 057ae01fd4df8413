-- A trap, an SRET, a call of the environment and the clock leave registers that can be stored.
use Rattle.std.specs.Prelude.{◌==◌, ◌&&◌, slice_index, slice_set}
use Rattle.std.proofs.Common.{cond, ◌≡◌, ℕ, ◌-◌, ◌*◌, ◌/◌, ◌%◌, ◌^◌, ◌∙◌, Bool, true, false, refl, ap, sym, arith}
use Rattle.std.proofs.lemmas.Bool.{eqb-false}
use Rattle.std.proofs.lemmas.List.{get_or-set_other}
use Rattle.arch_defs.specs.declared.levels.Level.{Level}
use Rattle.arch_defs.specs.declared.levels.Level.TheVariants as level
use Rattle.arch_defs.specs.declared.modes.Mode.{Mode}
use Rattle.arch_defs.specs.declared.modes.Mode.TheVariants.{HS, U, VS, VU}
use Rattle.arch_defs.specs.declared.modes.Trap.{Trap}
use Rattle.arch_defs.specs.declared.registers.SupervisorCsrs.{SupervisorCsrs}
use Rattle.arch_defs.specs.declared.registers.Regs.{Regs}
use Rattle.arch_defs.specs.declared.registers.Virtual.{Virtual}
use Rattle.arch_defs.specs.Bits.{add64}
use Rattle.arch_defs.specs.Calls.{CallState, answering, state_of, environment, get, put, set_timer, stopped, unknown}
use Rattle.arch_defs.specs.Consoles.{has_room}
use Rattle.arch_defs.specs.Registers.{a0, a1, a7, advanced, read}
use Rattle.arch_defs.specs.CsrBits.{tvec_bits}
use Rattle.arch_defs.specs.Traps.{arrived, cause_of, entered_at, entered_by_trap, entered_hs, entered_supervisor, entered_vs, handler_of, is_supervisor, returned, returned_from_hs, returned_from_vs, returned_supervisor, target, vs_code_of}
use Rattle.machine_defs.specs.Machine.{Platform, called, with_pending_lines}
use Rattle.instruction_laws.proofs.Cached.{either}
use Rattle.run_laws.specs.StorableStates.{IsCodeAddress, IsStorable}
use Rattle.run_laws.proofs.StoredForms.{SupervisorStored, code_stored, epc_code}

-- the x registers and pc of such a state
abbrev pub RegsStorable : Regs → Type 0
RegsStorable regs = (slice_index regs.x 0 ≡ 0) × IsCodeAddress regs.pc

-- the next address, and that of a jump to a multiple of 4
pub next_code : (pc : ℕ) → IsCodeAddress pc → IsCodeAddress (add64 pc 4)
next_code pc (whole, fits) = (omega arith, omega arith)

-- a handler
base_code : (tvec : ℕ) → tvec_bits tvec ≡ tvec → IsCodeAddress (tvec / 4 * 4)
unfolding tvec_bits
base_code tvec is = (omega arith, omega arith)

vector_code : (base code : ℕ) → IsCodeAddress base → IsCodeAddress (add64 base (4 * code))
vector_code base code (whole, fits) = (omega arith, omega arith)

handler_code : (tvec : ℕ) (interrupt : Bool) (code : ℕ) → tvec_bits tvec ≡ tvec → IsCodeAddress (handler_of tvec interrupt code)
handler_code tvec interrupt code is = either IsCodeAddress (interrupt && (tvec % 4 == 1)) (add64 (tvec / 4 * 4) (4 * code)) (tvec / 4 * 4)
    (vector_code (tvec / 4 * 4) code (base_code tvec is)) (base_code tvec is)

-- a trap: epc gets pc, and pc the handler
supervisor_entered : (registers : SupervisorCsrs) (supervisor : Bool) (pc cause tval : ℕ) → SupervisorStored registers → IsCodeAddress pc → SupervisorStored (entered_supervisor registers supervisor pc cause tval)
supervisor_entered registers supervisor pc cause tval is code = λ i. record (is i) {
  status = (entered_supervisor registers supervisor pc cause tval).status;
  epc = code_stored pc code i;
  cause = cause;
  tval = tval;
}

at_storable : (s : Virtual) (trap : Trap) (level : Level) → IsStorable s → IsStorable (entered_at s trap level)
unfolding entered_hs entered_vs
at_storable s trap level.HS is = let after = entered_hs s.csrs s.regs s.mode trap in record {
  x0 = is.x0;
  pc = handler_code s.csrs.hs.tvec trap.interrupt trap.cause (ap (λ c. c.hs.tvec) is.csrs);
  csrs = λ i. record (is.csrs i) {
    hs = supervisor_entered s.csrs.hs (is_supervisor s.mode) s.regs.pc (cause_of trap.interrupt trap.cause) trap.tval (ap (λ c. c.hs) is.csrs) is.pc i;
    hstatus = after.csrs.hstatus;
    htval = after.csrs.htval;
    htinst = after.csrs.htinst;
  };
  reservation = is.reservation;
}
at_storable s trap level.VS is = record {
  x0 = is.x0;
  pc = handler_code s.csrs.vs.tvec trap.interrupt (vs_code_of trap) (ap (λ c. c.vs.tvec) is.csrs);
  csrs = λ i. record (is.csrs i) {
    vs = supervisor_entered s.csrs.vs (is_supervisor s.mode) s.regs.pc (cause_of trap.interrupt (vs_code_of trap)) trap.tval (ap (λ c. c.vs) is.csrs) is.pc i;
  };
  reservation = is.reservation;
}

pub entered_storable : (s : Virtual) (trap : Trap) → IsStorable s → IsStorable (entered_by_trap s trap)
entered_storable s trap is = at_storable s trap (target s.csrs s.mode trap) is

-- an SRET: pc gets epc
supervisor_returned : (registers : SupervisorCsrs) → SupervisorStored registers → SupervisorStored (returned_supervisor registers)
supervisor_returned registers is = λ i. record (is i) { status = (returned_supervisor registers).status }

from_hs : (s : Virtual) → IsStorable s → IsStorable (arrived s (returned_from_hs s.csrs s.regs))
from_hs s is = record {
  x0 = is.x0;
  pc = epc_code s.csrs.hs.epc (ap (λ c. c.hs.epc) is.csrs);
  csrs = λ i. record (is.csrs i) {
    hs = supervisor_returned s.csrs.hs (ap (λ c. c.hs) is.csrs) i;
    hstatus = (returned_from_hs s.csrs s.regs).csrs.hstatus;
  };
  reservation = is.reservation;
}

from_vs : (s : Virtual) → IsStorable s → IsStorable (arrived s (returned_from_vs s.csrs s.regs))
from_vs s is = record {
  x0 = is.x0;
  pc = epc_code s.csrs.vs.epc (ap (λ c. c.vs.epc) is.csrs);
  csrs = λ i. record (is.csrs i) { vs = supervisor_returned s.csrs.vs (ap (λ c. c.vs) is.csrs) i };
  reservation = is.reservation;
}

by_returned : (s : Virtual) (mode : Mode) → IsStorable s → IsStorable (arrived s (returned s.csrs s.regs mode))
unfolding returned
by_returned s HS is = from_hs s is
by_returned s U is = from_hs s is
by_returned s VS is = from_vs s is
by_returned s VU is = from_vs s is

pub returned_storable : (s : Virtual) → IsStorable s → IsStorable (arrived s (returned s.csrs s.regs s.mode))
returned_storable s is = by_returned s s.mode is

-- x0 is not written
pub advanced_storable : (regs : Regs) (rd value next : ℕ) → RegsStorable regs → IsCodeAddress next → RegsStorable (advanced regs rd value next)
advanced_storable regs rd value next (zero, code) to = by (rd == 0) refl
  where
    by : (b : Bool) → rd == 0 ≡ b → RegsStorable (cond b (record regs { pc = next }) (record { x = slice_set regs.x rd value; pc = next }))
    by true is = (zero, to)
    by false is = (get_or-set_other regs.x rd 0 value 0 (λ e. eqb-false rd 0 is (sym e)) ∙ zero, to)

-- a call of the environment
answering_storable : (regs : Regs) (value : ℕ) → RegsStorable regs → RegsStorable (answering regs value)
answering_storable regs value is = advanced_storable regs a0 value (add64 regs.pc 4) is (next_code regs.pc is.1)

environment_storable : (s : CallState) → RegsStorable s.regs → RegsStorable (environment s).regs
environment_storable s is = let number = read s.regs a7 in let Good = λ (c : CallState). RegsStorable c.regs in
    either Good (number == 0) (set_timer s) _ (answering_storable s.regs 0 is)
    (either Good (number == 1) (put s) _
    (either Good (has_room s.console) _ _ (answering_storable s.regs 0 is) (answering_storable s.regs (2 ^ 64 - 1) is))
    (either Good (number == 2) (get s) _ (answering_storable s.regs _ is)
    (either Good (number == 8) (stopped s) (unknown s) (is.0, next_code s.regs.pc is.1)
    (answering_storable (advanced s.regs a1 0 s.regs.pc) (2 ^ 64 - 2) (advanced_storable s.regs a1 0 s.regs.pc is is.1)))))

-- what it leaves of a platform's state
abbrev VirtStorable : Platform → Type 0
VirtStorable p = IsStorable p.virt

pub with_regs : (s : Virtual) (regs : Regs) → IsStorable s → RegsStorable regs → IsStorable (record s { regs = regs })
with_regs s regs is of_regs = record { x0 = of_regs.0; pc = of_regs.1; csrs = is.csrs; reservation = is.reservation }

pub called_storable : (p : Platform) → IsStorable p.virt → IsStorable (called p).virt
called_storable p is = let s = state_of p.virt.regs p.clock p.console in
    let after = with_regs p.virt (environment s).regs is (environment_storable s (is.x0, is.pc)) in
    either VirtStorable (read p.virt.regs a7 == 8) _ _ after after

-- the clock sets bits that have names, and time
pub with_pending_lines_storable : (p : Platform) → IsStorable p.virt → IsStorable (with_pending_lines p).virt
with_pending_lines_storable p is = record {
  x0 = is.x0;
  pc = is.pc;
  csrs = λ i. record (is.csrs i) { sip = (with_pending_lines p).virt.csrs.sip; time = p.clock.time };
  reservation = is.reservation;
}
