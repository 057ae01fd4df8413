-- The control and status registers, read again.
use Rattle.std.specs.Prelude.{Some, slice_index}
use Rattle.std.proofs.Common.{◌≡◌, ℕ, ◌+◌, ◌*◌, ◌%◌, ◌^◌, Bool, List, [], ◌∷◌, ◌++◌, drop, refl, ap, ◌∙◌, arith}
use Rattle.arch_defs.specs.declared.csr_names.Register.{Register}
use Rattle.arch_defs.specs.declared.registers.Csrs.{Csrs}
use Rattle.arch_defs.specs.declared.roots.SupervisorMode.{SupervisorMode}
use Rattle.arch_defs.specs.declared.roots.SupervisorMode.TheVariants.{Sv39, Sv48}
use Rattle.arch_defs.specs.declared.roots.SupervisorRoot.{SupervisorRoot}
use Rattle.arch_defs.specs.declared.roots.SupervisorRoot.TheVariants.{Bare, Table}
use Rattle.arch_defs.specs.Bits.{field}
use Rattle.arch_defs.specs.CsrAccess.{enable_shown, enable_written, hypervisor_shown, hypervisor_written, interrupts_shown, interrupts_written, shown, supervisor_shown, supervisor_written, written}
use Rattle.arch_defs.specs.CsrBits.{epc_bits, guest_root_of, hedeleg_bits, hgatp_bits, satp_bits, supervisor_root_of, tvec_bits}
use Rattle.arch_defs.specs.Registers.{csrs_at_reset}
use Rattle.arch_defs.specs.Roots.{supervisor_mode_of}
use Rattle.guest_save.proofs.Bits.{first_again, hstatus_again, second_again, sstatus_again, supervisor_interrupts_again, virtual_interrupts_again}
use Rattle.guest_save.specs.Laws.{ReadIsStored}
use Rattle.guest_save.specs.Registers.{after_sip, all_written, before_sip, csr_numbers, csrs_in, with_ssip}
use Rattle.machine_defs.specs.Machine.{with_lines}
use Rattle.run_laws.proofs.StoredForms.{AtpStored, CsrsStored, written_stored}
use Rattle.run_laws.specs.StorableStates.{stored_form}

-- satp is read over Bare, and stored over itself: its MODE names a table, so what was there has no part
kept_apart : (kept other : SupervisorRoot) (v : ℕ) (mode : SupervisorMode) → supervisor_mode_of (field 60 4 v) ≡ Some mode
    → supervisor_root_of kept v ≡ supervisor_root_of other v
unfolding supervisor_root_of
kept_apart kept other v mode is = rw is refl

mode_read : (mode : SupervisorMode) (asid ppn : ℕ) → supervisor_mode_of (field 60 4 (satp_bits (Table mode asid ppn))) ≡ Some mode
unfolding satp_bits
mode_read Sv39 asid ppn = let is : field 60 4 (8 * 2 ^ 60 + asid % 2 ^ 16 * 2 ^ 44 + ppn % 2 ^ 44) ≡ 8 = omega arith in rw is refl
mode_read Sv48 asid ppn = let is : field 60 4 (9 * 2 ^ 60 + asid % 2 ^ 16 * 2 ^ 44 + ppn % 2 ^ 44) ≡ 9 = omega arith in rw is refl

pub satp_again : (root : SupervisorRoot) → AtpStored root → supervisor_root_of Bare (satp_bits root) ≡ root
satp_again Bare stored = stored
satp_again (Table mode asid ppn) stored =
    kept_apart Bare (Table mode asid ppn) (satp_bits (Table mode asid ppn)) mode (mode_read mode asid ppn) ∙ stored

-- a register that is stored twice
twice : {A : Type 0} (store : A → A) (a : A) → store a ≡ a → store (store a) ≡ a
twice store a is = ap store is ∙ is

-- all of them, with the bits that the clock and the console set
pub csrs_again : (csrs : Csrs) (rest : List ℕ) (time : ℕ) (timer external : Bool) → stored_form csrs ≡ csrs
    → with_lines (csrs_in (csr_numbers csrs ++ rest)) time timer external ≡ with_lines csrs time timer external
unfolding csrs_in shown written supervisor_shown supervisor_written interrupts_shown interrupts_written enable_shown enable_written hypervisor_shown hypervisor_written
csrs_again csrs rest time timer external stored =
    let status = sstatus_again csrs.hs.status in
    let tvec = twice tvec_bits csrs.hs.tvec (ap (λ (c : Csrs). c.hs.tvec) stored) in
    let epc = twice epc_bits csrs.hs.epc (ap (λ (c : Csrs). c.hs.epc) stored) in
    let atp = satp_again csrs.hs.atp (ap (λ (c : Csrs). c.hs.atp) stored) in
    let vs_status = sstatus_again csrs.vs.status in
    let vs_tvec = twice tvec_bits csrs.vs.tvec (ap (λ (c : Csrs). c.vs.tvec) stored) in
    let vs_epc = twice epc_bits csrs.vs.epc (ap (λ (c : Csrs). c.vs.epc) stored) in
    let vs_atp = satp_again csrs.vs.atp (ap (λ (c : Csrs). c.vs.atp) stored) in
    let sie = supervisor_interrupts_again csrs.sie in
    let software = first_again csrs.sip.software in
    let scounteren = second_again csrs.scounteren_tm in
    let senvcfg = first_again csrs.senvcfg_fiom in
    let hstatus = hstatus_again csrs.hstatus in
    let hedeleg = twice hedeleg_bits csrs.hedeleg (ap (λ (c : Csrs). c.hedeleg) stored) in
    let hideleg = virtual_interrupts_again csrs.hideleg in
    let hie = virtual_interrupts_again csrs.hie in
    let hvip = virtual_interrupts_again csrs.hvip in
    let hcounteren = second_again csrs.hcounteren_tm in
    let henvcfg = first_again csrs.henvcfg_fiom in
    let hgatp = ap (λ (c : Csrs). c.hgatp) stored in
    λ i. record {
      hs = record { status = status i; tvec = tvec i; scratch = csrs.hs.scratch; epc = epc i; cause = csrs.hs.cause; tval = csrs.hs.tval; atp = atp i };
      vs = record { status = vs_status i; tvec = vs_tvec i; scratch = csrs.vs.scratch; epc = vs_epc i; cause = csrs.vs.cause; tval = csrs.vs.tval; atp = vs_atp i };
      sie = sie i;
      sip = record { software = software i; timer = timer; external = external };
      scounteren_tm = scounteren i;
      senvcfg_fiom = senvcfg i;
      hstatus = hstatus i;
      hedeleg = hedeleg i;
      hideleg = hideleg i;
      hie = hie i;
      hvip = hvip i;
      hcounteren_tm = hcounteren i;
      henvcfg_fiom = henvcfg i;
      htimedelta = csrs.htimedelta;
      htval = csrs.htval;
      htinst = csrs.htinst;
      hgatp = hgatp i;
      time = time;
    }

-- registers that were written, one after the other
reset_stored : CsrsStored csrs_at_reset
unfolding tvec_bits epc_bits hedeleg_bits supervisor_root_of satp_bits guest_root_of hgatp_bits
reset_stored = refl

all_stored : (csrs : Csrs) (rs : List Register) (ns : List ℕ) → CsrsStored csrs → CsrsStored (all_written csrs rs ns)
all_stored csrs [] ns is = is
all_stored csrs (r ∷ rs) [] is = is
all_stored csrs (r ∷ rs) (n ∷ ns) is = all_stored (written csrs r n) rs ns (written_stored csrs r n is)

ssip_stored : (csrs : Csrs) (n : ℕ) → CsrsStored csrs → CsrsStored (with_ssip csrs n)
ssip_stored csrs n is = λ i. record (is i) { sip = (with_ssip csrs n).sip }

pub read_is_stored : ReadIsStored
unfolding csrs_in
read_is_stored ns =
    all_stored (with_ssip (all_written csrs_at_reset before_sip ns) (slice_index ns 9)) after_sip (drop 10 ns)
    (ssip_stored (all_written csrs_at_reset before_sip ns) (slice_index ns 9) (all_stored csrs_at_reset before_sip ns reset_stored))
