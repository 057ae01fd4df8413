-- The registers of the guest, and those of the hart that stand for them.
use Rattle.std.specs.Prelude.{◌/◌, ◌^◌, ◌&&◌, nat_le, Result, Ok, Err, if◌then◌else◌}
use Rattle.std.proofs.Common.{cond, ◌≡◌, ℕ, Option, Some, None, Bool, true, false, refl, sym, arith, ◌∙◌}
use Rattle.arch_defs.specs.declared.csr_names.SupervisorCsr.{SupervisorCsr}
use Rattle.arch_defs.specs.declared.csr_names.SupervisorCsr.TheVariants.{Status, Tvec, Scratch, Epc, Cause, Tval, Atp}
use Rattle.arch_defs.specs.declared.csr_names.EnableCsr.TheVariants.{Scounteren, Senvcfg, Hcounteren, Henvcfg}
use Rattle.arch_defs.specs.declared.csr_names.CsrEnd.{CsrEnd}
use Rattle.arch_defs.specs.declared.csr_names.CsrEnd.TheVariants.{Illegal, Virtual as VirtualInstruction}
use Rattle.arch_defs.specs.declared.csr_names.InterruptCsr.TheVariants.{Sie, Sip, Vsie, Vsip, Hideleg, Hie, Hip, Hvip}
use Rattle.arch_defs.specs.declared.csr_names.Register.{Register}
use Rattle.arch_defs.specs.declared.csr_names.Register.TheVariants.{Supervisor, VirtualSupervisor, Interrupt, Enable, Hypervisor, Time, GuestTime}
use Rattle.arch_defs.specs.declared.modes.Mode.{Mode}
use Rattle.arch_defs.specs.declared.modes.Mode.TheVariants.{HS, U, VS, VU}
use Rattle.arch_defs.specs.declared.registers.Csrs.{Csrs}
use Rattle.arch_defs.specs.declared.roots.GuestRoot.{GuestRoot}
use Rattle.arch_defs.specs.CsrAccess.{enable_shown, enable_written, interrupts_shown, interrupts_written, named_to_write, reached, reached_by, reached_in_vs, reached_in_vu, read_csr, shown, value_of, write_csr, written, written_by}
use Rattle.arch_defs.specs.Bits.{bit}
use Rattle.arch_defs.specs.CsrBits.{delegated, delegated_become, supervisor_interrupts}
use Rattle.arch_defs.specs.CsrNames.{hypervisor_register, read_only_register, register_of, virtual_supervisor_register}
use Rattle.arch_defs.specs.Traps.{is_virtual}
use Rattle.world_switch.specs.Hosting.{all_interrupts, hosted_csrs, hosted_mode, saved_csrs}
use Rattle.world_switch.specs.Laws.{IllegalAlike, IllegalToWriteAlike, KeepsHidden, ReadsAlike, WritesAlike, waits_for_hs}

-- a register of the guest and the one of the hart that stands for it, by the guest's V
pub record Twins (root : GuestRoot) (virtual : Bool) (csrs : Csrs) (r twin : Register) : Type 0 where
  pub shows : shown (hosted_csrs root virtual csrs) twin ≡ shown csrs r
  pub changes : (v : ℕ) → saved_csrs virtual (written (hosted_csrs root virtual csrs) twin v) csrs ≡ written csrs r v
  pub keeps : (v : ℕ) → KeepsHidden root virtual csrs (written (hosted_csrs root virtual csrs) twin v)

-- what a number is to the guest and to the hart: nothing, a virtual instruction on the hart, or twins, whose number is of the
-- first row
pub data Reaches (root : GuestRoot) (virtual : Bool) (csrs : Csrs) (n : ℕ) (own hart : Result Register CsrEnd) : Type 0 where
  Nothing : own ≡ Err Illegal → hart ≡ Err Illegal → Reaches root virtual csrs n own hart
  Withheld : hart ≡ Err VirtualInstruction → Reaches root virtual csrs n own hart
  Both : (r twin : Register) → own ≡ Ok r → hart ≡ Ok twin → Twins root virtual csrs r twin → n / 2 ^ 8 ≡ 1 → Reaches root virtual csrs n own hart

-- the guest's own supervisor registers, with V = 0 HS's and with V = 1 VS's, and VS's on the hart
supervisor_twins : (root : GuestRoot) (csrs : Csrs) (r : SupervisorCsr) → Twins root false csrs (Supervisor r) (VirtualSupervisor r)
unfolding shown written
supervisor_twins root csrs r = record {
  shows = refl;
  changes = λ v. refl;
  keeps = λ v. record { rest = refl; timer = λ e. refl; external = λ e. refl; waits = refl };
}

nested_supervisor_twins : (root : GuestRoot) (csrs : Csrs) (r : SupervisorCsr) → Twins root true csrs (VirtualSupervisor r) (VirtualSupervisor r)
unfolding shown written
nested_supervisor_twins root csrs r = record {
  shows = refl;
  changes = λ v. refl;
  keeps = λ v. record { rest = refl; timer = λ e. cc; external = λ e. cc; waits = refl };
}

-- an interrupt that is delegated never waits for HS
no_wait : (pending enabled : Bool) → (pending && enabled && false) ≡ false
no_wait true true = refl
no_wait true false = refl
no_wait false enabled = refl

-- with V = 0 all are
pub none_waits : (csrs : Csrs) → csrs.hideleg ≡ all_interrupts → waits_for_hs csrs ≡ false
none_waits csrs e = rw (e, no_wait csrs.hvip.external csrs.hie.external, no_wait csrs.hvip.software csrs.hie.software, no_wait csrs.hvip.timer csrs.hie.timer) refl

-- an interrupt waits or does not, whatever vsie and vsip write: they change those that are delegated
same_wait : (delegated pending enabled other : Bool)
    → (pending && (if delegated then other else enabled) && (if delegated then false else true)) ≡ (pending && enabled && (if delegated then false else true))
same_wait true pending enabled other = rw (no_wait pending other, no_wait pending enabled) refl
same_wait false pending enabled other = refl

same_pending : (delegated pending enabled other : Bool)
    → ((if delegated then other else pending) && enabled && (if delegated then false else true)) ≡ (pending && enabled && (if delegated then false else true))
same_pending true pending enabled other = rw (no_wait other enabled, no_wait pending enabled) refl
same_pending false pending enabled other = refl

-- sie and vsie, sip and vsip, all of whose interrupts are delegated
sie_twins : (root : GuestRoot) (csrs : Csrs) → Twins root false csrs (Interrupt Sie) (Interrupt Vsie)
unfolding shown written interrupts_shown interrupts_written delegated delegated_become
sie_twins root csrs = record {
  shows = refl;
  changes = λ v. refl;
  keeps = λ v. record { rest = refl; timer = λ e. refl; external = λ e. refl; waits = none_waits (written (hosted_csrs root false csrs) (Interrupt Vsie) v) refl ∙ sym (none_waits (hosted_csrs root false csrs) refl) };
}

sip_twins : (root : GuestRoot) (csrs : Csrs) → Twins root false csrs (Interrupt Sip) (Interrupt Vsip)
unfolding shown written interrupts_shown interrupts_written delegated delegated_become
sip_twins root csrs = record {
  shows = refl;
  changes = λ v. refl;
  keeps = λ v. record { rest = refl; timer = λ e. refl; external = λ e. refl; waits = none_waits (written (hosted_csrs root false csrs) (Interrupt Vsip) v) refl ∙ sym (none_waits (hosted_csrs root false csrs) refl) };
}

-- vsie and vsip, on both
vsie_twins : (root : GuestRoot) (csrs : Csrs) → Twins root true csrs (Interrupt Vsie) (Interrupt Vsie)
unfolding shown written interrupts_shown interrupts_written delegated_become
vsie_twins root csrs = record {
  shows = refl;
  changes = λ v. refl;
  keeps = λ v. record {
    rest = refl;
    timer = λ e. cc;
    external = λ e. cc;
    waits = rw (
      same_wait csrs.hideleg.external csrs.hvip.external csrs.hie.external (supervisor_interrupts v).external,
      same_wait csrs.hideleg.software csrs.hvip.software csrs.hie.software (supervisor_interrupts v).software,
      same_wait csrs.hideleg.timer csrs.hvip.timer csrs.hie.timer (supervisor_interrupts v).timer,
    ) refl;
  };
}

vsip_twins : (root : GuestRoot) (csrs : Csrs) → Twins root true csrs (Interrupt Vsip) (Interrupt Vsip)
unfolding shown written interrupts_shown interrupts_written
vsip_twins root csrs = record {
  shows = refl;
  changes = λ v. refl;
  keeps = λ v. record {
    rest = refl;
    timer = λ e. cc;
    external = λ e. cc;
    waits = rw (same_pending csrs.hideleg.software csrs.hvip.software csrs.hie.software (bit 1 v)) refl;
  };
}

-- the registers of which there is no copy
scounteren_twins : (root : GuestRoot) (virtual : Bool) (csrs : Csrs) → Twins root virtual csrs (Enable Scounteren) (Enable Scounteren)
unfolding shown written enable_shown enable_written
scounteren_twins root false csrs = record {
  shows = refl;
  changes = λ v. refl;
  keeps = λ v. record { rest = refl; timer = λ e. refl; external = λ e. refl; waits = refl };
}
scounteren_twins root true csrs = record {
  shows = refl;
  changes = λ v. refl;
  keeps = λ v. record { rest = refl; timer = λ e. cc; external = λ e. cc; waits = refl };
}

senvcfg_twins : (root : GuestRoot) (virtual : Bool) (csrs : Csrs) → Twins root virtual csrs (Enable Senvcfg) (Enable Senvcfg)
unfolding shown written enable_shown enable_written
senvcfg_twins root false csrs = record {
  shows = refl;
  changes = λ v. refl;
  keeps = λ v. record { rest = refl; timer = λ e. refl; external = λ e. refl; waits = refl };
}
senvcfg_twins root true csrs = record {
  shows = refl;
  changes = λ v. refl;
  keeps = λ v. record { rest = refl; timer = λ e. cc; external = λ e. cc; waits = refl };
}

-- the registers of the guest for which the hart has others
abbrev is_hosted : Register → Bool
is_hosted (Supervisor r) = true
is_hosted (Interrupt Sie) = true
is_hosted (Interrupt Sip) = true
is_hosted (Enable Scounteren) = true
is_hosted (Enable Senvcfg) = true
is_hosted _ = false

-- whether a number names one of them
abbrev names_hosted : Option Register → Bool
names_hosted None = false
names_hosted (Some r) = is_hosted r

-- a table of numbers names none of them if none of its lines does
none_else : (b : Bool) (one rest : Option Register) → names_hosted one ≡ false → names_hosted rest ≡ false → names_hosted (cond b one rest) ≡ false
none_else true one rest e f = e
none_else false one rest e f = f

-- the other rows name none of them, so the numbers that do are of the first row
none_virtual : (n : ℕ) → names_hosted (virtual_supervisor_register n) ≡ false
unfolding virtual_supervisor_register
none_virtual n = search none_else depth 15

none_hypervisor : (n : ℕ) → names_hosted (hypervisor_register n) ≡ false
unfolding hypervisor_register
none_hypervisor n = search none_else depth 20

none_read_only : (n : ℕ) → names_hosted (read_only_register n) ≡ false
unfolding read_only_register
none_read_only n = search none_else

first_row : (n : ℕ) → names_hosted (register_of n) ≡ true → n / 2 ^ 8 ≡ 1
unfolding register_of
first_row n e = grind (arith, none_virtual n, none_hypervisor n, none_read_only n)

-- in HS the registers that the hart has are twins, and VS is withheld the rest
twins_in_hs : (root : GuestRoot) (csrs : Csrs) (n : ℕ) (r : Register) → (is_hosted r ≡ true → n / 2 ^ 8 ≡ 1)
    → Reaches root false csrs n (reached csrs HS r) (reached (hosted_csrs root false csrs) VS r)
unfolding reached reached_in_vs
twins_in_hs root csrs n (Supervisor Status) row = Both _ _ refl refl (supervisor_twins root csrs Status) (row refl)
twins_in_hs root csrs n (Supervisor Tvec) row = Both _ _ refl refl (supervisor_twins root csrs Tvec) (row refl)
twins_in_hs root csrs n (Supervisor Scratch) row = Both _ _ refl refl (supervisor_twins root csrs Scratch) (row refl)
twins_in_hs root csrs n (Supervisor Epc) row = Both _ _ refl refl (supervisor_twins root csrs Epc) (row refl)
twins_in_hs root csrs n (Supervisor Cause) row = Both _ _ refl refl (supervisor_twins root csrs Cause) (row refl)
twins_in_hs root csrs n (Supervisor Tval) row = Both _ _ refl refl (supervisor_twins root csrs Tval) (row refl)
twins_in_hs root csrs n (Supervisor Atp) row = Both _ _ refl refl (supervisor_twins root csrs Atp) (row refl)
twins_in_hs root csrs n (VirtualSupervisor r) row = Withheld refl
twins_in_hs root csrs n (Interrupt Sie) row = Both _ _ refl refl (sie_twins root csrs) (row refl)
twins_in_hs root csrs n (Interrupt Sip) row = Both _ _ refl refl (sip_twins root csrs) (row refl)
twins_in_hs root csrs n (Interrupt Vsie) row = Withheld refl
twins_in_hs root csrs n (Interrupt Vsip) row = Withheld refl
twins_in_hs root csrs n (Interrupt Hideleg) row = Withheld refl
twins_in_hs root csrs n (Interrupt Hie) row = Withheld refl
twins_in_hs root csrs n (Interrupt Hip) row = Withheld refl
twins_in_hs root csrs n (Interrupt Hvip) row = Withheld refl
twins_in_hs root csrs n (Enable Scounteren) row = Both _ _ refl refl (scounteren_twins root false csrs) (row refl)
twins_in_hs root csrs n (Enable Senvcfg) row = Both _ _ refl refl (senvcfg_twins root false csrs) (row refl)
twins_in_hs root csrs n (Enable Hcounteren) row = Withheld refl
twins_in_hs root csrs n (Enable Henvcfg) row = Withheld refl
twins_in_hs root csrs n (Hypervisor r) row = Withheld refl
twins_in_hs root csrs n Time row = Withheld refl
twins_in_hs root csrs n GuestTime row = Withheld refl

-- so they are in VS, where satp is withheld with VTVM on both
atp_in_vs : (root : GuestRoot) (csrs : Csrs) (n : ℕ) (kept : Bool) → n / 2 ^ 8 ≡ 1
    → Reaches root true csrs n (cond kept (Err VirtualInstruction) (Ok (VirtualSupervisor Atp))) (cond kept (Err VirtualInstruction) (Ok (VirtualSupervisor Atp)))
atp_in_vs root csrs n true row = Withheld refl
atp_in_vs root csrs n false row = Both _ _ refl refl (nested_supervisor_twins root csrs Atp) row

twins_in_vs : (root : GuestRoot) (csrs : Csrs) (n : ℕ) (r : Register) → (is_hosted r ≡ true → n / 2 ^ 8 ≡ 1)
    → Reaches root true csrs n (reached csrs VS r) (reached (hosted_csrs root true csrs) VS r)
unfolding reached reached_in_vs
twins_in_vs root csrs n (Supervisor Status) row = Both _ _ refl refl (nested_supervisor_twins root csrs Status) (row refl)
twins_in_vs root csrs n (Supervisor Tvec) row = Both _ _ refl refl (nested_supervisor_twins root csrs Tvec) (row refl)
twins_in_vs root csrs n (Supervisor Scratch) row = Both _ _ refl refl (nested_supervisor_twins root csrs Scratch) (row refl)
twins_in_vs root csrs n (Supervisor Epc) row = Both _ _ refl refl (nested_supervisor_twins root csrs Epc) (row refl)
twins_in_vs root csrs n (Supervisor Cause) row = Both _ _ refl refl (nested_supervisor_twins root csrs Cause) (row refl)
twins_in_vs root csrs n (Supervisor Tval) row = Both _ _ refl refl (nested_supervisor_twins root csrs Tval) (row refl)
twins_in_vs root csrs n (Supervisor Atp) row = atp_in_vs root csrs n csrs.hstatus.vtvm (row refl)
twins_in_vs root csrs n (VirtualSupervisor r) row = Withheld refl
twins_in_vs root csrs n (Interrupt Sie) row = Both _ _ refl refl (vsie_twins root csrs) (row refl)
twins_in_vs root csrs n (Interrupt Sip) row = Both _ _ refl refl (vsip_twins root csrs) (row refl)
twins_in_vs root csrs n (Interrupt Vsie) row = Withheld refl
twins_in_vs root csrs n (Interrupt Vsip) row = Withheld refl
twins_in_vs root csrs n (Interrupt Hideleg) row = Withheld refl
twins_in_vs root csrs n (Interrupt Hie) row = Withheld refl
twins_in_vs root csrs n (Interrupt Hip) row = Withheld refl
twins_in_vs root csrs n (Interrupt Hvip) row = Withheld refl
twins_in_vs root csrs n (Enable Scounteren) row = Both _ _ refl refl (scounteren_twins root true csrs) (row refl)
twins_in_vs root csrs n (Enable Senvcfg) row = Both _ _ refl refl (senvcfg_twins root true csrs) (row refl)
twins_in_vs root csrs n (Enable Hcounteren) row = Withheld refl
twins_in_vs root csrs n (Enable Henvcfg) row = Withheld refl
twins_in_vs root csrs n (Hypervisor r) row = Withheld refl
twins_in_vs root csrs n Time row = Withheld refl
twins_in_vs root csrs n GuestTime row = Withheld refl

-- in VU each register is withheld, and a number that names none is illegal in both modes
pub reached_alike : (root : GuestRoot) (csrs : Csrs) (mode : Mode) (n : ℕ) (r : Option Register) → register_of n ≡ r
    → Reaches root (is_virtual mode) csrs n (reached_by csrs mode r) (reached_by (hosted_csrs root (is_virtual mode) csrs) (hosted_mode mode) r)
unfolding reached_by reached reached_in_vu
reached_alike root csrs HS n (Some r) e = twins_in_hs root csrs n r (λ good. first_row n (rw e good))
reached_alike root csrs HS n None e = Nothing refl refl
reached_alike root csrs U n (Some Time) e = Withheld refl
reached_alike root csrs U n (Some r) e = Withheld refl
reached_alike root csrs U n None e = Nothing refl refl
reached_alike root csrs VS n (Some r) e = twins_in_vs root csrs n r (λ good. first_row n (rw e good))
reached_alike root csrs VS n None e = Nothing refl refl
reached_alike root csrs VU n (Some Time) e = Withheld refl
reached_alike root csrs VU n (Some r) e = Withheld refl
reached_alike root csrs VU n None e = Nothing refl refl

-- a read, by what the number is to both
read_alike : (root : GuestRoot) (virtual : Bool) (csrs : Csrs) (n value : ℕ) (own hart : Result Register CsrEnd) → Reaches root virtual csrs n own hart → value_of (hosted_csrs root virtual csrs) hart ≡ Ok value
    → value_of csrs own ≡ Ok value
read_alike root virtual csrs n value own hart (Nothing e f) is = cc
read_alike root virtual csrs n value own hart (Withheld f) is = cc
read_alike root virtual csrs n value own hart (Both r twin e f twins row) is = rw e (rw (f, twins.shows) at is)

pub reads_alike : ReadsAlike
unfolding read_csr
reads_alike = λ root csrs mode n value is. read_alike root (is_virtual mode) csrs n value _ _ (reached_alike root csrs mode n (register_of n) refl) is

illegal_by : (root : GuestRoot) (virtual : Bool) (csrs : Csrs) (n : ℕ) (own hart : Result Register CsrEnd) → Reaches root virtual csrs n own hart → value_of (hosted_csrs root virtual csrs) hart ≡ Err Illegal
    → value_of csrs own ≡ Err Illegal
illegal_by root virtual csrs n own hart (Nothing e f) is = rw e refl
illegal_by root virtual csrs n own hart (Withheld f) is = cc
illegal_by root virtual csrs n own hart (Both r twin e f twins row) is = cc

pub illegal_alike : IllegalAlike
unfolding read_csr
illegal_alike = λ root csrs mode n is. illegal_by root (is_virtual mode) csrs n _ _ (reached_alike root csrs mode n (register_of n) refl) is

-- a write, by whether the number is one of those that cannot be written
write_alike : (root : GuestRoot) (virtual : Bool) (csrs after : Csrs) (n value : ℕ) (late : Bool) (own hart : Result Register CsrEnd) → Reaches root virtual csrs n own hart
    → written_by (hosted_csrs root virtual csrs) (cond late (Err Illegal) hart) value ≡ Ok after → written_by csrs (cond late (Err Illegal) own) value ≡ Ok (saved_csrs virtual after csrs)
write_alike root virtual csrs after n value true own hart reaches is = cc
write_alike root virtual csrs after n value false own hart (Nothing e f) is = cc
write_alike root virtual csrs after n value false own hart (Withheld f) is = cc
write_alike root virtual csrs after n value false own hart (Both r twin e f twins row) is =
    let same : written (hosted_csrs root virtual csrs) twin value ≡ after = cc in rw (e, ← twins.changes value, same) refl

pub writes_alike : WritesAlike
unfolding write_csr named_to_write
writes_alike = λ root csrs after mode n value is. write_alike root (is_virtual mode) csrs after n value (nat_le 0xC00 n) _ _ (reached_alike root csrs mode n (register_of n) refl) is

not_written : (root : GuestRoot) (virtual : Bool) (csrs : Csrs) (n value : ℕ) (late : Bool) (own hart : Result Register CsrEnd) → Reaches root virtual csrs n own hart
    → written_by (hosted_csrs root virtual csrs) (cond late (Err Illegal) hart) value ≡ Err Illegal → written_by csrs (cond late (Err Illegal) own) value ≡ Err Illegal
not_written root virtual csrs n value true own hart reaches is = refl
not_written root virtual csrs n value false own hart (Nothing e f) is = rw e refl
not_written root virtual csrs n value false own hart (Withheld f) is = cc
not_written root virtual csrs n value false own hart (Both r twin e f twins row) is = cc

pub illegal_to_write_alike : IllegalToWriteAlike
unfolding write_csr named_to_write
illegal_to_write_alike = λ root csrs mode n value is. not_written root (is_virtual mode) csrs n value (nat_le 0xC00 n) _ _ (reached_alike root csrs mode n (register_of n) refl) is
