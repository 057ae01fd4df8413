-- Values of hgatp, and of satp and vsatp, are the same exactly if MODE, PPN, and VMID or ASID are.
use Rattle.std.proofs.Common.{◌≡◌, ◌==◌, ◌&&◌, true, false, refl, arith}
use Rattle.std.proofs.lemmas.Bool.{and_parts, both_ways, eq-eqb, eqb-true}
use Rattle.arch_defs.specs.declared.roots.GuestMode.{GuestMode}
use Rattle.arch_defs.specs.declared.roots.GuestMode.TheVariants.{Sv39x4, Sv48x4}
use Rattle.arch_defs.specs.declared.roots.GuestRoot.{GuestRoot}
use Rattle.arch_defs.specs.declared.roots.GuestRoot.TheVariants.{Bare, Table}
use Rattle.arch_defs.specs.declared.roots.SupervisorMode.{SupervisorMode}
use Rattle.arch_defs.specs.declared.roots.SupervisorMode.TheVariants.{Sv39, Sv48}
use Rattle.arch_defs.specs.declared.roots.SupervisorRoot.{SupervisorRoot}
use Rattle.arch_defs.specs.declared.roots.SupervisorRoot.TheVariants as supervisor
use Rattle.arch_defs.specs.Roots.{guest_mode_number, is_atp, is_root, supervisor_mode_number}

pub root_is : (key : GuestRoot) → is_root key key ≡ true
root_is Bare = refl
root_is (Table mode vmid ppn) =
    rw (eq-eqb (guest_mode_number mode) (guest_mode_number mode) refl, eq-eqb vmid vmid refl, eq-eqb ppn ppn refl) refl

guest_mode_same : (a b : GuestMode) → guest_mode_number a ≡ guest_mode_number b → a ≡ b
guest_mode_same Sv39x4 Sv39x4 is = refl
guest_mode_same Sv39x4 Sv48x4 is = absurd (omega (arith, is))
guest_mode_same Sv48x4 Sv39x4 is = absurd (omega (arith, is))
guest_mode_same Sv48x4 Sv48x4 is = refl

pub root_same : (a b : GuestRoot) → is_root a b ≡ true → a ≡ b
root_same Bare Bare is = refl
root_same Bare (Table mode vmid ppn) is = absurd (both_ways false refl is)
root_same (Table mode vmid ppn) Bare is = absurd (both_ways false refl is)
root_same (Table mode vmid ppn) (Table mode' vmid' ppn') is =
    let modes = and_parts (guest_mode_number mode == guest_mode_number mode') (vmid == vmid' && ppn == ppn') is in
    let both = and_parts (vmid == vmid') (ppn == ppn') modes.1 in
    let same = guest_mode_same mode mode' (eqb-true (guest_mode_number mode) (guest_mode_number mode') modes.0) in
    λ i. Table (same i) (eqb-true vmid vmid' both.0 i) (eqb-true ppn ppn' both.1 i)

supervisor_mode_same : (a b : SupervisorMode) → supervisor_mode_number a ≡ supervisor_mode_number b → a ≡ b
supervisor_mode_same Sv39 Sv39 is = refl
supervisor_mode_same Sv39 Sv48 is = absurd (omega (arith, is))
supervisor_mode_same Sv48 Sv39 is = absurd (omega (arith, is))
supervisor_mode_same Sv48 Sv48 is = refl

pub atp_same : (a b : SupervisorRoot) → is_atp a b ≡ true → a ≡ b
atp_same supervisor.Bare supervisor.Bare is = refl
atp_same supervisor.Bare (supervisor.Table mode asid ppn) is = absurd (both_ways false refl is)
atp_same (supervisor.Table mode asid ppn) supervisor.Bare is = absurd (both_ways false refl is)
atp_same (supervisor.Table mode asid ppn) (supervisor.Table mode' asid' ppn') is =
    let modes = and_parts (supervisor_mode_number mode == supervisor_mode_number mode') (asid == asid' && ppn == ppn') is in
    let both = and_parts (asid == asid') (ppn == ppn') modes.1 in
    let same = supervisor_mode_same mode mode' (eqb-true (supervisor_mode_number mode) (supervisor_mode_number mode') modes.0) in
    λ i. supervisor.Table (same i) (eqb-true asid asid' both.0 i) (eqb-true ppn ppn' both.1 i)
