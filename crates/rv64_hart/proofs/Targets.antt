-- Where traps go.
use Rattle.std.proofs.Common.{◌≡◌, ℕ, ◌/◌, ◌%◌, ◌^◌, ◌<◌, List, IsTrue, false, refl, rules, arith}
use Rattle.arch_defs.specs.declared.hart_states.HartState.{HartState}
use Rattle.arch_defs.specs.declared.levels.Level.TheVariants as level
use Rattle.arch_defs.specs.declared.modes.Access.{Access}
use Rattle.arch_defs.specs.declared.modes.Access.TheVariants.{Fetch, Load, Store, ExecLoad, Implicit}
use Rattle.arch_defs.specs.declared.modes.Mode.{Mode}
use Rattle.arch_defs.specs.declared.modes.Mode.TheVariants.{HS, U, VS, VU}
use Rattle.arch_defs.specs.declared.modes.Trap.{Trap}
use Rattle.arch_defs.specs.declared.registers.Csrs.{Csrs}
use Rattle.arch_defs.specs.declared.walks.MissingPlace.{MissingPlace}
use Rattle.arch_defs.specs.Bits.{bit}
use Rattle.arch_defs.specs.SecondStage.{guest_page_trap}
use Rattle.arch_defs.specs.Traps.{is_delegated, is_virtual, target, faults_of}
use Rattle.rv64_hart.specs.Steps.{Exits, Raises, end_by}

-- only with V = 1 to VS
pub virtual_to_vs : (csrs : Csrs) (mode : Mode) (trap : Trap) → target csrs mode trap ≡ level.VS → IsTrue (is_virtual mode)
unfolding target
virtual_to_vs csrs HS trap e = absurd (cc)
virtual_to_vs csrs U trap e = absurd (cc)
virtual_to_vs csrs VS trap e = search rules
virtual_to_vs csrs VU trap e = search rules

-- what is not delegated goes to HS
left : (csrs : Csrs) (mode : Mode) (trap : Trap) → is_delegated csrs trap.interrupt trap.cause ≡ false → target csrs mode trap ≡ level.HS
unfolding target
left csrs HS trap e = refl
left csrs U trap e = refl
left csrs VS trap e = rw e refl
left csrs VU trap e = rw e refl

-- a number of 16 bits has no bit for a guest-page fault
bit_20 : (n : ℕ) → n < 65536 → bit 20 n ≡ false
bit_20 n h = let e : n / 2 ^ 20 % 2 ≡ 0 = omega arith in rw e refl

bit_21 : (n : ℕ) → n < 65536 → bit 21 n ≡ false
bit_21 n h = let e : n / 2 ^ 21 % 2 ≡ 0 = omega arith in rw e refl

bit_23 : (n : ℕ) → n < 65536 → bit 23 n ≡ false
bit_23 n h = let e : n / 2 ^ 23 % 2 ≡ 0 = omega arith in rw e refl

kept_by_hs : (csrs : Csrs) (access : Access) → csrs.hedeleg < 65536 → is_delegated csrs false (faults_of access).guest_page ≡ false
kept_by_hs csrs Fetch h = bit_20 csrs.hedeleg h
kept_by_hs csrs Load h = bit_21 csrs.hedeleg h
kept_by_hs csrs ExecLoad h = bit_21 csrs.hedeleg h
kept_by_hs csrs Implicit h = bit_21 csrs.hedeleg h
kept_by_hs csrs Store h = bit_23 csrs.hedeleg h

pub guest_page_fault_exits : (s : HartState) (memory : List ℕ) (missing : MissingPlace) → s.virt.csrs.hedeleg < 2 ^ 16
    → end_by s memory (Raises (guest_page_trap missing)) ≡ Exits (guest_page_trap missing)
guest_page_fault_exits s memory missing h =
    rw (left s.virt.csrs s.virt.mode (guest_page_trap missing) (kept_by_hs s.virt.csrs missing.access h)) refl
