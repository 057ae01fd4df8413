-- What an instruction is on the hart, by what it is to the lone machine for which the hart stands.
use Rattle.std.proofs.Common.{cond, ◌≡◌, ℕ, ◌^◌, ◌<◌, Option, Some, None, Bool, true, false, refl, ap, sym}
use Rattle.arch_defs.specs.declared.modes.Trap.{Trap}
use Rattle.arch_defs.specs.declared.modes.TheConstants.{ECALL_FROM_VS, VIRTUAL_INSTRUCTION}
use Rattle.arch_defs.specs.declared.registers.Csrs.{Csrs}
use Rattle.arch_defs.specs.declared.roots.GuestRoot.{GuestRoot}
use Rattle.arch_defs.specs.declared.registers.Regs.{Regs}
use Rattle.arch_defs.specs.declared.registers.Virtual.{Virtual}
use Rattle.arch_defs.specs.declared.walks.MissingPlace.{MissingPlace}
use Rattle.arch_defs.specs.Memory.{Stored}
use Rattle.arch_defs.specs.Traps.{exception, is_virtual, faults_of}
use Rattle.op_defs.specs.declared.ops.DataAccess.{DataAccess}
use Rattle.op_defs.specs.declared.ops.Privileged.{Privileged}
use Rattle.op_defs.specs.Table.{is_system}
use Rattle.machine_defs.specs.declared.events.Event.TheVariants.{Plain, System}
use Rattle.machine_defs.specs.Core.{Located, At, Fails, Faults, Misses, at_place, event_of}
use Rattle.machine_defs.specs.Outcomes.{Outcome, Done, Trapped, Missed, Called, Waits, Fenced, FirstFenced, Accesses}
use Rattle.machine_defs.specs.Privileges.{privileged}
use Rattle.rv64_hart.specs.Steps.{enters_vs}
use Rattle.world_switch.specs.Hosting.{guest_state_after, guest_state_of, hart_state_of, hosted_csrs, hosted_mode, saved_csrs}
use Rattle.world_switch.specs.Laws.{KeepsHidden}
use Rattle.world_switch.proofs.Undone.{same_csrs, same_mode, virtual_mode}
use Rattle.instruction_laws.specs.MissedPlaces.{access_of}
use Rattle.hosted_steps.proofs.Decided.{privileged_in}
use Rattle.hosted_steps.specs.HartSteps.{KeepsHart, event_for}
use Rattle.hosted_steps.proofs.Delegation.{IsOwn}

-- what a trap on the hart is: the lone machine's own, with V = 0 its call of the environment, with V = 1 that of its HS, or an
-- instruction that its mode decides on
pub data Traps (s : Virtual) (lone : Outcome) (trap : Trap) : Type 0 where
  Own : (cause tval : ℕ) → trap ≡ exception (hosted_mode s.mode) cause tval → lone ≡ Trapped (exception s.mode cause tval)
      → IsOwn cause → Traps s lone trap
  Call : is_virtual s.mode ≡ false → trap ≡ exception (hosted_mode s.mode) ECALL_FROM_VS 0 → lone ≡ Called → Traps s lone trap
  Nested : is_virtual s.mode ≡ true → trap ≡ exception (hosted_mode s.mode) ECALL_FROM_VS 0 → lone ≡ Trapped trap → Traps s lone trap
  Left : (tval : ℕ) → trap ≡ exception (hosted_mode s.mode) VIRTUAL_INSTRUCTION tval → tval < 2 ^ 32 → (p : Privileged)
      → privileged_in tval s.regs ≡ Some p → lone ≡ privileged s tval p → Traps s lone trap

-- the guest-page fault of an access without a place tells which access it is
abbrev pub IsTold : MissingPlace → Type 0
IsTold missing = access_of (faults_of missing.access).guest_page ≡ missing.access

-- what an outcome on the hart is to the lone machine in this state
abbrev pub Stands : (root : GuestRoot) → Virtual → Outcome → Outcome → Type 0
Stands root s lone (Done hart stored event) =
    (lone ≡ Done (guest_state_after (enters_vs event) hart s) stored (event_for (is_virtual s.mode) event)) × KeepsHart root s hart
Stands root s lone (Trapped trap) = Traps s lone trap
Stands root s lone (Missed missing wanted) =
    (lone ≡ Missed (record missing { mode = s.mode }) wanted) × (missing.mode ≡ hosted_mode s.mode) × IsTold missing
Stands root s lone Called = ⊥
Stands root s lone (Waits hart) = ⊥
Stands root s lone (Fenced hart fence) = ⊥
Stands root s lone (FirstFenced hart named fence) = (lone ≡ FirstFenced (guest_state_of hart s) named fence) × KeepsHart root s hart
Stands root s lone (Accesses access) = ⊥

-- where an access is made, in both, by where the hart makes it
abbrev pub SamePlace : Virtual → Located → Located → Type 0
SamePlace s lone (At place) = lone ≡ At place
SamePlace s lone (Fails (Faults trap)) = (own : Trap) × (lone ≡ Fails (Faults own)) × Traps s (Trapped own) trap
SamePlace s lone (Fails (Misses missing)) =
    (lone ≡ Fails (Misses (record missing { mode = s.mode }))) × (missing.mode ≡ hosted_mode s.mode) × IsTold missing

-- so what goes on there alike ends alike
pub at_stands : (root : GuestRoot) (s : Virtual) (wanted : Option DataAccess) (rest rest' : ℕ → Outcome) → ((place : ℕ) → Stands root s (rest place) (rest' place))
    → (lone hart : Located) → SamePlace s lone hart → Stands root s (at_place wanted lone rest) (at_place wanted hart rest')
at_stands root s wanted rest rest' goes lone (At place) e = rw e (goes place)
at_stands root s wanted rest rest' goes lone (Fails (Faults trap)) (own, e, traps) = rw e traps
at_stands root s wanted rest rest' goes lone (Fails (Misses missing)) (e, mode, told) = rw e (refl, mode, told)

-- what the hart does not change comes back
pub kept : (root : GuestRoot) (s : Virtual) (regs : Regs) (hart own : Csrs) (place : Option (ℕ × ℕ)) → saved_csrs (is_virtual s.mode) hart s.csrs ≡ own
    → record s { regs = regs; csrs = own; reservation = place } ≡ guest_state_of (record (hart_state_of root s) { regs = regs; csrs = hart; reservation = place }) s
kept root s regs hart own place same = sym (rw (same, same_mode s.mode) refl)

-- and the hart keeps what it does not have for the guest
pub none_written : (root : GuestRoot) (virtual : Bool) (csrs : Csrs) → KeepsHidden root virtual csrs (hosted_csrs root virtual csrs)
none_written root false csrs = record { rest = refl; timer = λ e. refl; external = λ e. refl; waits = refl }
none_written root true csrs = record { rest = refl; timer = λ e. cc; external = λ e. cc; waits = refl }

pub as_loaded : (root : GuestRoot) (s : Virtual) (regs : Regs) (place : Option (ℕ × ℕ)) → KeepsHart root s (record (hart_state_of root s) { regs = regs; reservation = place })
as_loaded root s regs place = record { csrs = none_written root (is_virtual s.mode) s.csrs; mode = virtual_mode s.mode }

-- an instruction that changes registers, memory and the reservation alone
pub completes : (root : GuestRoot) (s : Virtual) (pc word : ℕ) (regs : Regs) (place : Option (ℕ × ℕ)) (stored : Option Stored)
    → Stands root s (Done (record s { regs = regs; reservation = place }) stored (event_of pc word))
    (Done (record (hart_state_of root s) { regs = regs; reservation = place }) stored (event_of pc word))
completes root s pc word regs place stored = by (is_system word)
  where
    back : record s { regs = regs; reservation = place } ≡ guest_state_of (record (hart_state_of root s) { regs = regs; reservation = place }) s
    back = kept root s regs (hosted_csrs root (is_virtual s.mode) s.csrs) s.csrs place (same_csrs root (is_virtual s.mode) s.csrs)

    by : (system : Bool) → Stands root s (Done (record s { regs = regs; reservation = place }) stored (cond system System (Plain pc word)))
        (Done (record (hart_state_of root s) { regs = regs; reservation = place }) stored (cond system System (Plain pc word)))
    by true = (ap (λ v. Done v stored System) back, as_loaded root s regs place)
    by false = (ap (λ v. Done v stored (Plain pc word)) back, as_loaded root s regs place)

-- an instruction that changes registers, control and status registers among them
pub ends_csrs : (root : GuestRoot) (s : Virtual) (regs : Regs) (hart own : Csrs) → saved_csrs (is_virtual s.mode) hart s.csrs ≡ own
    → KeepsHidden root (is_virtual s.mode) s.csrs hart → Stands root s (Done (record s { regs = regs; csrs = own }) None System) (Done (record (hart_state_of root s) { regs = regs; csrs = hart }) None System)
ends_csrs root s regs hart own same keeps =
    (rw (← kept root s regs hart own s.reservation same) refl, record { csrs = keeps; mode = virtual_mode s.mode })

-- an instruction that the hart leaves to the host
pub left : (s : Virtual) (word : ℕ) (p : Privileged) → word < 2 ^ 32 → privileged_in word s.regs ≡ Some p
    → Traps s (privileged s word p) (exception (hosted_mode s.mode) VIRTUAL_INSTRUCTION word)
left s word p small e = Left word refl small p e refl
