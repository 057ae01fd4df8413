-- Instructions that the mode decides on, on the lone machine and on the hart.
use Rattle.std.specs.Prelude.{◌^◌, nat_le, Result, Err}
use Rattle.std.proofs.Common.{cond, ◌≡◌, ℕ, ◌<◌, Some, None, Bool, true, false, refl, ap}
use Rattle.arch_defs.specs.declared.cached.Fence.{Fence}
use Rattle.arch_defs.specs.declared.csr_names.CsrEnd.{CsrEnd}
use Rattle.arch_defs.specs.declared.csr_names.CsrEnd.TheVariants.{Illegal, Virtual as VirtualInstruction}
use Rattle.arch_defs.specs.declared.csr_names.Register.{Register}
use Rattle.arch_defs.specs.declared.modes.Mode.{Mode}
use Rattle.arch_defs.specs.declared.modes.Mode.TheVariants.{HS, U, VS, VU}
use Rattle.arch_defs.specs.declared.modes.TheConstants.{ILLEGAL_INSTRUCTION, VIRTUAL_INSTRUCTION}
use Rattle.arch_defs.specs.declared.roots.GuestRoot.{GuestRoot}
use Rattle.arch_defs.specs.declared.registers.Virtual.{Virtual}
use Rattle.arch_defs.specs.CsrAccess.{named_to_write, read_csr, shown, value_of, write_csr, written, written_by}
use Rattle.arch_defs.specs.CsrNames.{register_of}
use Rattle.arch_defs.specs.Traps.{exception, is_virtual, returned}
use Rattle.op_defs.specs.declared.ops.CsrOp.{CsrOp}
use Rattle.op_defs.specs.declared.ops.DataAccess.{DataAccess}
use Rattle.op_defs.specs.declared.ops.Privileged.{Privileged}
use Rattle.op_defs.specs.declared.ops.Privileged.TheVariants.{Csr, Sret, Wfi, SfenceVma, HfenceVvma, HfenceGvma, HlvAccess}
use Rattle.arch_defs.specs.Registers.{passed, sets}
use Rattle.machine_defs.specs.Outcomes.{Outcome, FirstFenced}
use Rattle.machine_defs.specs.Privileges.{combined, csr_accessed, csr_changed, csr_shown, decided, left_by_sret, privileged, refusal, refused, value_or_zero, virtual_if}
use Rattle.hosted_steps.proofs.Decided.{privileged_in}
use Rattle.world_switch.specs.Hosting.{hart_state_of, hosted_csrs, hosted_mode}
use Rattle.world_switch.proofs.Instructions.{always_virtual, supervisor_again}
use Rattle.world_switch.proofs.Registers.{Nothing, Withheld, Both, Reaches, reached_alike}
use Rattle.world_switch.proofs.Undone.{same_csrs}
use Rattle.hosted_steps.proofs.Delegation.{own_2}
use Rattle.hosted_steps.proofs.Stands.{Own, Stands, Traps, as_loaded, ends_csrs, kept, left, none_written}

-- what the hart leaves to the host
abbrev Leaves : Virtual → Outcome → ℕ → Type 0
Leaves s lone word = Traps s lone (exception (hosted_mode s.mode) VIRTUAL_INSTRUCTION word)

-- a read, by what the number is to both
shown_stands : (root : GuestRoot) (s : Virtual) (word n rd : ℕ) (own hart : Result Register CsrEnd)
    → Leaves s (csr_shown s word rd (value_of s.csrs own)) word → Reaches root (is_virtual s.mode) s.csrs n own hart
    → Stands root s (csr_shown s word rd (value_of s.csrs own))
    (csr_shown (hart_state_of root s) word rd (value_of (hosted_csrs root (is_virtual s.mode) s.csrs) hart))
shown_stands root s word n rd own hart leaves (Nothing e f) = rw (e, f) (Own ILLEGAL_INSTRUCTION word refl refl own_2)
shown_stands root s word n rd own hart leaves (Withheld f) = rw f leaves
shown_stands root s word n rd own hart leaves (Both r twin e f twins row) =
    rw (e, f, twins.shows)
    (ends_csrs root s (sets s rd (shown s.csrs r)).regs (hosted_csrs root (is_virtual s.mode) s.csrs) s.csrs (same_csrs root (is_virtual s.mode) s.csrs) (none_written root (is_virtual s.mode) s.csrs))

-- a write of what a number reaches, by whether the number is one of those that cannot be written
abbrev changed : Virtual → ℕ → CsrOp → ℕ → ℕ → Bool → Result Register CsrEnd → Outcome
changed s word op operand rd late r =
    let before = value_or_zero (value_of s.csrs r) in csr_changed s word rd before (written_by s.csrs (cond late (Err Illegal) r) (combined op before operand))

-- a write, by what the number is to both
changed_stands : (root : GuestRoot) (s : Virtual) (word n : ℕ) (op : CsrOp) (operand rd : ℕ) (late : Bool) (own hart : Result Register CsrEnd)
    → Leaves s (changed s word op operand rd late own) word → Reaches root (is_virtual s.mode) s.csrs n own hart
    → Stands root s (changed s word op operand rd late own) (changed (hart_state_of root s) word op operand rd late hart)
changed_stands root s word n op operand rd true own hart leaves reaches = Own ILLEGAL_INSTRUCTION word refl refl own_2
changed_stands root s word n op operand rd false own hart leaves (Nothing e f) =
    rw (e, f) (Own ILLEGAL_INSTRUCTION word refl refl own_2)
changed_stands root s word n op operand rd false own hart leaves (Withheld f) = rw f leaves
changed_stands root s word n op operand rd false own hart leaves (Both r twin e f twins row) =
    let before = shown s.csrs r in
    let v = combined op before operand in
    rw (e, f, twins.shows)
    (ends_csrs root s (sets s rd before).regs (written (hosted_csrs root (is_virtual s.mode) s.csrs) twin v) (written s.csrs r v) (twins.changes v) (twins.keeps v))

-- an instruction on a control and status register
csr_stands : (root : GuestRoot) (s : Virtual) (word : ℕ) (op : CsrOp) (n operand : ℕ) (writes : Bool) (rd : ℕ)
    → Leaves s (csr_accessed s word op n operand writes rd) word
    → Stands root s (csr_accessed s word op n operand writes rd) (csr_accessed (hart_state_of root s) word op n operand writes rd)
unfolding read_csr write_csr named_to_write
csr_stands root s word op n operand true rd leaves =
    changed_stands root s word n op operand rd (nat_le 0xC00 n) _ _ leaves (reached_alike root s.csrs s.mode n (register_of n) refl)
csr_stands root s word op n operand false rd leaves =
    shown_stands root s word n rd _ _ leaves (reached_alike root s.csrs s.mode n (register_of n) refl)

-- SFENCE.VMA, which changes no register where it is made
fences : (root : GuestRoot) (s : Virtual) (fence : Fence) → Stands root s (FirstFenced (passed s) None fence) (FirstFenced (passed (hart_state_of root s)) None fence)
fences root s fence = (
  ap (λ v. FirstFenced v None fence)
      (kept root s (passed s).regs (hosted_csrs root (is_virtual s.mode) s.csrs) s.csrs s.reservation (same_csrs root (is_virtual s.mode) s.csrs)),
  as_loaded root s (passed s).regs s.reservation,
)

fence_if : (root : GuestRoot) (s : Virtual) (word : ℕ) (fence : Fence) (kept : Bool) → Leaves s (decided s word (SfenceVma fence) (virtual_if kept)) word
    → Stands root s (decided s word (SfenceVma fence) (virtual_if kept)) (decided (hart_state_of root s) word (SfenceVma fence) (virtual_if kept))
fence_if root s word fence true leaves = leaves
fence_if root s word fence false leaves = fences root s fence

fence_stands : (root : GuestRoot) (s : Virtual) (word : ℕ) (fence : Fence) (mode : Mode) → Leaves (record s { mode = mode }) (privileged (record s { mode = mode }) word (SfenceVma fence)) word
    → Stands root (record s { mode = mode }) (privileged (record s { mode = mode }) word (SfenceVma fence)) (privileged (hart_state_of root (record s { mode = mode })) word (SfenceVma fence))
unfolding privileged refusal
fence_stands root s word fence HS leaves = fences root (record s { mode = HS }) fence
fence_stands root s word fence U leaves = leaves
fence_stands root s word fence VS leaves = fence_if root (record s { mode = VS }) word fence s.csrs.hstatus.vtvm leaves
fence_stands root s word fence VU leaves = leaves

-- an SRET of VS, where the guest lets it
returns : (root : GuestRoot) (s : Virtual) → Stands root (record s { mode = VS }) (left_by_sret (record s { mode = VS })) (left_by_sret (hart_state_of root (record s { mode = VS })))
unfolding returned
returns root s = (
  rw (supervisor_again s.csrs.vs.status.spp) refl,
  record {
    csrs = record { rest = refl; timer = λ e. cc; external = λ e. cc; waits = refl };
    mode = always_virtual s.csrs.vs.status.spp;
  },
)

return_if : (root : GuestRoot) (s : Virtual) (word : ℕ) (kept : Bool) → Leaves (record s { mode = VS }) (decided (record s { mode = VS }) word Sret (virtual_if kept)) word
    → Stands root (record s { mode = VS }) (decided (record s { mode = VS }) word Sret (virtual_if kept)) (decided (hart_state_of root (record s { mode = VS })) word Sret (virtual_if kept))
return_if root s word true leaves = leaves
return_if root s word false leaves = returns root s

return_stands : (root : GuestRoot) (s : Virtual) (word : ℕ) (mode : Mode) → Leaves (record s { mode = mode }) (privileged (record s { mode = mode }) word Sret) word
    → Stands root (record s { mode = mode }) (privileged (record s { mode = mode }) word Sret) (privileged (hart_state_of root (record s { mode = mode })) word Sret)
unfolding privileged refusal
return_stands root s word HS leaves = leaves
return_stands root s word U leaves = leaves
return_stands root s word VS leaves = return_if root s word s.csrs.hstatus.vtsr leaves
return_stands root s word VU leaves = leaves

-- what the hart has in neither of its modes
record IsWithheld (s : Virtual) (word : ℕ) : Type 0 where
  wfi : privileged s word Wfi ≡ refused s word VirtualInstruction
  vvma : (fence : Fence) → privileged s word (HfenceVvma fence) ≡ refused s word VirtualInstruction
  gvma : (fence : Fence) → privileged s word (HfenceGvma fence) ≡ refused s word VirtualInstruction
  hlv : (wanted : DataAccess) → privileged s word (HlvAccess wanted) ≡ refused s word VirtualInstruction

withheld : (root : GuestRoot) (s : Virtual) (word : ℕ) (mode : Mode) → IsWithheld (hart_state_of root (record s { mode = mode })) word
unfolding privileged refusal
withheld root s word HS = record { wfi = refl; vvma = λ fence. refl; gvma = λ fence. refl; hlv = λ wanted. refl }
withheld root s word U = record { wfi = refl; vvma = λ fence. refl; gvma = λ fence. refl; hlv = λ wanted. refl }
withheld root s word VS = record { wfi = refl; vvma = λ fence. refl; gvma = λ fence. refl; hlv = λ wanted. refl }
withheld root s word VU = record { wfi = refl; vvma = λ fence. refl; gvma = λ fence. refl; hlv = λ wanted. refl }

csr_decided : (root : GuestRoot) (s : Virtual) (word : ℕ) (op : CsrOp) (n operand : ℕ) (writes : Bool) (rd : ℕ) → Leaves s (privileged s word (Csr op n operand writes rd)) word
    → Stands root s (privileged s word (Csr op n operand writes rd)) (privileged (hart_state_of root s) word (Csr op n operand writes rd))
unfolding privileged refusal
csr_decided root s word op n operand writes rd leaves = csr_stands root s word op n operand writes rd leaves

-- an instruction that the mode decides on, by what it is
decided_stands : (root : GuestRoot) (s : Virtual) (word : ℕ) (p : Privileged) → Leaves s (privileged s word p) word
    → Stands root s (privileged s word p) (privileged (hart_state_of root s) word p)
decided_stands root s word (Csr op n operand writes rd) leaves = csr_decided root s word op n operand writes rd leaves
decided_stands root s word Sret leaves = return_stands root s word s.mode leaves
decided_stands root s word Wfi leaves = rw (withheld root s word s.mode).wfi leaves
decided_stands root s word (SfenceVma fence) leaves = fence_stands root s word fence s.mode leaves
decided_stands root s word (HfenceVvma fence) leaves = rw ((withheld root s word s.mode).vvma fence) leaves
decided_stands root s word (HfenceGvma fence) leaves = rw ((withheld root s word s.mode).gvma fence) leaves
decided_stands root s word (HlvAccess wanted) leaves = rw ((withheld root s word s.mode).hlv wanted) leaves

pub privileged_stands : (root : GuestRoot) (s : Virtual) (word : ℕ) (p : Privileged) → word < 2 ^ 32 → privileged_in word s.regs ≡ Some p
    → Stands root s (privileged s word p) (privileged (hart_state_of root s) word p)
privileged_stands root s word p small e = decided_stands root s word p (left s word p small e)
