-- Instructions that the mode decides on, which the hart makes or leaves to the host.
use Rattle.std.specs.Prelude.{◌&&◌}
use Rattle.std.proofs.Common.{◌≡◌, ℕ, None, Bool, true, false, refl}
use Rattle.arch_defs.specs.declared.cached.Fence.{Fence}
use Rattle.arch_defs.specs.declared.csr_names.CsrEnd.TheVariants.{Virtual as VirtualInstruction}
use Rattle.arch_defs.specs.declared.modes.Mode.{Mode}
use Rattle.arch_defs.specs.declared.modes.Mode.TheVariants.{HS, U, VS, VU}
use Rattle.arch_defs.specs.declared.roots.GuestRoot.{GuestRoot}
use Rattle.arch_defs.specs.declared.registers.Virtual.{Virtual}
use Rattle.arch_defs.specs.CsrAccess.{reached, reached_by, reached_in_vs, reached_in_vu, read_csr}
use Rattle.arch_defs.specs.CsrNames.{read_only_register, register_of}
use Rattle.arch_defs.specs.Traps.{arrived, is_supervisor, is_virtual, mode_of, returned, returned_from_vs}
use Rattle.op_defs.specs.declared.ops.Privileged.TheVariants.{Sret, Wfi, SfenceVma}
use Rattle.machine_defs.specs.declared.events.Event.TheVariants.{System}
use Rattle.arch_defs.specs.Registers.{passed}
use Rattle.machine_defs.specs.Outcomes.{Done, FirstFenced}
use Rattle.machine_defs.specs.Privileges.{decided, privileged, refusal, refused, virtual_if}
use Rattle.world_switch.specs.Hosting.{guest_state_of, hart_state_of}
use Rattle.world_switch.specs.Laws.{FencesAlike, OwnMxr, ReturnsAlike, TimeIsLeft, WaitsAreLeft}
use Rattle.world_switch.proofs.Undone.{same_csrs, same_mode}

mxr_in : (root : GuestRoot) (v : Virtual) (mode : Mode) → (hart_state_of root (record v { mode = mode })).csrs.hs.status.mxr ≡ (is_virtual mode && v.csrs.hs.status.mxr)
mxr_in root v HS = refl
mxr_in root v U = refl
mxr_in root v VS = refl
mxr_in root v VU = refl

pub own_mxr : OwnMxr
own_mxr = λ root v. mxr_in root v v.mode

-- an SRET of VS stays in V = 1
pub supervisor_again : (b : Bool) → mode_of true (is_supervisor (mode_of true b)) ≡ mode_of true b
supervisor_again true = refl
supervisor_again false = refl

pub always_virtual : (b : Bool) → is_virtual (mode_of true b) ≡ true
always_virtual true = refl
always_virtual false = refl

returned_if : (root : GuestRoot) (v after : Virtual) (word : ℕ) (kept : Bool)
    → decided (hart_state_of root (record v { mode = VS })) word Sret (virtual_if kept) ≡ Done after None System
    → decided (record v { mode = VS }) word Sret (virtual_if kept) ≡ Done (guest_state_of after (record v { mode = VS })) None System
unfolding returned
returned_if root v after word true e = cc
returned_if root v after word false e =
    let s = hart_state_of root (record v { mode = VS }) in
    let is : arrived s (returned_from_vs s.csrs s.regs) ≡ after = cc in rw (← is, supervisor_again v.csrs.vs.status.spp) refl

returned_by : (root : GuestRoot) (v after : Virtual) (word : ℕ) (mode : Mode)
    → privileged (hart_state_of root (record v { mode = mode })) word Sret ≡ Done after None System
    → privileged (record v { mode = mode }) word Sret ≡ Done (guest_state_of after (record v { mode = mode })) None System
unfolding privileged refusal
returned_by root v after word HS e = cc
returned_by root v after word U e = cc
returned_by root v after word VS e = returned_if root v after word v.csrs.hstatus.vtsr e
returned_by root v after word VU e = cc

pub returns_alike : ReturnsAlike
returns_alike = λ root v after word e. returned_by root v after word v.mode e

-- an SFENCE.VMA
passed_saved : (root : GuestRoot) (v after : Virtual) (fence : Fence) → FirstFenced (passed (hart_state_of root v)) None fence ≡ FirstFenced after None fence
    → FirstFenced (passed v) None fence ≡ FirstFenced (guest_state_of after v) None fence
passed_saved root v after fence e =
    let is : passed (hart_state_of root v) ≡ after = cc in
    rw (← is, same_csrs root (is_virtual v.mode) v.csrs, same_mode v.mode) refl

fenced_if : (root : GuestRoot) (v after : Virtual) (word : ℕ) (fence : Fence) (kept : Bool)
    → decided (hart_state_of root v) word (SfenceVma fence) (virtual_if kept) ≡ FirstFenced after None fence
    → decided v word (SfenceVma fence) (virtual_if kept) ≡ FirstFenced (guest_state_of after v) None fence
fenced_if root v after word fence true e = cc
fenced_if root v after word fence false e = passed_saved root v after fence e

fenced_by : (root : GuestRoot) (v after : Virtual) (word : ℕ) (fence : Fence) (mode : Mode)
    → privileged (hart_state_of root (record v { mode = mode })) word (SfenceVma fence) ≡ FirstFenced after None fence
    → privileged (record v { mode = mode }) word (SfenceVma fence) ≡ FirstFenced (guest_state_of after (record v { mode = mode })) None fence
unfolding privileged refusal
fenced_by root v after word fence HS e = passed_saved root (record v { mode = HS }) after fence e
fenced_by root v after word fence U e = cc
fenced_by root v after word fence VS e = fenced_if root (record v { mode = VS }) after word fence v.csrs.hstatus.vtvm e
fenced_by root v after word fence VU e = cc

pub fences_alike : FencesAlike
fences_alike = λ root v after word fence e. fenced_by root v after word fence v.mode e

-- a WFI, and a read of time
waits_by : (root : GuestRoot) (v : Virtual) (word : ℕ) (mode : Mode)
    → privileged (hart_state_of root (record v { mode = mode })) word Wfi ≡ refused (hart_state_of root (record v { mode = mode })) word VirtualInstruction
unfolding privileged refusal
waits_by root v word HS = refl
waits_by root v word U = refl
waits_by root v word VS = refl
waits_by root v word VU = refl

pub waits_are_left : WaitsAreLeft
waits_are_left = λ root v word. waits_by root v word v.mode

pub time_is_left : TimeIsLeft
unfolding read_csr reached_by reached reached_in_vs reached_in_vu register_of read_only_register
time_is_left root csrs HS = refl
time_is_left root csrs U = refl
time_is_left root csrs VS = refl
time_is_left root csrs VU = refl
