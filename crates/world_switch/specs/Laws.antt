-- Laws of the hart that stands for a guest, whatever the root of its second stage is.
use Rattle.std.specs.Prelude.{ℕ, ◌≡◌, ◌+◌, ◌||◌, ◌&&◌, Bool, true, false, List, None, Ok, Err}
use Rattle.arch_defs.specs.declared.cached.Fence.{Fence}
use Rattle.arch_defs.specs.declared.first.FirstEntry.{FirstEntry}
use Rattle.arch_defs.specs.declared.first.Tag.{Tag}
use Rattle.arch_defs.specs.declared.csr_names.CsrEnd.TheVariants.{Illegal, Virtual as VirtualInstruction}
use Rattle.arch_defs.specs.declared.levels.Level.TheVariants as level
use Rattle.arch_defs.specs.declared.levels.TheConstants.{VS_SOFTWARE, VS_TIMER, VS_EXTERNAL}
use Rattle.arch_defs.specs.declared.modes.Access.{Access}
use Rattle.arch_defs.specs.declared.modes.Mode.{Mode}
use Rattle.arch_defs.specs.declared.modes.Mode.TheVariants.{HS, U, VS, VU}
use Rattle.arch_defs.specs.declared.modes.Trap.{Trap}
use Rattle.arch_defs.specs.declared.registers.Csrs.{Csrs}
use Rattle.arch_defs.specs.declared.roots.GuestRoot.{GuestRoot}
use Rattle.arch_defs.specs.declared.registers.Virtual.{Virtual}
use Rattle.arch_defs.specs.CsrAccess.{read_csr, write_csr}
use Rattle.arch_defs.specs.Interrupts.{interrupt_of, is_ready_for_hs}
use Rattle.arch_defs.specs.Layouts.{Layout, NamesEachOnce}
use Rattle.arch_defs.specs.Memory.{Mmu, Reading, SecondStage}
use Rattle.arch_defs.specs.Registers.{clear_interrupts, supervisor_at_reset}
use Rattle.arch_defs.specs.Translation.{first_stage}
use Rattle.arch_defs.specs.Traps.{entered_at, exception, is_virtual, target}
use Rattle.op_defs.specs.declared.ops.Privileged.{Privileged}
use Rattle.op_defs.specs.declared.ops.Privileged.TheVariants.{Sret, Wfi, SfenceVma}
use Rattle.machine_defs.specs.declared.events.Event.TheVariants.{System}
use Rattle.instruction_laws.specs.HostPlaces.{in_ram, memory_place}
use Rattle.machine_defs.specs.FirstLeaves.{known_of, leaves_found}
use Rattle.machine_defs.specs.Outcomes.{Done, FirstFenced}
use Rattle.machine_defs.specs.Privileges.{privileged, refused}
use Rattle.instruction_laws.specs.Renaming.{ReservesWithin, renamed}
use Rattle.world_switch.specs.Hosting.{guest_state_after, guest_state_of, hart_state_of, hosted_csrs, hosted_level, hosted_mode, loaded_in, saved_csrs, saved_in}

-- the hart runs in this mode for that mode of the guest
abbrev pub Hosts : Mode → Mode → Type 0
Hosts hart_mode mode =
    (root : GuestRoot) (v : Virtual) → v.mode ≡ mode → (hart_state_of root v).mode ≡ hart_mode

-- it runs with V = 1: in VS for the guest's HS and VS, and in VU for its U and VU
pub record IsVirtual : Type 0 where
  pub hs : Hosts VS HS
  pub u : Hosts VU U
  pub vs : Hosts VS VS
  pub vu : Hosts VU VU

-- what is saved of a hart that was just loaded is what the guest had, with the guest's own addresses on both
abbrev pub SaveAfterLoad : Type 0
SaveAfterLoad = (root : GuestRoot) (v : Virtual) → guest_state_of (hart_state_of root v) v ≡ v

-- the hart's registers without those that it has for the guest
abbrev pub hidden : Csrs → Csrs
hidden csrs = record csrs {
  vs = supervisor_at_reset;
  hie = clear_interrupts;
  hvip = clear_interrupts;
  scounteren_tm = false;
  senvcfg_fiom = false;
}

-- whether an interrupt of VS is pending, enabled and not delegated
abbrev pub waits_for_hs : Csrs → Bool
waits_for_hs csrs =
    is_ready_for_hs csrs VS_EXTERNAL || is_ready_for_hs csrs VS_SOFTWARE || is_ready_for_hs csrs VS_TIMER

-- the hart's registers without those that it has for the guest are as they were loaded, by the guest's V.
-- With V = 0 so are its pending interrupts that the clock sets, and with V = 1 no interrupt has begun or
-- ceased to wait for HS
pub record KeepsHidden (root : GuestRoot) (virtual : Bool) (before hart : Csrs) : Type 0 where
  pub rest : hidden hart ≡ hidden (hosted_csrs root virtual before)
  pub timer : virtual ≡ false → hart.hvip.timer ≡ before.sip.timer
  pub external : virtual ≡ false → hart.hvip.external ≡ before.sip.external
  pub waits : waits_for_hs hart ≡ waits_for_hs (hosted_csrs root virtual before)

-- loading what was saved of a hart gives the hart's state again, if the hart has changed only what it has for
-- the guest
abbrev pub LoadAfterSave : Type 0
LoadAfterSave =
    (root : GuestRoot) (v hart : Virtual)
    → hidden hart.csrs ≡ hidden (hosted_csrs root (is_virtual v.mode) v.csrs)
    → is_virtual hart.mode ≡ true → hart_state_of root (guest_state_of hart v) ≡ hart

-- the first stage translates each access alike
abbrev pub TranslatesAlike : Type 0
TranslatesAlike =
    (root : GuestRoot) (second : SecondStage) (reading : Reading)
    (csrs : Csrs) (mode : Mode) (va : ℕ) (access : Access)
    → first_stage second reading (hosted_csrs root (is_virtual mode) csrs) (hosted_mode mode) va access
    ≡ first_stage second reading csrs mode va access

-- with the guest's first-stage translations and tag the hart knows the same addresses
abbrev pub KnowsAlike : Type 0
KnowsAlike =
    (root : GuestRoot) (v : Virtual) (first : List FirstEntry) (tag : Tag)
    → known_of first tag (hart_state_of root v) ≡ known_of first tag v

-- and finds the same
abbrev pub FindsAlike : Type 0
FindsAlike =
    (root : GuestRoot) (v : Virtual) (tag : Tag) (through : Mmu)
    → leaves_found tag through (hart_state_of root v) ≡ leaves_found tag through v

-- a read that the hart makes gives what the guest's gives, and a write that it makes leaves what the guest's
-- leaves; a number that is illegal on the hart is illegal for the guest. Each other access is a virtual
-- instruction on the hart, which the host makes
abbrev pub ReadsAlike : Type 0
ReadsAlike =
    (root : GuestRoot) (csrs : Csrs) (mode : Mode) (n value : ℕ)
    → read_csr (hosted_csrs root (is_virtual mode) csrs) (hosted_mode mode) n ≡ Ok value
    → read_csr csrs mode n ≡ Ok value

abbrev pub WritesAlike : Type 0
WritesAlike =
    (root : GuestRoot) (csrs after : Csrs) (mode : Mode) (n value : ℕ)
    → write_csr (hosted_csrs root (is_virtual mode) csrs) (hosted_mode mode) n value ≡ Ok after
    → write_csr csrs mode n value ≡ Ok (saved_csrs (is_virtual mode) after csrs)

abbrev pub IllegalAlike : Type 0
IllegalAlike =
    (root : GuestRoot) (csrs : Csrs) (mode : Mode) (n : ℕ)
    → read_csr (hosted_csrs root (is_virtual mode) csrs) (hosted_mode mode) n ≡ Err Illegal
    → read_csr csrs mode n ≡ Err Illegal

abbrev pub IllegalToWriteAlike : Type 0
IllegalToWriteAlike =
    (root : GuestRoot) (csrs : Csrs) (mode : Mode) (n value : ℕ)
    → write_csr (hosted_csrs root (is_virtual mode) csrs) (hosted_mode mode) n value ≡ Err Illegal
    → write_csr csrs mode n value ≡ Err Illegal

-- the hart's own sstatus.MXR, which counts beside vsstatus.MXR, is the guest's with V = 1, and else clear
abbrev pub OwnMxr : Type 0
OwnMxr =
    (root : GuestRoot) (v : Virtual)
    → (hart_state_of root v).csrs.hs.status.mxr ≡ (is_virtual v.mode && v.csrs.hs.status.mxr)

-- an instruction that the mode decides on and that the hart makes is the guest's
abbrev pub PrivilegedAlike : Privileged → Type 0
PrivilegedAlike effect =
    (root : GuestRoot) (v after : Virtual) (word : ℕ)
    → privileged (hart_state_of root v) word effect ≡ Done after None System
    → privileged v word effect ≡ Done (guest_state_of after v) None System

-- so is an SRET
abbrev pub ReturnsAlike : Type 0
ReturnsAlike = PrivilegedAlike Sret

-- and an SFENCE.VMA, with what it names
abbrev pub FencesAlike : Type 0
FencesAlike =
    (root : GuestRoot) (v after : Virtual) (word : ℕ) (fence : Fence)
    → privileged (hart_state_of root v) word (SfenceVma fence) ≡ FirstFenced after None fence
    → privileged v word (SfenceVma fence) ≡ FirstFenced (guest_state_of after v) None fence

-- a WFI is a virtual instruction on the hart, and so is a read of time
abbrev pub WaitsAreLeft : Type 0
WaitsAreLeft =
    (root : GuestRoot) (v : Virtual) (word : ℕ)
    → privileged (hart_state_of root v) word Wfi ≡ refused (hart_state_of root v) word VirtualInstruction

abbrev pub TimeIsLeft : Type 0
TimeIsLeft =
    (root : GuestRoot) (csrs : Csrs) (mode : Mode)
    → read_csr (hosted_csrs root (is_virtual mode) csrs) (hosted_mode mode) 0xC01 ≡ Err VirtualInstruction

-- a trap of the hart is this one of the guest: where the hart delegates it, the guest takes it at the level
-- for which the hart's VS stands; and what the guest has after the hart's entry into VS is what its own entry
-- into that level leaves
pub record TakesAlike (root : GuestRoot) (v : Virtual) (on_hart trap : Trap) : Type 0 where
  pub goes : target (hart_state_of root v).csrs (hart_state_of root v).mode on_hart ≡ level.VS
      → target v.csrs v.mode trap ≡ hosted_level (is_virtual v.mode)
  pub state : guest_state_after true (entered_at (hart_state_of root v) on_hart level.VS) v
      ≡ entered_at v trap (hosted_level (is_virtual v.mode))

-- with V = 0 an exception of the hart is the guest's
abbrev pub ExceptionsAlike : Type 0
ExceptionsAlike = (root : GuestRoot) (v : Virtual) (cause tval : ℕ) → is_virtual v.mode ≡ false
    → TakesAlike root v (exception (hosted_mode v.mode) cause tval) (exception v.mode cause tval)

-- so is an interrupt, whose code is one more on the hart
abbrev pub InterruptsAlike : Type 0
InterruptsAlike = (root : GuestRoot) (v : Virtual) (code : ℕ) → is_virtual v.mode ≡ false
    → TakesAlike root v (interrupt_of (code + 1)) (interrupt_of code)

-- with V = 1 each trap of the hart is the guest's
abbrev pub NestedTrapsAlike : Type 0
NestedTrapsAlike = (root : GuestRoot) (v : Virtual) (trap : Trap) → is_virtual v.mode ≡ true
    → TakesAlike root v trap trap

-- what the guest that has a part has after the hart has run is what the same hart gives it with its
-- reservation at the guest's own address, if it has one there
abbrev pub SavesOwn : Type 0
SavesOwn = (part : Layout) (own before : Virtual)
    → NamesEachOnce part → ReservesWithin (in_ram part.blocks) own.reservation
    → saved_in part (renamed (memory_place part.blocks) own) before ≡ guest_state_of own before

-- so what is saved of a hart that was just loaded is what the guest had
abbrev pub SavesBack : Type 0
SavesBack = (part : Layout) (root : GuestRoot) (v : Virtual)
    → NamesEachOnce part → ReservesWithin (in_ram part.blocks) v.reservation
    → saved_in part (loaded_in part root v).virt v ≡ v
