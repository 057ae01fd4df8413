-- Laws of traps, returns and due interrupts.
use Rattle.std.specs.Prelude.{ℕ, true, false, Some, None, ◌≡◌}
use Rattle.arch_defs.specs.declared.levels.Level.TheVariants as level
use Rattle.arch_defs.specs.declared.modes.Mode.{Mode}
use Rattle.arch_defs.specs.declared.modes.Trap.{Trap}
use Rattle.arch_defs.specs.declared.registers.Csrs.{Csrs}
use Rattle.arch_defs.specs.declared.registers.Regs.{Regs}
use Rattle.arch_defs.specs.Interrupts.{due, interrupt_of, is_enabled, is_pending, level_of, takes}
use Rattle.arch_defs.specs.Registers.{clear_interrupts}
use Rattle.arch_defs.specs.Traps.{Arrival, entered_hs, entered_vs, is_virtual, returned, target}

-- an SRET right after a trap into HS, and after one into VS
abbrev pub back_from_hs : Csrs → Regs → Mode → Trap → Arrival
back_from_hs csrs regs mode trap = let a = entered_hs csrs regs mode trap in returned a.csrs a.regs a.mode

abbrev pub back_from_vs : Csrs → Regs → Mode → Trap → Arrival
back_from_vs csrs regs mode trap = let a = entered_vs csrs regs mode trap in returned a.csrs a.regs a.mode

-- it gives mode, sstatus.SIE, the x registers and pc back, from each mode
abbrev pub HsGivesModeBack : Type 0
HsGivesModeBack = (csrs : Csrs) (regs : Regs) (mode : Mode) (trap : Trap)
    → (back_from_hs csrs regs mode trap).mode ≡ mode

abbrev pub HsGivesSieBack : Type 0
HsGivesSieBack = (csrs : Csrs) (regs : Regs) (mode : Mode) (trap : Trap)
    → (back_from_hs csrs regs mode trap).csrs.hs.status.sie ≡ csrs.hs.status.sie

abbrev pub HsGivesRegsBack : Type 0
HsGivesRegsBack = (csrs : Csrs) (regs : Regs) (mode : Mode) (trap : Trap)
    → (back_from_hs csrs regs mode trap).regs ≡ regs

-- so does one after a trap into VS, with vsstatus.SIE, from VS and VU
abbrev pub VsGivesModeBack : Type 0
VsGivesModeBack = (csrs : Csrs) (regs : Regs) (mode : Mode) (trap : Trap)
    → is_virtual mode ≡ true → (back_from_vs csrs regs mode trap).mode ≡ mode

abbrev pub VsGivesSieBack : Type 0
VsGivesSieBack = (csrs : Csrs) (regs : Regs) (mode : Mode) (trap : Trap)
    → (back_from_vs csrs regs mode trap).csrs.vs.status.sie ≡ csrs.vs.status.sie

abbrev pub VsGivesRegsBack : Type 0
VsGivesRegsBack = (csrs : Csrs) (regs : Regs) (mode : Mode) (trap : Trap)
    → (back_from_vs csrs regs mode trap).regs ≡ regs

-- a delegated trap leaves every register as it was but those of VS
abbrev pub VsEntryLeavesHs : Type 0
VsEntryLeavesHs = (csrs : Csrs) (regs : Regs) (mode : Mode) (trap : Trap)
    → record (entered_vs csrs regs mode trap).csrs { vs = csrs.vs } ≡ csrs

-- a trap into HS leaves those of VS
abbrev pub HsEntryLeavesVs : Type 0
HsEntryLeavesVs = (csrs : Csrs) (regs : Regs) (mode : Mode) (trap : Trap)
    → (entered_hs csrs regs mode trap).csrs.vs ≡ csrs.vs

-- a trap with V = 0 leaves SPVP
abbrev pub SpvpStays : Type 0
SpvpStays = (csrs : Csrs) (regs : Regs) (mode : Mode) (trap : Trap)
    → is_virtual mode ≡ false → (entered_hs csrs regs mode trap).csrs.hstatus.spvp ≡ csrs.hstatus.spvp

-- with V = 0 each trap goes to HS
abbrev pub GoesToHs : Type 0
GoesToHs = (csrs : Csrs) (mode : Mode) (trap : Trap)
    → is_virtual mode ≡ false → target csrs mode trap ≡ level.HS

-- nothing is due where nothing is enabled
abbrev pub NothingDue : Type 0
NothingDue = (csrs : Csrs) (mode : Mode)
    → csrs.sie ≡ clear_interrupts → csrs.hie ≡ clear_interrupts → due csrs mode ≡ None

-- a due interrupt is pending
abbrev pub DueIsPending : Type 0
DueIsPending = (csrs : Csrs) (mode : Mode) (code : ℕ)
    → due csrs mode ≡ Some code → is_pending csrs code ≡ true

-- and enabled
abbrev pub DueIsEnabled : Type 0
DueIsEnabled = (csrs : Csrs) (mode : Mode) (code : ℕ)
    → due csrs mode ≡ Some code → is_enabled csrs code ≡ true

-- the level that it belongs to takes interrupts now
abbrev pub DueIsTaken : Type 0
DueIsTaken = (csrs : Csrs) (mode : Mode) (code : ℕ)
    → due csrs mode ≡ Some code → takes csrs mode (level_of csrs code) ≡ true

-- and its trap goes to this level
abbrev pub DueGoesToItsLevel : Type 0
DueGoesToItsLevel = (csrs : Csrs) (mode : Mode) (code : ℕ)
    → due csrs mode ≡ Some code → target csrs mode (interrupt_of code) ≡ level_of csrs code

-- where none is due, no interrupt that is pending and enabled belongs to a level that takes it
abbrev pub NoneIsMissed : Type 0
NoneIsMissed = (csrs : Csrs) (mode : Mode) (code : ℕ)
    → due csrs mode ≡ None → is_pending csrs code ≡ true → is_enabled csrs code ≡ true
    → takes csrs mode (level_of csrs code) ≡ false
