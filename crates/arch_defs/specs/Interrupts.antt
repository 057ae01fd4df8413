-- Interrupts: which are pending and enabled, which level takes them, and which one is due
-- (Privileged Architecture 20211203, 3.1.9, 4.1.1, 4.1.3, 8.2.2, 8.2.3).
use Rattle.std.specs.Prelude.{ℕ, Bool, true, false, Option, None, ◌==◌, ◌&&◌, ◌||◌, if◌then◌else◌, [], ◌∷◌, List, find}
use Rattle.std.specs.Option.{option_or}
use Rattle.arch_defs.specs.declared.levels.Level.{Level}
use Rattle.arch_defs.specs.declared.levels.Level.TheVariants as level
use Rattle.arch_defs.specs.declared.levels.TheConstants.{SUPERVISOR_SOFTWARE, VS_SOFTWARE, SUPERVISOR_TIMER, VS_TIMER, SUPERVISOR_EXTERNAL, VS_EXTERNAL}
use Rattle.arch_defs.specs.declared.modes.Mode.{Mode}
use Rattle.arch_defs.specs.declared.modes.Mode.TheVariants.{HS, U, VS, VU}
use Rattle.arch_defs.specs.declared.modes.Trap.{Trap}
use Rattle.arch_defs.specs.declared.registers.Csrs.{Csrs}
use Rattle.arch_defs.specs.declared.registers.Interrupts.{Interrupts}

-- a code's bit among those of the supervisor level, as in sip and sie (4.1.3)
abbrev pub supervisor_bit : Interrupts → ℕ → Bool
supervisor_bit bits code =
    if code == SUPERVISOR_SOFTWARE then bits.software
    else if code == SUPERVISOR_TIMER then bits.timer
    else if code == SUPERVISOR_EXTERNAL then bits.external
    else false

-- a code's bit among those of the VS level, as in hip, hie and hideleg (8.2.2, 8.2.3)
abbrev pub vs_bit : Interrupts → ℕ → Bool
vs_bit bits code =
    if code == VS_SOFTWARE then bits.software
    else if code == VS_TIMER then bits.timer
    else if code == VS_EXTERNAL then bits.external
    else false

-- pending in sip, or in hip, which shows hvip (4.1.3, 8.2.3)
abbrev pub is_pending : Csrs → ℕ → Bool
is_pending csrs code = supervisor_bit csrs.sip code || vs_bit csrs.hvip code

-- enabled in sie, or in hie (4.1.3, 8.2.3)
abbrev pub is_enabled : Csrs → ℕ → Bool
is_enabled csrs code = supervisor_bit csrs.sie code || vs_bit csrs.hie code

-- the level that an interrupt belongs to: VS where hideleg has it (8.2.2)
abbrev pub level_of : Csrs → ℕ → Level
level_of csrs code = if vs_bit csrs.hideleg code then level.VS else level.HS

-- whether a level takes interrupts now: HS in each mode below it, in HS where sstatus.SIE is set; VS in VU,
-- in VS where vsstatus.SIE is set, and never with V = 0 (4.1.1, 4.1.3, 8.2.11)
abbrev pub takes : Csrs → Mode → Level → Bool
takes csrs HS level.HS = csrs.hs.status.sie
takes csrs U level.HS = true
takes csrs VS level.HS = true
takes csrs VU level.HS = true
takes csrs HS level.VS = false
takes csrs U level.VS = false
takes csrs VS level.VS = csrs.vs.status.sie
takes csrs VU level.VS = true

-- whether an interrupt is pending, enabled and HS's, or VS's
abbrev pub is_ready_for_hs : Csrs → ℕ → Bool
is_ready_for_hs csrs code =
    is_pending csrs code && is_enabled csrs code && (if vs_bit csrs.hideleg code then false else true)

abbrev pub is_ready_for_vs : Csrs → ℕ → Bool
is_ready_for_vs csrs code = is_pending csrs code && is_enabled csrs code && vs_bit csrs.hideleg code

-- the orders of interrupts of HS (8.2.3) and of VS (4.1.3): external, software, timer, HS's own first
abbrev pub hs_order : List ℕ
hs_order =
    SUPERVISOR_EXTERNAL ∷ SUPERVISOR_SOFTWARE ∷ SUPERVISOR_TIMER ∷ VS_EXTERNAL ∷ VS_SOFTWARE ∷ VS_TIMER ∷ []

abbrev pub vs_order : List ℕ
vs_order = VS_EXTERNAL ∷ VS_SOFTWARE ∷ VS_TIMER ∷ []

-- the first interrupt that HS takes, and VS
unfoldable pub due_for_hs : Csrs → Mode → Option ℕ
due_for_hs csrs mode = if takes csrs mode level.HS then find (is_ready_for_hs csrs) hs_order else None

unfoldable pub due_for_vs : Csrs → Mode → Option ℕ
due_for_vs csrs mode = if takes csrs mode level.VS then find (is_ready_for_vs csrs) vs_order else None

-- the code of the interrupt that is due, if any: HS's before VS's (3.1.9)
unfoldable pub due : Csrs → Mode → Option ℕ
due csrs mode = option_or (due_for_hs csrs mode) (due_for_vs csrs mode)

-- the trap of an interrupt: stval gets 0 (own), and so do htval and htinst (4.1.9, 8.2.8, 8.6.3)
abbrev pub interrupt_of : ℕ → Trap
interrupt_of code =
    record { cause = code; interrupt = true; tval = 0; tval2 = 0; gva = false; implicit = false }
