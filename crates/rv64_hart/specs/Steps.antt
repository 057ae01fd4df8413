-- Steps of the hart, whose state has V = 1 wherever a guest is on it, and whose second stage is the walk of
-- its own hgatp's table (Privileged Architecture 20211203, 8.2.2 and 8.6, for its traps).
use Rattle.std.specs.Prelude.{ℕ, zero, suc, ◌+◌, ◌%◌, ◌^◌, ◌<◌, ◌≡◌, List, [], Option, Some, None, Bool, true, false, ◌&&◌, ⊤, option_and_then, unwrap_or, if◌then◌else◌}
use Rattle.arch_defs.specs.declared.first.FirstEntry.{FirstEntry}
use Rattle.arch_defs.specs.declared.hart_states.HartState.{HartState}
use Rattle.arch_defs.specs.declared.levels.Level.{Level}
use Rattle.arch_defs.specs.declared.levels.Level.TheVariants as level
use Rattle.arch_defs.specs.declared.modes.Trap.{Trap}
use Rattle.arch_defs.specs.declared.modes.TheConstants.{ECALL_FROM_HS, ILLEGAL_INSTRUCTION}
use Rattle.arch_defs.specs.declared.registers.Virtual.{Virtual}
use Rattle.arch_defs.specs.FirstEntries.{all_filled, names_first, unnamed_first}
use Rattle.arch_defs.specs.Interrupts.{due, interrupt_of}
use Rattle.arch_defs.specs.Memory.{machine_memory, with_stored}
use Rattle.arch_defs.specs.SecondStage.{missing_place_trap}
use Rattle.arch_defs.specs.Traps.{entered_at, exception, target}
use Rattle.machine_defs.specs.declared.events.Event.{Event}
use Rattle.machine_defs.specs.declared.events.Event.TheVariants as event
use Rattle.machine_defs.specs.Core.{core}
use Rattle.machine_defs.specs.Outcomes.{Outcome, Done, Trapped, Missed, Called, Waits, Fenced, FirstFenced, Accesses}
use Rattle.machine_defs.specs.Runs.{pc_and_word}
use Rattle.rv64_hart.specs.declared.harts.Why.{Why}
use Rattle.rv64_hart.specs.declared.harts.Why.TheVariants.{Limit, Exit, VsTrap}
use Rattle.rv64_hart.specs.MachineMemory.{found_on, mmu_on}

-- a state that caches these first-stage translations, one with other registers, whose translations stay, and
-- one that has cached these translations beside its own
abbrev pub caching : HartState → List FirstEntry → HartState
caching s first = record s { virt = record s.virt { first = first } }

abbrev pub with_virt : HartState → Virtual → HartState
with_virt s virt = record s { virt = record virt { first = s.virt.first } }

abbrev pub caching_found : HartState → List FirstEntry → HartState
caching_found s found = caching s (all_filled s.virt.first found)

abbrev pub with_found_on : HartState → List ℕ → HartState
with_found_on s memory = caching_found s (found_on s memory)

-- what a step asks for, before it is known where its trap goes: the state, the memory and what the step was,
-- or a trap
pub data Attempt : Type 0 where
  Makes : HartState → List ℕ → Event → Attempt
  Raises : Trap → Attempt

-- what the outcome of an instruction is to the hart, in the state that has cached what it found: an access
-- for which its second stage has no place is the trap that the walk of now makes of it. A WFI does not wait,
-- and an HFENCE.GVMA changes nothing, since the hart walks memory as it is; an SFENCE.VMA drops the
-- first-stage translations that it names. With V = 1 there is no call from HS, no HFENCE.VVMA and no access
-- as somebody else
abbrev pub attempt_of : HartState → List ℕ → Outcome → Attempt
attempt_of s memory (Done virt stored event) = Makes (with_virt s virt) (with_stored 0 stored memory) event
attempt_of s memory (Trapped trap) = Raises trap
attempt_of s memory (Missed missing wanted) =
    Raises (missing_place_trap s.virt.csrs (machine_memory memory) missing)
attempt_of s memory Called = Raises (exception s.virt.mode ECALL_FROM_HS 0)
attempt_of s memory (Waits virt) = Makes (with_virt s virt) memory event.System
attempt_of s memory (Fenced virt fence) = Makes (with_virt s virt) memory event.System
attempt_of s memory (FirstFenced virt named fence) =
    let left = unnamed_first (names_first (unwrap_or named s.tag) fence) s.virt.first in
    Makes (caching (with_virt s virt) left) memory event.System
attempt_of s memory (Accesses wanted) = Raises (exception s.virt.mode ILLEGAL_INSTRUCTION 0)

-- the due interrupt, or one instruction over machine memory
abbrev pub next_attempt : HartState → List ℕ → Option ℕ → Attempt
next_attempt s memory (Some code) = Raises (interrupt_of code)
next_attempt s memory None = attempt_of (with_found_on s memory) memory (core (mmu_on s memory) s.virt)

-- what the next step finds: nothing where an interrupt is due
abbrev pub found_by_attempt : HartState → List ℕ → Option ℕ → List FirstEntry
found_by_attempt s memory (Some code) = []
found_by_attempt s memory None = found_on s memory

unfoldable pub found_at_exit : HartState → List ℕ → List FirstEntry
found_at_exit s memory = found_by_attempt s memory (due s.virt.csrs s.virt.mode)

-- how a step of the hart ends: the state, the memory and what the step was, or a trap to HS, before which
-- nothing changes
pub data HartEnd : Type 0 where
  Goes : HartState → List ℕ → Event → HartEnd
  Exits : Trap → HartEnd

-- a trap into VS is taken, and one to HS is left
abbrev pub trapped_to : HartState → List ℕ → Trap → Level → HartEnd
trapped_to s memory trap level.VS =
    Goes (with_virt s (entered_at s.virt trap level.VS)) memory (event.Trap level.VS trap.interrupt)
trapped_to s memory trap level.HS = Exits trap

abbrev pub end_by : HartState → List ℕ → Attempt → HartEnd
end_by s memory (Makes after changed event) = Goes after changed event
end_by s memory (Raises trap) = trapped_to s memory trap (target s.virt.csrs s.virt.mode trap)

-- one step of the hart over machine memory. What it finds is cached, unless it traps to HS
unfoldable pub hart_step : HartState → List ℕ → HartEnd
hart_step s memory = end_by (caching_found s (found_at_exit s memory)) memory
    (next_attempt s memory (due s.virt.csrs s.virt.mode))

-- how far a run of the hart has come: its state, memory, trace, and whether it ends here for a trap into VS
pub record Progress : Type 0 where
  pub state : HartState
  pub memory : List ℕ
  pub trace : ℕ
  pub trapped : Bool

abbrev pub progress : HartState → List ℕ → ℕ → Bool → Progress
progress state memory trace trapped =
    record { state = state; memory = memory; trace = trace; trapped = trapped }

-- whether a step entered VS by a trap
abbrev pub enters_vs : Event → Bool
enters_vs (event.Plain pc word) = false
enters_vs (event.Trap level.VS interrupt) = true
enters_vs (event.Trap level.HS interrupt) = false
enters_vs event.System = false

abbrev pub progressed : Bool → ℕ → HartEnd → Option Progress
progressed watch trace (Goes state memory event) =
    Some (progress state memory ((trace + pc_and_word event) % 2 ^ 64) (watch && enters_vs event))
progressed watch trace (Exits trap) = None

-- one more step, if the run does not end here and the step does not trap to HS
unfoldable pub one_more_step : Bool → Progress → Option Progress
one_more_step watch p = if p.trapped then None else progressed watch p.trace (hart_step p.state p.memory)

-- that many steps, none of which traps to HS and, while watched, none but the last into VS
unfoldable pub hart_steps : Bool → ℕ → Progress → Option Progress
hart_steps watch zero p = Some p
hart_steps watch (suc n) p = option_and_then (one_more_step watch) (hart_steps watch n p)

abbrev pub is_vs_trap : Why → Bool
is_vs_trap Limit = false
is_vs_trap (Exit trap) = false
is_vs_trap VsTrap = true

-- why a run stopped: at its limit, before a step that traps to HS, or after a trap into VS
abbrev pub IsWhy : ℕ → ℕ → HartState → List ℕ → Why → Type 0
IsWhy limit taken state memory Limit = taken ≡ limit
IsWhy limit taken state memory (Exit trap) = (taken < limit) × (hart_step state memory ≡ Exits trap)
IsWhy limit taken state memory VsTrap = ⊤
