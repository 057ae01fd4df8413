-- Traps, and ways into V = 1 and out of it: by what a trap's entry leaves in the registers of its level
-- (Privileged Architecture 20211203, 4.1.7 to 4.1.9, 8.2.1, 8.2.8, 8.2.9, 8.2.15 to 8.2.17 and 8.6.2).
use Rattle.std.specs.Prelude.{ℕ, ◌*◌, ◌%◌, ◌^◌, ◌==◌, ◌&&◌, Bool, true, false, not, List, [], ◌∷◌, Option, Some, None, if◌then◌else◌}
use Rattle.std.specs.List.{flat_map, list_any}
use Rattle.arch_defs.specs.declared.levels.Level.{Level}
use Rattle.arch_defs.specs.declared.levels.Level.TheVariants as level
use Rattle.arch_defs.specs.declared.registers.Csrs.{Csrs}
use Rattle.arch_defs.specs.declared.registers.SupervisorCsrs.{SupervisorCsrs}
use Rattle.arch_defs.specs.Bits.{bit}
use Rattle.arch_defs.specs.CsrBits.{hgatp_bits, satp_bits}
use Rattle.arch_defs.specs.Traps.{is_virtual}
use Rattle.log_lines.specs.declared.heads.Head.{Head}
use Rattle.log_lines.specs.declared.lines.Line.{Line}
use Rattle.log_lines.specs.declared.lines.Line.TheVariants as line
use Rattle.log_lines.specs.declared.traps.Cause.{Cause}
use Rattle.log_lines.specs.declared.traps.Crossing.{Crossing}
use Rattle.log_lines.specs.declared.traps.Crossing.TheVariants.{Enters, Leaves}
use Rattle.log_lines.specs.declared.traps.Taken.{Taken}
use Rattle.log_lines.specs.declared.traps.Taken.TheVariants as taken
use Rattle.log_lines.specs.declared.traps.TrapLine.{TrapLine}
use Rattle.log_lines.specs.declared.traps.WorldLine.{WorldLine}
use Rattle.machine_defs.specs.declared.events.Event.{Event}
use Rattle.machine_defs.specs.declared.events.Event.TheVariants as event
use Rattle.machine_defs.specs.Runs.{events_by}
use Rattle.run_log.specs.Seen.{Seen, head_of, head_with}

-- the registers of a trap's level
abbrev pub registers_of : Csrs → Level → SupervisorCsrs
registers_of csrs level.HS = csrs.hs
registers_of csrs level.VS = csrs.vs

-- why a trap was taken, by scause or vscause: bit 63 for an interrupt, and the code (4.1.8)
abbrev pub cause_in : SupervisorCsrs → Cause
cause_in registers = record { interrupt = bit 63 registers.cause; code = registers.cause % 2 ^ 63 }

-- whether it is a guest-page fault: of a fetch, a load, or a store or atomic operation (8.6.1)
abbrev pub is_guest_page_cause : Cause → Bool
is_guest_page_cause c = not c.interrupt && list_any (λ code. code == c.code) (20 ∷ 21 ∷ 23 ∷ [])

-- the guest physical address of a guest-page fault, but for its low two bits: htval has it shifted right by 2
-- (8.2.8)
abbrev pub guest_physical : Cause → ℕ → Option ℕ
guest_physical c htval = if is_guest_page_cause c then Some (4 * htval % 2 ^ 64) else None

abbrev pub taken_in : Csrs → Cause → Level → Taken
taken_in csrs c level.HS = taken.HS (guest_physical c csrs.htval) csrs.hstatus.gva csrs.htinst
taken_in csrs c level.VS = taken.VS

-- a trap into a level, by the registers after it
abbrev pub trap_line : Head → Csrs → Level → TrapLine
trap_line head csrs into =
    let registers = registers_of csrs into in
    let c = cause_in registers in
    record { head = head; cause = c; tval = registers.tval; taken = taken_in csrs c into }

-- the line of an event: a trap has one
abbrev pub trap_lines_by : Seen → Event → List Line
trap_lines_by s (event.Plain pc word) = []
trap_lines_by s (event.Trap into interrupt) =
    line.Trap (trap_line (head_of s) s.after.platform.virt.csrs into) ∷ []
trap_lines_by s event.System = []

-- what the step was, if it was made
abbrev pub step_events : Seen → List Event
step_events s = events_by s.before s.before.platform.status

unfoldable pub trap_lines : Seen → List Line
trap_lines s = flat_map (trap_lines_by s) (step_events s)

-- a way into V = 1, or out of it, with the hgatp and vsatp of registers in it
abbrev pub world_line : Head → Csrs → Crossing → WorldLine
world_line head csrs crossing = record {
  head = head;
  hgatp = hgatp_bits csrs.hgatp;
  vsatp = satp_bits csrs.vs.atp;
  crossing = crossing;
}

abbrev pub entering : Seen → Line
entering s = line.World (world_line (head_with s.number s.after) s.after.platform.virt.csrs Enters)

-- V = 1 is left by a trap into HS alone
abbrev pub leaving : Seen → Line
leaving s =
    line.World (world_line (head_of s) s.before.platform.virt.csrs
    (Leaves (cause_in s.after.platform.virt.csrs.hs)))

-- by V before and after the step
abbrev pub world_lines_by : Seen → Bool → Bool → List Line
world_lines_by s false true = entering s ∷ []
world_lines_by s true false = leaving s ∷ []
world_lines_by s false false = []
world_lines_by s true true = []

unfoldable pub world_lines : Seen → List Line
world_lines s =
    world_lines_by s (is_virtual s.before.platform.virt.mode) (is_virtual s.after.platform.virt.mode)
