-- What the line of a trap says of the trap, that a log has one text, and that few translations are used, and
-- only cached ones.
use Rattle.std.specs.Prelude.{ℕ, ◌≡◌, ◌*◌, ◌%◌, ◌^◌, ◌<◌, ◌≤◌, List, [], Option, Some, None, length, if◌then◌else◌}
use Rattle.arch_defs.specs.declared.levels.Level.{Level}
use Rattle.arch_defs.specs.declared.levels.Level.TheVariants as level
use Rattle.arch_defs.specs.declared.modes.Trap.{Trap}
use Rattle.arch_defs.specs.declared.registers.Virtual.{Virtual}
use Rattle.arch_defs.specs.Spaces.{front}
use Rattle.arch_defs.specs.Traps.{entered_at, htinst_of, is_guest_page_fault, vs_code_of}
use Rattle.log_lines.specs.declared.heads.Head.{Head}
use Rattle.log_lines.specs.declared.kinds.Kinds.{Kinds}
use Rattle.log_lines.specs.declared.traps.Cause.{Cause}
use Rattle.log_lines.specs.declared.traps.Taken.TheVariants as taken
use Rattle.log_lines.specs.declared.traps.TrapLine.{TrapLine}
use Rattle.machine_defs.specs.Fills.{needed}
use Rattle.machine_defs.specs.Machine.{Machine}
use Rattle.run_log.specs.Log.{IsLog}
use Rattle.run_log.specs.Traps.{trap_line}
use Rattle.run_log.specs.Uses.{uses}

-- the line after a trap into a level
abbrev pub line_of_trap : Virtual → Trap → Head → Level → TrapLine
line_of_trap virt trap head into = trap_line head (entered_at virt trap into).csrs into

-- the cause as a level sees it (Privileged Architecture 20211203, 8.2.2)
abbrev pub cause_for : Level → Trap → Cause
cause_for level.HS trap = record { interrupt = trap.interrupt; code = trap.cause }
cause_for level.VS trap = record { interrupt = trap.interrupt; code = vs_code_of trap }

-- it tells the cause and tval
abbrev pub TellsCause : Type 0
TellsCause = (virt : Virtual) (trap : Trap) (head : Head) (into : Level) → trap.cause < 2 ^ 63
    → (line_of_trap virt trap head into).cause ≡ cause_for into trap

abbrev pub TellsValue : Type 0
TellsValue = (virt : Virtual) (trap : Trap) (head : Head) (into : Level)
    → (line_of_trap virt trap head into).tval ≡ trap.tval

-- of one into HS, also the guest physical address of a guest-page fault, but for its low two bits, GVA and
-- htinst (8.2.1, 8.2.8, 8.2.9)
abbrev pub address_in : Trap → Option ℕ
address_in trap = if is_guest_page_fault trap then Some (4 * trap.tval2 % 2 ^ 64) else None

abbrev pub TellsHs : Type 0
TellsHs = (virt : Virtual) (trap : Trap) (head : Head) → trap.cause < 2 ^ 63
    → (line_of_trap virt trap head level.HS).taken ≡ taken.HS (address_in trap) trap.gva (htinst_of trap)

-- the definition of a log gives one text
abbrev pub LogIsOne : Type 0
LogIsOne = (kinds : Kinds) (origin : Machine) (from steps : ℕ) (bytes others : List ℕ)
    → IsLog kinds origin from steps bytes → IsLog kinds origin from steps others → bytes ≡ others

-- a machine that has cached nothing uses nothing cached, so no use of it is stale
abbrev pub UncachedUsesNone : Type 0
UncachedUsesNone = (m : Machine) → m.platform.virt.first ≡ [] → front m.spaces ≡ [] → uses m ≡ []

-- the accesses of a step go by few cached translations: by no more than an instruction asks for at most
abbrev pub UsesAreFew : Type 0
UsesAreFew = (m : Machine) → length (uses m) ≤ needed
