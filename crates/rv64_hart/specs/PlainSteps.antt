-- Runs of plain steps alone (own). A plain step makes an instruction that is not of opcode SYSTEM and raises
-- no trap; its event tells pc and word.
use Rattle.std.specs.Prelude.{ℕ, zero, suc, ◌+◌, ◌%◌, ◌^◌, Option, Some, None, false, option_and_then, if◌then◌else◌}
use Rattle.machine_defs.specs.declared.events.Event.TheVariants as event
use Rattle.rv64_hart.specs.Steps.{Exits, Goes, HartEnd, Progress, hart_step, progress}

-- one more step, if it is a plain instruction
abbrev pub went_plain : ℕ → HartEnd → Option Progress
went_plain trace (Goes state memory (event.Plain pc word)) =
    Some (progress state memory ((trace + (pc + word)) % 2 ^ 64) false)
went_plain trace (Goes state memory (event.Trap level interrupt)) = None
went_plain trace (Goes state memory event.System) = None
went_plain trace (Exits trap) = None

unfoldable pub one_plain_step : Progress → Option Progress
one_plain_step p = if p.trapped then None else went_plain p.trace (hart_step p.state p.memory)

-- that many plain instructions
unfoldable pub plain_steps : ℕ → Progress → Option Progress
plain_steps zero p = Some p
plain_steps (suc n) p = option_and_then one_plain_step (plain_steps n p)
