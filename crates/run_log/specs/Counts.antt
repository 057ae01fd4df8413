-- How often instructions were executed, by mode and pc, and with V = 1 by hgatp (own).
use Rattle.std.specs.Prelude.{ℕ, ◌≡◌, ◌<◌, Bool, false, List, Some, None, All, Contains, count_by, map, if◌then◌else◌}
use Rattle.std.specs.List.{AllPairs, list_any, range_with_len}
use Rattle.arch_defs.specs.CsrBits.{hgatp_bits}
use Rattle.arch_defs.specs.Traps.{is_virtual}
use Rattle.log_lines.specs.declared.lines.CountKey.{CountKey}
use Rattle.log_lines.specs.declared.lines.CountLine.{CountLine}
use Rattle.log_lines.specs.CountKeys.{is_same_key, IsBefore}
use Rattle.machine_defs.specs.Machine.{Machine}
use Rattle.machine_defs.specs.Runs.{is_instruction}
use Rattle.run_log.specs.Seen.{Seen, seen}
use Rattle.run_log.specs.Traps.{step_events}

-- where a step was made from
abbrev pub count_key : Seen → CountKey
count_key s = let virt = s.before.platform.virt in record {
  mode = virt.mode;
  hgatp = if is_virtual virt.mode then Some (hgatp_bits virt.csrs.hgatp) else None;
  pc = virt.regs.pc;
}

-- whether it was an instruction from there, whether or not it trapped; an interrupt is none
abbrev pub is_executed : CountKey → Seen → Bool
is_executed key s = if is_same_key key (count_key s) then list_any is_instruction (step_events s) else false

-- how often, in a number of steps from one on
unfoldable pub times : Machine → ℕ → ℕ → CountKey → ℕ
times origin from steps key = count_by (λ n. is_executed key (seen origin n)) (range_with_len from steps)

-- lines that count them: each place that was executed has one line, in the order of mode, hgatp and pc
pub record AreCounts (origin : Machine) (from steps : ℕ) (lines : List CountLine) : Type 0 where
  pub each : All (λ c. (c.count ≡ times origin from steps c.key) × (0 < c.count)) lines
  pub all : (key : CountKey) → 0 < times origin from steps key → Contains (map (λ c. c.key) lines) key
  pub order : AllPairs (λ a b. IsBefore a.key b.key) lines
