-- Calls of the environment, bytes of the console, and waits (own; a WFI: Privileged Architecture 20211203,
-- 3.3.3 and 8.6.1).
use Rattle.std.specs.Prelude.{ℕ, ◌-◌, ◌==◌, List, [], ◌∷◌, ◌++◌, Option, Some, None, length, drop, take, map, if◌then◌else◌}
use Rattle.arch_defs.specs.declared.registers.Regs.{Regs}
use Rattle.arch_defs.specs.Registers.{a0, a7, read}
use Rattle.guest_settings.specs.declared.statuses.Status.{Status}
use Rattle.guest_settings.specs.declared.statuses.Status.TheVariants.{Running, Waiting, Stopped}
use Rattle.log_lines.specs.declared.heads.Head.{Head}
use Rattle.log_lines.specs.declared.lines.CallLine.{CallLine}
use Rattle.log_lines.specs.declared.lines.Line.{Line}
use Rattle.log_lines.specs.declared.lines.Line.TheVariants as line
use Rattle.log_lines.specs.declared.lines.Wake.{Wake}
use Rattle.log_lines.specs.declared.lines.Wake.TheVariants.{At, Never}
use Rattle.machine_defs.specs.Machine.{Machine}
use Rattle.machine_defs.specs.Outcomes.{Called, Outcome, Waits}
use Rattle.run_log.specs.Seen.{Seen, head_of, step_outcome}

-- a call: its number, which is in a7, what a0 was, and what a0 is after it; call 8 stops the machine and
-- answers nothing
abbrev pub call_line : Head → Regs → Regs → CallLine
call_line head before after =
    let number = read before a7 in
    record {
      head = head;
      number = number;
      given = read before a0;
      answer = if number == 8 then None else Some (read after a0);
    }

-- when a WFI ends: where the clock is after it, or never, where it waits for good
abbrev pub wake_by : Status → ℕ → Wake
wake_by Running time = At time
wake_by Waiting time = Never
wake_by Stopped time = At time

abbrev pub wake_of : Machine → Wake
wake_of after = wake_by after.platform.status after.platform.clock.time

-- by how the instruction ends
abbrev pub call_lines_by : Seen → Option Outcome → List Line
call_lines_by s (Some Called) =
    line.Call (call_line (head_of s) s.before.platform.virt.regs s.after.platform.virt.regs) ∷ []
call_lines_by s (Some (Waits virt)) = line.Wait (head_of s) (wake_of s.after) ∷ []
call_lines_by s _ = []

-- the bytes that it put on the console, by a call or by the device page, and the inputs that it read
abbrev pub bytes_put : Machine → Machine → List ℕ
bytes_put before after = drop (length before.platform.console.bytes) after.platform.console.bytes

abbrev pub inputs_read : Machine → Machine → List (ℕ × ℕ)
inputs_read before after =
    take (length before.platform.console.inputs - length after.platform.console.inputs)
    before.platform.console.inputs

unfoldable pub call_lines : Seen → List Line
call_lines s = call_lines_by s (step_outcome s.tried)
    ++ map (λ byte. line.Put (head_of s) byte) (bytes_put s.before s.after)
    ++ map (λ input. line.Got (head_of s) input.1) (inputs_read s.before s.after)
