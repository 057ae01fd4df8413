-- The lines of a step, by what it was and by the state before and after it.
use Rattle.std.specs.Prelude.{ℕ, ◌-◌, Bool, true, false, Option, Some, None}
use Rattle.arch_defs.specs.declared.cached.Fence.{Fence}
use Rattle.arch_defs.specs.declared.registers.Csrs.{Csrs}
use Rattle.arch_defs.specs.declared.registers.Regs.{Regs}
use Rattle.guest_settings.specs.declared.statuses.Status.{Status}
use Rattle.log_lines.specs.declared.heads.Head.{Head}
use Rattle.log_lines.specs.declared.lines.FenceLine.{FenceLine}
use Rattle.log_lines.specs.declared.lines.FenceOp.{FenceOp}
use Rattle.log_lines.specs.declared.lines.Line.{Line}
use Rattle.log_lines.specs.declared.lines.Line.TheVariants as line
use Rattle.machine_defs.specs.declared.events.Event.{Event}
use Rattle.machine_defs.specs.declared.events.Event.TheVariants as event
use Rattle.run_log.specs.Calls.{call_line, wake_by}
use Rattle.log_lines.specs.declared.steps.MemoryValue.{MemoryValue}
use Rattle.run_log.specs.Steps.{changed_from, first_written, second_written}
use Rattle.run_log.specs.Traps.{trap_line}
use Rattle.step_lines.specs.declared.acts.Act.{Act}
use Rattle.step_lines.specs.declared.acts.Act.TheVariants.{Calls, Fences, Waits}
use Rattle.step_lines.specs.declared.fences.Held.{Held}

abbrev pub trap_line_of : Head → Event → Csrs → Option Line
trap_line_of head (event.Trap into interrupt) csrs = Some (line.Trap (trap_line head csrs into))
trap_line_of head (event.Plain pc word) csrs = None
trap_line_of head event.System csrs = None

abbrev pub call_line_of : Head → Act → Regs → Regs → Status → ℕ → Option Line
call_line_of head Calls before after status time = Some (line.Call (call_line head before after))
call_line_of head Waits before after status time = Some (line.Wait head (wake_by status time))
call_line_of head _ before after status time = None

-- by how many translations were cached before the fence dropped some, and are after it
abbrev pub fenced_line : Head → FenceOp → Fence → Held → Held → FenceLine
fenced_line head fence named held after = record {
  head = head;
  fence = fence;
  id = named.vmid;
  page = named.page;
  first = held.first - after.first;
  second = held.second - after.second;
}

abbrev pub fence_line_of : Head → Act → Held → Held → Option Line
fence_line_of head (Fences fence named) held after =
    Some (line.Fence (fenced_line head fence named held after))
fence_line_of head _ held after = None

-- a step, by the registers before and after it, and what it read and wrote in RAM
abbrev pub step_line_of : Head → Option ℕ → Regs → Regs → Option MemoryValue → Option MemoryValue
    → Line
step_line_of head word before after read stored =
    let numbers = changed_from before after 0 in
    line.Step (record {
      head = head;
      word = word;
      written = first_written after numbers;
      also = second_written after numbers;
      read = read;
      stored = stored;
    })
