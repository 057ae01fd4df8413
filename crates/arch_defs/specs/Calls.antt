-- Calls of the supervisor execution environment (own; the numbers are those of the legacy calls of the
-- Supervisor Binary Interface).
use Rattle.std.specs.Prelude.{ℕ, ◌-◌, ◌%◌, ◌^◌, ◌==◌, [], ◌∷◌, ◌++◌, unwrap_or, if◌then◌else◌}
use Rattle.arch_defs.specs.declared.registers.Regs.{Regs}
use Rattle.arch_defs.specs.Bits.{add64}
use Rattle.arch_defs.specs.Registers.{a0, a1, a7, advanced, read}
use Rattle.arch_defs.specs.Clocks.{Times}
use Rattle.arch_defs.specs.Consoles.{ConsoleState, has_room}
use Rattle.arch_defs.specs.Inputs.{arrived_byte, unread_after}

-- what a call reads and changes: the registers, the clock and the console of the machine that calls
pub record CallState : Type 0 where
  pub regs : Regs
  pub clock : Times
  pub console : ConsoleState

abbrev pub state_of : Regs → Times → ConsoleState → CallState
state_of regs clock console = record { regs = regs; clock = clock; console = console }

-- a0 gets an answer, and pc goes on
abbrev pub answering : Regs → ℕ → Regs
answering regs value = advanced regs a0 value (add64 regs.pc 4)

abbrev pub answered : CallState → ℕ → CallState
answered s value = record s { regs = answering s.regs value }

-- call 0: the timer becomes a0
abbrev pub set_timer : CallState → CallState
set_timer s = answered (record s { clock = record s.clock { timer = read s.regs a0 } }) 0

-- a byte goes to the console
abbrev pub with_byte : CallState → ℕ → CallState
with_byte s byte = record s { console = record s.console { bytes = s.console.bytes ++ byte ∷ [] } }

-- call 1: the low byte of a0 goes to the console, if it has room; else the byte is dropped
abbrev pub put : CallState → CallState
put s = if has_room s.console
    then answered (with_byte s (read s.regs a0 % 256)) 0
    else answered s (2 ^ 64 - 1)

-- call 2: the first unread input is read, if its moment has come, and a0 gets its byte
abbrev pub get : CallState → CallState
get s = let inputs = s.console.inputs in
    answered (record s { console = record s.console { inputs = unread_after inputs s.clock.time } })
    (unwrap_or (arrived_byte inputs s.clock.time) (2 ^ 64 - 1))

-- call 8: the machine stops, and pc goes on
abbrev pub stopped : CallState → CallState
stopped s = record s { regs = record s.regs { pc = add64 s.regs.pc 4 } }

-- another call: a0 and a1 tell that there is none of this number
abbrev pub refusing : Regs → Regs
refusing regs = answering (advanced regs a1 0 regs.pc) (2 ^ 64 - 2)

abbrev pub unknown : CallState → CallState
unknown s = record s { regs = refusing s.regs }

-- the call of a number
abbrev pub called_by_number : CallState → ℕ → CallState
called_by_number s number = if number == 0 then set_timer s
    else if number == 1 then put s
    else if number == 2 then get s
    else if number == 8 then stopped s
    else unknown s

-- the call whose number is in a7
abbrev pub environment : CallState → CallState
environment s = called_by_number s (read s.regs a7)
