-- Steps, with the register that each changed, and the memory that it read and wrote.
use Rattle.std.specs.Prelude.{ℕ, ◌-◌, ◌==◌, Bool, true, false, not, List, [], ◌∷◌, Option, Some, None, filter, flat_map, if◌then◌else◌}
use Rattle.std.specs.List.{range_with_len}
use Rattle.arch_defs.specs.declared.registers.Regs.{Regs}
use Rattle.arch_defs.specs.Interrupts.{due}
use Rattle.arch_defs.specs.Memory.{Reading, load, ram_base, ram_memory}
use Rattle.arch_defs.specs.Registers.{read}
use Rattle.arch_defs.specs.Widths.{bytes_in}
use Rattle.log_lines.specs.declared.lines.Line.{Line}
use Rattle.log_lines.specs.declared.lines.Line.TheVariants as line
use Rattle.log_lines.specs.declared.steps.MemoryValue.{MemoryValue}
use Rattle.log_lines.specs.declared.steps.StepLine.{StepLine}
use Rattle.log_lines.specs.declared.steps.Written.{Written}
use Rattle.op_defs.specs.declared.ops.DataAccess.{DataAccess}
use Rattle.op_defs.specs.declared.ops.Purpose.{Purpose}
use Rattle.op_defs.specs.declared.ops.Purpose.TheVariants.{Load, LoadCode, Store, Reserve, StoreReserved, Modify}
use Rattle.machine_defs.specs.declared.events.Event.{Event}
use Rattle.machine_defs.specs.Core.{At, Fails, Located, data_place, fetch_place, is_reserved, word_at}
use Rattle.machine_defs.specs.HlvAccesses.{hlv_place}
use Rattle.machine_defs.specs.Machine.{Machine}
use Rattle.machine_defs.specs.Outcomes.{Accesses, Done, Outcome}
use Rattle.machine_defs.specs.Tries.{mmu_of}
use Rattle.run_log.specs.Seen.{Seen, head_of, step_outcome}
use Rattle.run_log.specs.Traps.{step_events}
use Rattle.run_log.specs.Uses.{data_next}

-- the word at pc, if its fetch has a place in RAM, unless an interrupt is due
abbrev pub word_if : Reading → Located → Option ℕ
word_if reading (At place) = Some (word_at reading place)
word_if reading (Fails failure) = None

abbrev pub step_word_with : Machine → Option ℕ → Option ℕ
step_word_with m (Some code) = None
step_word_with m None = let through = mmu_of m in
    word_if through.reading (fetch_place through m.platform.virt)

unfoldable pub step_word : Machine → Option ℕ
step_word m = step_word_with m (due m.platform.virt.csrs m.platform.virt.mode)

-- the registers that have another value after the step: at most two, those that a call answers with
abbrev pub is_changed : Regs → Regs → ℕ → Bool
is_changed before after n = not (read before n == read after n)

unfoldable pub changed_from : Regs → Regs → ℕ → List ℕ
changed_from before after from = filter (is_changed before after) (range_with_len from (32 - from))

abbrev pub first_written : Regs → List ℕ → Option Written
first_written after [] = None
first_written after (n ∷ ns) = Some (record { register = n; value = read after n })

abbrev pub second_written : Regs → List ℕ → Option Written
second_written after [] = None
second_written after (n ∷ ns) = first_written after ns

-- the access to data that an instruction makes in RAM, and its place
pub record MadeAccess : Type 0 where
  pub access : DataAccess
  pub place : ℕ

abbrev pub access_made_if : DataAccess → Located → Option MadeAccess
access_made_if wanted (At place) = Some (record { access = wanted; place = place })
access_made_if wanted (Fails failure) = None

abbrev pub own_access : Machine → Option DataAccess → Option MadeAccess
own_access m (Some wanted) = let virt = m.platform.virt in
    access_made_if wanted (data_place (mmu_of m) virt.csrs virt.mode wanted)
own_access m None = None

-- by how the instruction ends: in the machine's own mode, or as HLV, HLVX and HSV make it
abbrev pub access_made_by : Machine → Option Outcome → Option MadeAccess
access_made_by m (Some (Done virt stored event)) = own_access m (data_next m)
access_made_by m (Some (Accesses wanted)) =
    access_made_if wanted (hlv_place (ram_memory m.ram) m.platform.virt.csrs wanted)
access_made_by m _ = None

unfoldable pub access_made : Machine → Option MadeAccess
access_made m = access_made_by m (step_outcome m)

-- whether it reads, and whether it writes
abbrev pub is_reading : Purpose → Bool
is_reading (Load signed rd) = true
is_reading (LoadCode rd) = true
is_reading (Store value) = false
is_reading (Reserve rd) = true
is_reading (StoreReserved value rd) = false
is_reading (Modify op operand rd) = true

abbrev pub is_writing : Machine → MadeAccess → Purpose → Bool
is_writing m made (Load signed rd) = false
is_writing m made (LoadCode rd) = false
is_writing m made (Store value) = true
is_writing m made (Reserve rd) = false
is_writing m made (StoreReserved value rd) =
    is_reserved m.platform.virt.reservation made.place made.access.width
is_writing m made (Modify op operand rd) = true

-- the number there in RAM
abbrev pub value_in : List ℕ → MadeAccess → MemoryValue
value_in ram made = let width = bytes_in made.access.width in
    record { place = made.place; width = width; value = load ram (made.place - ram_base) width }

abbrev pub memory_read : Machine → Option MadeAccess → Option MemoryValue
memory_read m (Some made) = if is_reading made.access.purpose then Some (value_in m.ram made) else None
memory_read m None = None

abbrev pub memory_stored : Machine → List ℕ → Option MadeAccess → Option MemoryValue
memory_stored m after (Some made) =
    if is_writing m made made.access.purpose then Some (value_in after made) else None
memory_stored m after None = None

abbrev pub step_line : Seen → StepLine
step_line s =
    let after = s.after.platform.virt.regs in
    let numbers = changed_from s.before.platform.virt.regs after 0 in
    record {
      head = head_of s;
      word = step_word s.tried;
      written = first_written after numbers;
      also = second_written after numbers;
      read = memory_read s.tried (access_made s.tried);
      stored = memory_stored s.tried s.after.ram (access_made s.tried);
    }

-- a wait for good is not a step
abbrev pub step_line_for : Seen → Event → List Line
step_line_for s event = line.Step (step_line s) ∷ []

unfoldable pub step_lines : Seen → List Line
step_lines s = flat_map (step_line_for s) (step_events s)
