-- What a stub answers (manual of gdb, "Packets", "Stop Reply Packets", "General Query Packets" of the remote
-- protocol; the texts behind `monitor` are own).
use Rattle.std.specs.Prelude.{ℕ, ◌+◌, ◌%◌, ◌^◌, ◌==◌, ◌||◌, Bool, List, [], ◌∷◌, ◌++◌, codes, decimal, drop, length, take, not, nat_lt, Option, Some, None, if◌then◌else◌}
use Rattle.std.specs.Int.{to_be_bytes, w64}
use Rattle.std.specs.List.{list_any}
use Rattle.arch_defs.specs.Memory.{ram_base}
use Rattle.machine_defs.specs.Machine.{Machine}
use Rattle.machine_defs.specs.Runs.{run}
use Rattle.gdb_commands.specs.declared.commands.Command.{Command}
use Rattle.gdb_commands.specs.declared.commands.Command.TheVariants as command
use Rattle.gdb_commands.specs.declared.commands.Place.{Place}
use Rattle.gdb_commands.specs.declared.commands.Request.{Request}
use Rattle.gdb_commands.specs.declared.commands.Request.TheVariants as request
use Rattle.gdb_commands.specs.declared.commands.StopKind.{StopKind}
use Rattle.gdb_commands.specs.declared.commands.StopKind.TheVariants as kind
use Rattle.gdb_packets.specs.Digits.{hex}
use Rattle.run_positions.specs.Looks.{offset_of}
use Rattle.run_positions.specs.Stops.{goes_on}
use Rattle.gdb_stub.specs.declared.sessions.Move.{Move}
use Rattle.gdb_stub.specs.declared.sessions.Move.TheVariants as move
use Rattle.gdb_stub.specs.Looking.{memory_text}
use Rattle.gdb_stub.specs.Registers.{error_text, register_text, registers_text}
use Rattle.gdb_stub.specs.Sessions.{changed_by_move, offsets_for, place_for, position_reached, machine_shown, Recording, SessionState}

-- a number as 16 digits
abbrev pub number_text : ℕ → List ℕ
number_text n = hex (to_be_bytes w64 n)

abbrev pub ok_text : List ℕ
ok_text = codes "OK"

-- the run has stopped, at a position where a stop holds or after a step; by a write; or at an end of it
abbrev pub stop_text : List ℕ
stop_text = codes "T05"

abbrev pub watch_text : ℕ → List ℕ
watch_text address = codes "T05watch:" ++ number_text address ++ codes ";"

abbrev pub begin_text : List ℕ
begin_text = codes "T05replaylog:begin;"

abbrev pub end_text : List ℕ
end_text = codes "T05replaylog:end;"

abbrev pub exact_text : List ℕ
exact_text = codes "E.runs are exact, so nothing can be written"

abbrev pub supported_text : List ℕ
supported_text =
    codes "PacketSize=1000;qXfer:features:read+;ReverseStep+;ReverseContinue+;vContSupported+"

-- gdb uses no vCont unless `C` and `S` are named too; both are answered as unknown
abbrev pub actions_text : List ℕ
actions_text = codes "vCont;c;C;s;S"

-- what stands before a part of that many bytes, of as many as are left: `l` before the last part, else `m`
abbrev pub part_mark : ℕ → ℕ → List ℕ
part_mark part left = if nat_lt part left then codes "m" else codes "l"

-- a part of the description
abbrev pub description_part : List ℕ → Place → List ℕ
description_part description place = let left = drop place.address description in
    let part = take place.length left in part_mark (length part) (length left) ++ part

-- why a run has stopped: at its end in this direction, or at an address or after a step
abbrev pub stop_or_end : Bool → List ℕ → List ℕ
stop_or_end over end = if over then end else stop_text

abbrev pub has_pc : List ℕ → Machine → Bool
has_pc pcs m = list_any (λ at. at == m.platform.virt.regs.pc) pcs

-- whether a position is the end of a run that stops at no address there, forwards, and backwards
abbrev pub is_over : Recording → List ℕ → ℕ → Bool
is_over r pcs n = if has_pc pcs (run r.begin n) then Bool.false
    else (not (goes_on (run r.begin n).platform.status) || n == r.last)

abbrev pub is_at_begin : Recording → List ℕ → ℕ → Bool
is_at_begin r pcs n = if has_pc pcs (run r.begin n) then Bool.false else n == 0

-- why it has stopped where a move from one position has come to another, if not by a write. A step that is
-- not made is at the end
abbrev pub move_end_text : Recording → List ℕ → ℕ → ℕ → Move → List ℕ
move_end_text r pcs from n move.Step = stop_or_end (n == from) end_text
move_end_text r pcs from n move.Continue = stop_or_end (is_over r pcs n) end_text
move_end_text r pcs from n move.StepBack = stop_or_end (n == from) begin_text
move_end_text r pcs from n move.ContinueBack = stop_or_end (is_at_begin r pcs n) begin_text

-- or by a write to what is watched from an address on
abbrev pub watch_or_end : Option ℕ → List ℕ → List ℕ
watch_or_end (Some address) end = watch_text address
watch_or_end None end = end

abbrev pub move_text : Recording → SessionState → Move → List ℕ
move_text r s way =
    watch_or_end (changed_by_move r s way) (move_end_text r s.pcs s.place (position_reached r s way) way)

-- what is set is acknowledged where some byte of it has a place
abbrev pub set_text : StopKind → List ℕ → List ℕ
set_text kind.Instruction offsets = ok_text
set_text kind.Written [] = error_text
set_text kind.Written (offset ∷ offsets) = ok_text
set_text kind.Other offsets = []

abbrev pub clear_text : StopKind → List ℕ
clear_text kind.Instruction = ok_text
clear_text kind.Written = ok_text
clear_text kind.Other = []

-- lines that gdb prints
abbrev pub position_line : ℕ → List ℕ
position_line n = codes "position " ++ decimal n ++ codes "\n"

-- where the tables of both stages have an address for a load, whatever is cached
abbrev pub walk_line : Option ℕ → List ℕ
walk_line (Some offset) =
    codes "the tables have it at 0x" ++ number_text ((offset + ram_base) % 2 ^ 64) ++ codes "\n"
walk_line None = codes "a load has no place in RAM\n"

abbrev pub fences_line : List ℕ
fences_line = codes "fences are told by nesthv-look\n"

abbrev pub requests_line : List ℕ
requests_line = codes "monitor: step N | goto N | walk 0xADDRESS | fences\n"

-- what is told of what stands behind `monitor`, after it has moved the run
abbrev pub line_at : Recording → SessionState → Request → List ℕ
line_at r s (request.Step k) = position_line s.place
line_at r s (request.GoTo k) = position_line s.place
line_at r s (request.Walk address) = walk_line (offset_of (machine_shown r s) address)
line_at r s request.Fences = fences_line
line_at r s request.Unknown = requests_line

-- the answer to a command that is the same for all runs
abbrev pub fixed_text : Command → List ℕ
fixed_text command.Reason = stop_text
fixed_text command.Write = exact_text
fixed_text command.Supported = supported_text
fixed_text command.Actions = actions_text
fixed_text command.Attached = codes "1"
fixed_text command.Thread = ok_text
fixed_text command.Detach = ok_text
fixed_text command.Bad = error_text
fixed_text other = []

-- and to one that looks at registers or at the description
abbrev pub look_text : Recording → SessionState → Command → List ℕ
look_text r s command.Registers = registers_text (machine_shown r s).platform.virt
look_text r s (command.Register n) = register_text (machine_shown r s).platform.virt n
look_text r s (command.Description place) = description_part r.description place
look_text r s other = fixed_text other

-- the answer to a command
unfoldable pub answer_to : Recording → SessionState → Command → List ℕ
answer_to r s (command.Memory place) = memory_text (machine_shown r s) place.address place.length
answer_to r s command.Step = move_text r s move.Step
answer_to r s command.Continue = move_text r s move.Continue
answer_to r s command.StepBack = move_text r s move.StepBack
answer_to r s command.ContinueBack = move_text r s move.ContinueBack
answer_to r s (command.Set kind place) = set_text kind (offsets_for (machine_shown r s) place)
answer_to r s (command.Clear kind place) = clear_text kind
answer_to r s (command.Monitor asked) =
    hex (line_at r (record s { place = place_for asked r.last s.place }) asked)
answer_to r s other = look_text r s other
