-- What the payload of a packet asks for (manual of gdb, "Packets", "Reverse Execution" and "General Query
-- Packets" of the remote protocol; the words behind `monitor` are own).
use Rattle.std.specs.Prelude.{ℕ, ◌+◌, Bool, ◌==◌, ◌||◌, ◌&&◌, nat_eq, nat_lt, List, [], ◌∷◌, length, drop, take, slice_index, codes, Option, Some, None, if◌then◌else◌}
use Rattle.std.specs.List.{position_or_len, starts_with}
use Rattle.gdb_packets.specs.Digits.{unhex}
use Rattle.gdb_commands.specs.declared.commands.Command.{Command}
use Rattle.gdb_commands.specs.declared.commands.Command.TheVariants as command
use Rattle.gdb_commands.specs.declared.commands.Request.{Request}
use Rattle.gdb_commands.specs.declared.commands.Request.TheVariants as request
use Rattle.gdb_commands.specs.declared.commands.Place.{Place}
use Rattle.gdb_commands.specs.declared.commands.StopKind.{StopKind}
use Rattle.gdb_commands.specs.declared.commands.StopKind.TheVariants as kind
use Rattle.gdb_commands.specs.Numbers.{decimal_in, hex_in}

-- bytes begin with a text
abbrev pub begins : List ℕ → List ℕ → Bool
begins bytes text = starts_with nat_eq bytes text

-- two numbers with a comma between them
abbrev pub both_numbers : Option ℕ → Option ℕ → Option Place
both_numbers (Some address) (Some length) = Some (record { address = address; length = length })
both_numbers (Some address) None = None
both_numbers None second = None

abbrev pub comma_place : List ℕ → ℕ
comma_place bytes = position_or_len (λ b. b == 0x2C) bytes

abbrev pub numbers_at : ℕ → List ℕ → Option Place
numbers_at n bytes =
    if nat_lt n (length bytes)
    then both_numbers (hex_in (take n bytes)) (hex_in (drop (n + 1) bytes)) else None

unfoldable pub numbers_in : List ℕ → Option Place
numbers_in bytes = numbers_at (comma_place bytes) bytes

abbrev pub register_by : Option ℕ → Command
register_by (Some n) = command.Register n
register_by None = command.Bad

abbrev pub memory_by : Option Place → Command
memory_by (Some place) = command.Memory place
memory_by None = command.Bad

abbrev pub description_by : Option Place → Command
description_by (Some place) = command.Description place
description_by None = command.Bad

-- a stop before an instruction is executed, or where a write changes memory; no other kind
abbrev pub stop_kind : ℕ → StopKind
stop_kind b = if b == 0x30 || b == 0x31 then kind.Instruction
    else if b == 0x32 then kind.Written else kind.Other

abbrev pub stop_by : Bool → StopKind → Option Place → Command
stop_by Bool.true kind (Some place) = command.Set kind place
stop_by Bool.false kind (Some place) = command.Clear kind place
stop_by Bool.true kind None = command.Bad
stop_by Bool.false kind None = command.Bad

abbrev pub stop_in : Bool → List ℕ → Command
stop_in sets rest =
    if nat_lt 1 (length rest) && slice_index rest 1 == 0x2C
    then stop_by sets (stop_kind (slice_index rest 0)) (numbers_in (drop 2 rest)) else command.Bad

abbrev pub backwards_in : List ℕ → Command
backwards_in rest = if begins rest (codes "s") then command.StepBack
    else if begins rest (codes "c") then command.ContinueBack else command.Unknown

-- the words behind `monitor`
abbrev pub steps_by : Option ℕ → Request
steps_by (Some n) = request.Step n
steps_by None = request.Unknown

abbrev pub goes_by : Option ℕ → Request
goes_by (Some n) = request.GoTo n
goes_by None = request.Unknown

abbrev pub walks_by : Option ℕ → Request
walks_by (Some n) = request.Walk n
walks_by None = request.Unknown

unfoldable pub request_in : List ℕ → Request
request_in text =
    if begins text (codes "step ") then steps_by (decimal_in (drop 5 text))
    else if begins text (codes "goto ") then goes_by (decimal_in (drop 5 text))
    else if begins text (codes "walk 0x") then walks_by (hex_in (drop 7 text))
    else if begins text (codes "fences") then request.Fences
    else request.Unknown

abbrev pub monitor_by : Option (List ℕ) → Command
monitor_by (Some text) = command.Monitor (request_in text)
monitor_by None = command.Bad

unfoldable pub query_in : List ℕ → Command
query_in rest =
    if begins rest (codes "Supported") then command.Supported
    else if begins rest (codes "Attached") then command.Attached
    else if begins rest (codes "Xfer:features:read:target.xml:")
    then description_by (numbers_in (drop 30 rest))
    else if begins rest (codes "Rcmd,") then monitor_by (unhex (drop 5 rest))
    else command.Unknown

-- steps and runs as gdb asks for them where a stub tells that it can make them
unfoldable pub action_in : List ℕ → Command
action_in rest =
    if begins rest (codes "Cont?") then command.Actions
    else if begins rest (codes "Cont;s") then command.Step
    else if begins rest (codes "Cont;c") then command.Continue
    else command.Unknown

-- by the first letter
unfoldable pub lettered : ℕ → List ℕ → Command
lettered b rest =
    if b == 0x3F then command.Reason
    else if b == 0x67 then command.Registers
    else if b == 0x70 then register_by (hex_in rest)
    else if b == 0x6D then memory_by (numbers_in rest)
    else if b == 0x47 || b == 0x50 || b == 0x4D || b == 0x58 then command.Write
    else if b == 0x73 then command.Step
    else if b == 0x63 then command.Continue
    else if b == 0x62 then backwards_in rest
    else if b == 0x5A then stop_in Bool.true rest
    else if b == 0x7A then stop_in Bool.false rest
    else if b == 0x71 then query_in rest
    else if b == 0x76 then action_in rest
    else if b == 0x48 then command.Thread
    else if b == 0x44 then command.Detach
    else if b == 0x6B then command.Kill
    else command.Unknown

unfoldable pub command_in : List ℕ → Command
command_in [] = command.Unknown
command_in (b ∷ rest) = lettered b rest
