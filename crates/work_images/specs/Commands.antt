-- The commands of a generated guest hypervisor, by the generator's numbers.
use Rattle.std.specs.Prelude.{ℕ, ◌+◌, ◌*◌, ◌==◌, if◌then◌else◌, List, ◌++◌, map}
use Rattle.std.specs.List.{flat_map, range_with_len}
use Rattle.byteorder.specs.Endian.{little_bytes}
use Rattle.work_images.specs.declared.commands.Command.{Command}
use Rattle.work_images.specs.Numbers.{number, draw}

-- the place of an entry of the last level of the table, by its index
abbrev pub slot_address : ℕ → ℕ
slot_address slot = 0x80009000 + 8 * slot

-- an entry for one of the 15 pages of data, with V, R, W, U, A and D set; 15 is not a page
abbrev pub mapping : ℕ → ℕ
mapping page = if page == 15 then 0 else (0x8000A + page) * 0x400 + 0xD7

-- the command by what is drawn for it: the index of the entry to store and its page, whether to fence the
-- page that this entry maps, where 0 is yes, and which page the nested guest is to read. A fence has the
-- guest physical address divided by 4; entry 0 maps the nested guest's code, and is left as it is
abbrev pub command : ℕ → ℕ → ℕ → ℕ → Command
command slot page fenced read = record {
  address = slot_address slot;
  value = mapping page;
  fence = if fenced == 0 then slot * 0x400 else 0;
  pointer = read * 0x1000;
}

-- the command of the four draws from a number on
abbrev pub command_from : ℕ → Command
command_from x = command (1 + draw x 0 32) (draw x 1 16) (draw x 2 4) (1 + draw x 3 32)

-- that many commands, each by the four draws after those of the one before
unfoldable pub commands_from : ℕ → ℕ → List Command
commands_from x count = map (λ i. command_from (number x (4 * i))) (range_with_len 0 count)

-- a command's four doublewords
abbrev pub command_bytes : Command → List ℕ
command_bytes c = little_bytes 8 c.address ++ little_bytes 8 c.value ++ little_bytes 8 c.fence
    ++ little_bytes 8 c.pointer

-- commands one after the other, and a doubleword 0 at their end
abbrev pub list_bytes : List Command → List ℕ
list_bytes commands = flat_map command_bytes commands ++ little_bytes 8 0
