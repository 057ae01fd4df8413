-- Memory, and what an access goes through. Numbers are read and written little endian (Unprivileged ISA
-- 20191213, 1.5; for data own).
use Rattle.std.specs.Prelude.{ℕ, ◌+◌, ◌-◌, ◌&&◌, List, ◌++◌, Option, Some, None, length, take, drop, replicate, nat_lt, nat_le, if◌then◌else◌}
use Rattle.byteorder.specs.Endian.{little_number, little_bytes}
use Rattle.arch_defs.specs.declared.modes.Access.{Access}

-- where a lone machine's RAM begins (own)
abbrev pub ram_base : ℕ
ram_base = 0x80000000

-- the bytes of a block of RAM (own)
abbrev pub block_size : ℕ
block_size = 2097152

-- memory: the bytes from a base address on
pub record Memory : Type 0 where
  pub base : ℕ
  pub bytes : List ℕ

-- machine memory, and the RAM of a lone machine
abbrev pub machine_memory : List ℕ → Memory
machine_memory bytes = record { base = 0; bytes = bytes }

abbrev pub ram_memory : List ℕ → Memory
ram_memory bytes = record { base = ram_base; bytes = bytes }

-- the number of n bytes at an offset
abbrev pub load : List ℕ → ℕ → ℕ → ℕ
load bytes at n = little_number n (drop at bytes)

-- the bytes with a piece laid over them at an offset
abbrev pub pasted : List ℕ → ℕ → List ℕ → List ℕ
pasted bytes at piece = take at bytes ++ piece ++ drop (at + length piece) bytes

-- that many zeros
unfoldable pub zeros : ℕ → List ℕ
zeros size = replicate size 0

-- an image from the start of memory of this size on, and zeros after it (own)
unfoldable pub loaded : ℕ → List ℕ → List ℕ
loaded size image = image ++ zeros (size - length image)

-- what memory gives at a physical address: the number of that many bytes
abbrev pub Reading : Type 0
Reading = ℕ → ℕ → ℕ

-- the reading of memory
abbrev pub reading_of : Memory → Reading
reading_of memory place n = load memory.bytes (place - memory.base) n

-- the second stage: the physical address of a guest physical address for a kind of access, or none
abbrev pub SecondStage : Type 0
SecondStage = ℕ → Access → Option ℕ

-- a second stage that passes on each address inside memory (Privileged Architecture 20211203, 8.2.10: Bare)
abbrev pub bare : Memory → SecondStage
bare memory address access =
    if nat_le memory.base address && nat_lt address (memory.base + length memory.bytes) then Some address
    else None

-- what is known of virtual addresses without a walk: the guest physical address for a kind of access, with
-- the permission of that access, or none
abbrev pub Known : Type 0
Known = ℕ → Access → Option ℕ

-- nothing is known
abbrev pub nothing_known : Known
nothing_known va access = None

-- what an access goes through: what is known of its virtual address, the second stage, and the reading of
-- memory, by which tables are walked too
pub record Mmu : Type 0 where
  pub known : Known
  pub second : SecondStage
  pub reading : Reading

abbrev pub mmu : Known → SecondStage → Reading → Mmu
mmu known second reading = record { known = known; second = second; reading = reading }

-- what an instruction stores: a number in that many bytes at a physical address
pub record Stored : Type 0 where
  pub place : ℕ
  pub width : ℕ
  pub value : ℕ

-- memory from a base on with what an instruction stores, if it stores anything
abbrev pub with_stored : ℕ → Option Stored → List ℕ → List ℕ
with_stored base None bytes = bytes
with_stored base (Some s) bytes = pasted bytes (s.place - base) (little_bytes s.width s.value)
