-- A guest's RAM in machine memory.
use Rattle.std.specs.Prelude.{◌&&◌, nat_le, nat_lt}
use Rattle.std.specs.Option.{option_map}
use Rattle.std.proofs.Common.{cond, ◌≡◌, ℕ, ◌+◌, ◌-◌, ◌*◌, ◌/◌, ◌%◌, ◌<◌, ◌≤◌, ◌∙◌, Bool, true, false, List, Some, None, length, slice_index, refl, ap, sym, subst, arith}
use Rattle.arch_defs.specs.declared.modes.Access.{Access}
use Rattle.byteorder.specs.Endian.{little_bytes}
use Rattle.byteorder.specs.Numbers.{length-bytes_low_first}
use Rattle.arch_defs.specs.Frames.{in_blocks}
use Rattle.arch_defs.specs.Memory.{SecondStage, bare, block_size, machine_memory, ram_base, ram_memory, reading_of}
use Rattle.arch_defs.specs.Ram.{IsDistinct, SlicesLieIn, ram_of}
use Rattle.arch_defs.proofs.FrameSets.{only_none, only_pasted}
use Rattle.arch_defs.proofs.RamBlocks.{host_places_apart, place_named, ram_length, ram_load, ram_pasted}
use Rattle.arch_defs.proofs.SlicesOf.{slot}
use Rattle.instruction_laws.specs.HostPlaces.{OnlyRamChanges, PlacesAreRenamed, RamIsRenamed, RamIsStored, memory_place, host_second, in_ram, ram_size}
use Rattle.instruction_laws.specs.Renaming.{GivesWithin}

-- a place of RAM is at or above its base and below its end
from_test : (base size place : ℕ) → (nat_le base place && nat_lt place (base + size)) ≡ true → (base ≤ place) × (place < base + size)
from_test base size place in_it = (grind arith, grind arith)

-- bytes up to the end of their page end in RAM and in their block
in_size : (count place n : ℕ) → 2147483648 ≤ place → place < 2147483648 + count * 2097152 → place % 4096 + n ≤ 4096
    → place - 2147483648 + n ≤ count * 2097152
in_size count place n above below one = omega arith

in_block : (place n : ℕ) → 2147483648 ≤ place → place % 4096 + n ≤ 4096 → (place - 2147483648) % 2097152 + n ≤ 2097152
in_block place n above one = omega arith

in_offset : (base size place : ℕ) → base ≤ place → place < base + size → place - base < size
in_offset base size place above below = omega arith

same_offset : (base a b : ℕ) → base ≤ a → base ≤ b → a - base ≡ b - base → a ≡ b
same_offset base a b a_above b_above same = omega arith

from_zero : (place : ℕ) → place - 0 ≡ place
from_zero place = omega arith

-- RAM of that many bytes passes each of its addresses on
abbrev flat : ℕ → SecondStage
flat size address access = cond (nat_le ram_base address && nat_lt address (ram_base + size)) (Some address) None

-- an address has a place in memory where it has one in RAM
places : (blocks : List ℕ) (address : ℕ) (access : Access)
    → host_second blocks address access ≡ option_map (memory_place blocks) (flat (ram_size blocks) address access)
places blocks address access = elim (in_ram blocks address)
    as (λ b. cond b (Some (memory_place blocks address)) None ≡ option_map (memory_place blocks) (cond b (Some address) None)) [ true ↦ refl | false ↦ refl ]

-- which is of RAM
inside : (blocks : List ℕ) → GivesWithin (in_ram blocks) (flat (ram_size blocks))
inside blocks address place access is = by (in_ram blocks address) refl is
  where
    by : (b : Bool) → in_ram blocks address ≡ b → cond b (Some address) None ≡ Some place → (in_ram blocks place ≡ true) × (place % 4096 ≡ address % 4096)
    by true in_it is = let e : address ≡ place = cc in rw (← e) (in_it, refl)
    by false out is = cc

-- and has the same bytes
same : (blocks memory : List ℕ) → SlicesLieIn block_size blocks (length memory) → (place n : ℕ) → in_ram blocks place ≡ true → place % 4096 + n ≤ 4096
    → reading_of (machine_memory memory) (memory_place blocks place) n ≡ reading_of (ram_memory (ram_of blocks memory)) place n
same blocks memory lie place n in_it one =
    let bounds = from_test ram_base (ram_size blocks) place in_it in
    rw (from_zero (memory_place blocks place))
    (sym (ram_load blocks memory (place - ram_base) n lie (in_size (length blocks) place n bounds.0 bounds.1 one) (in_block place n bounds.0 one)))

-- no two addresses of RAM have one place
apart : (blocks : List ℕ) → IsDistinct blocks → (a b : ℕ) → in_ram blocks a ≡ true → in_ram blocks b ≡ true → memory_place blocks a ≡ memory_place blocks b → a ≡ b
apart blocks distinct a b a_in b_in e =
    let a_bounds = from_test ram_base (ram_size blocks) a a_in in
    let b_bounds = from_test ram_base (ram_size blocks) b b_in in
    same_offset ram_base a b a_bounds.0 b_bounds.0
    (host_places_apart blocks (a - ram_base) (b - ram_base) distinct
    (in_offset ram_base (ram_size blocks) a a_bounds.0 a_bounds.1) (in_offset ram_base (ram_size blocks) b b_bounds.0 b_bounds.1) e)

pub places_are_renamed : PlacesAreRenamed
places_are_renamed = λ blocks memory own host lie distinct gives is. record {
  places = is;
  inside = gives;
  same = same blocks memory lie;
  apart = apart blocks distinct;
}

pub ram_is_renamed : RamIsRenamed
ram_is_renamed = λ blocks memory lie distinct. let size : ram_size blocks ≡ length (ram_of blocks memory) = sym (ram_length blocks memory lie) in
    places_are_renamed blocks memory (bare (ram_memory (ram_of blocks memory))) (host_second blocks) lie distinct
    (subst (λ n. GivesWithin (in_ram blocks) (flat n)) size (inside blocks))
    (subst (λ n. (address : ℕ) (access : Access) → host_second blocks address access ≡ option_map (memory_place blocks) (flat n address access)) size (places blocks))

-- what is stored in RAM
pub ram_is_stored : RamIsStored
ram_is_stored blocks memory (Some s) lie distinct (in_it, one) =
    let bounds = from_test ram_base (ram_size blocks) s.place in_it in
    rw (from_zero (memory_place blocks s.place))
    (ram_pasted blocks memory (s.place - ram_base) (little_bytes s.width s.value) lie distinct
    (in_offset ram_base (ram_size blocks) s.place bounds.0 bounds.1)
    (rw (length-bytes_low_first 0 s.width s.value) (in_size (length blocks) s.place s.width bounds.0 bounds.1 one))
    (rw (length-bytes_low_first 0 s.width s.value) (in_block s.place s.width bounds.0 one)))
ram_is_stored blocks memory None lie distinct in_it = refl

-- its bytes lie in memory, and in one frame
in_memory : (b r n most : ℕ) → b * 2097152 + 2097152 ≤ most → r + n ≤ 2097152 → b * 2097152 + r + n ≤ most
in_memory b r n most fits one = omega arith

in_frame : (b place n at : ℕ) → 2147483648 ≤ place → place % 4096 + n ≤ 4096 → b * 2097152 + (place - 2147483648) % 2097152 ≤ at
    → at < b * 2097152 + (place - 2147483648) % 2097152 + n → at / 4096 ≡ (b * 2097152 + (place - 2147483648) % 2097152) / 4096
in_frame b place n at above one from to = omega arith

some_bytes : 0 < block_size
some_bytes = omega arith

pub only_ram_changes : OnlyRamChanges
only_ram_changes blocks memory (Some s) lie (in_it, one) =
    let bounds = from_test ram_base (ram_size blocks) s.place in_it in
    let offset = s.place - ram_base in
    let inside = in_offset ram_base (ram_size blocks) s.place bounds.0 bounds.1 in
    let block = slice_index blocks (offset / block_size) in
    rw (from_zero (memory_place blocks s.place))
    (only_pasted (in_blocks blocks) memory (memory_place blocks s.place) (little_bytes s.width s.value)
    (rw (length-bytes_low_first 0 s.width s.value)
    (in_memory block (offset % block_size) s.width (length memory) (lie (offset / block_size) (slot block_size (length blocks) offset some_bytes inside))
    (in_block s.place s.width bounds.0 one)))
    (λ at from to. ap (in_blocks blocks) (in_frame block s.place s.width at bounds.0 one from (rw (length-bytes_low_first 0 s.width s.value) at to))
    ∙ place_named blocks offset inside))
only_ram_changes blocks memory None lie in_it = only_none (in_blocks blocks) memory
