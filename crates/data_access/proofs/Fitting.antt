-- An access at a multiple of its width lies in memory of whole frames.
use Rattle.std.proofs.Common.{◌≡◌, ℕ, ◌+◌, ◌-◌, ◌%◌, ◌<◌, ◌≤◌, true, nat_le, length, Some, refl, arith}
use Rattle.std.proofs.lemmas.Bool.{and_from, le-leb}
use Rattle.byteorder.specs.Endian.{little_bytes}
use Rattle.byteorder.specs.Numbers.{length-bytes_low_first}
use Rattle.arch_defs.specs.declared.widths.Width.{Width}
use Rattle.arch_defs.specs.declared.widths.Width.TheVariants.{Byte, Half, Word, Double}
use Rattle.arch_defs.specs.Memory.{Memory, load, pasted}
use Rattle.arch_defs.specs.Widths.{bytes_in}
use Rattle.arch_defs.proofs.Pastes.{length_pasted}
use Rattle.phys_mem.specs.MemoryBytes.{IsWhole, bytes_with, is_inside, number_at}
use Rattle.two_stage_walk.specs.Places.{IsPlaceOf}
use Rattle.data_access.specs.Places.{IsPlaceFor}

-- over numbers, for each width
byte_fits : (most place : ℕ) → place < most → place + 1 ≤ most
byte_fits most place inside = omega arith

half_fits : (base size va place : ℕ) → base % 4096 ≡ 0 → size % 4096 ≡ 0 → place % 4096 ≡ va % 4096 → va % 2 ≡ 0 → place < base + size
    → (place % 2 ≡ 0) × (place + 2 ≤ base + size)
half_fits base size va place a b c d h = let e : place % 2 ≡ 0 = omega arith in (e, omega arith)

word_fits : (base size va place : ℕ) → base % 4096 ≡ 0 → size % 4096 ≡ 0 → place % 4096 ≡ va % 4096 → va % 4 ≡ 0 → place < base + size
    → (place % 4 ≡ 0) × (place + 4 ≤ base + size)
word_fits base size va place a b c d h = let e : place % 4 ≡ 0 = omega arith in (e, omega arith)

double_fits : (base size va place : ℕ) → base % 4096 ≡ 0 → size % 4096 ≡ 0 → place % 4096 ≡ va % 4096 → va % 8 ≡ 0 → place < base + size
    → (place % 8 ≡ 0) × (place + 8 ≤ base + size)
double_fits base size va place a b c d h = let e : place % 8 ≡ 0 = omega arith in (e, omega arith)

pub fits_at : (memory : Memory) (width : Width) (va place : ℕ) → IsWhole memory → IsPlaceOf memory va place
    → va % bytes_in width ≡ 0 → IsPlaceFor memory width place
fits_at memory Byte va place whole is aligned =
    record { from = is.from; to = byte_fits (memory.base + length memory.bytes) place is.to; aligned = omega arith }
fits_at memory Half va place whole is aligned =
    let (e, h) = half_fits memory.base (length memory.bytes) va place whole.aligned whole.size is.offset aligned is.to in
    record { from = is.from; to = h; aligned = e }
fits_at memory Word va place whole is aligned =
    let (e, h) = word_fits memory.base (length memory.bytes) va place whole.aligned whole.size is.offset aligned is.to in
    record { from = is.from; to = h; aligned = e }
fits_at memory Double va place whole is aligned =
    let (e, h) = double_fits memory.base (length memory.bytes) va place whole.aligned whole.size is.offset aligned is.to in
    record { from = is.from; to = h; aligned = e }

-- there it is
pub inside : (memory : Memory) (width : Width) (place : ℕ) → IsPlaceFor memory width place
    → is_inside memory place (bytes_in width) ≡ true
inside memory width place is =
    and_from (nat_le memory.base place) (nat_le (place + bytes_in width) (memory.base + length memory.bytes))
    (le-leb memory.base place is.from) (le-leb (place + bytes_in width) (memory.base + length memory.bytes) is.to)

pub number_there : (memory : Memory) (width : Width) (place : ℕ) → IsPlaceFor memory width place
    → number_at memory place (bytes_in width) ≡ Some (load memory.bytes (place - memory.base) (bytes_in width))
number_there memory width place is = rw (inside memory width place is) refl

pub written_there : (memory : Memory) (width : Width) (place value : ℕ) → IsPlaceFor memory width place
    → bytes_with memory place (bytes_in width) value ≡ pasted memory.bytes (place - memory.base) (little_bytes (bytes_in width) value)
written_there memory width place value is = rw (inside memory width place is) refl

-- as many bytes as before
room : (base size place n : ℕ) → base ≤ place → place + n ≤ base + size → place - base + n ≤ size
room base size place n from to = omega arith

pub same_size : (memory : Memory) (width : Width) (place value : ℕ) → IsPlaceFor memory width place
    → length (pasted memory.bytes (place - memory.base) (little_bytes (bytes_in width) value)) ≡ length memory.bytes
same_size memory width place value is =
    length_pasted memory.bytes (place - memory.base) (little_bytes (bytes_in width) value)
    (rw (length-bytes_low_first 0 (bytes_in width) value) (room memory.base (length memory.bytes) place (bytes_in width) is.from is.to))
