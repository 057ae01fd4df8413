-- A buffer serves on after a store outside the frames that were read.
use Rattle.std.proofs.Common.{◌≡◌, ℕ, ◌+◌, ◌-◌, ◌/◌, ◌%◌, ◌<◌, ◌≤◌, ◌==◌, ◌⊎◌, inl, inr, Bool, true, false, List, length, sym, subst, arith}
use Rattle.std.proofs.lemmas.Bool.{both_ways, cases_Bool, eq-eqb, eqb-true}
use Rattle.byteorder.specs.Endian.{little_bytes}
use Rattle.byteorder.specs.Numbers.{length-bytes_low_first}
use Rattle.arch_defs.specs.declared.first.FirstEntry.{FirstEntry}
use Rattle.arch_defs.specs.declared.first.Tag.{Tag}
use Rattle.arch_defs.specs.declared.modes.Mode.{Mode}
use Rattle.arch_defs.specs.declared.registers.Csrs.{Csrs}
use Rattle.arch_defs.specs.declared.registers.Virtual.{Virtual}
use Rattle.arch_defs.specs.declared.widths.Width.{Width}
use Rattle.arch_defs.specs.declared.widths.Width.TheVariants.{Byte, Half, Word, Double}
use Rattle.arch_defs.specs.Frames.{Apart, Frames, Only}
use Rattle.arch_defs.specs.Memory.{Reading, pasted, with_stored}
use Rattle.arch_defs.specs.Translation.{privilege_of}
use Rattle.arch_defs.specs.Widths.{bytes_in}
use Rattle.arch_defs.proofs.FrameSets.{kept, only_pasted}
use Rattle.op_defs.specs.declared.ops.Purpose.{Purpose}
use Rattle.op_defs.specs.declared.ops.Purpose.TheVariants.{Load, LoadCode, Store, Reserve, StoreReserved, Modify}
use Rattle.machine_defs.specs.Core.{completed, is_reserved, stored_if, storing}
use Rattle.translation_buffer.specs.Holding.{has_frame}
use Rattle.translation_buffer.specs.declared.buffers.Buffer.{Buffer}
use Rattle.translation_buffer.specs.Places.{translator}
use Rattle.translation_buffer.specs.Serving.{Serves}
use Rattle.translation_buffer.proofs.KeptPages.{page_same}
use Rattle.translation_buffer.proofs.KeptSlots.{all_same}

-- where only other frames changed
pub serves_only : (buffer : Buffer) (first : List FirstEntry) (owner : Tag) (csrs : Csrs) (mode : Mode) (memory other : List ℕ) (changed : Frames) → Serves buffer first owner csrs mode memory
    → Apart (has_frame buffer.read) changed → Only changed memory other → Serves buffer first owner csrs mode other
serves_only buffer first owner csrs mode memory other changed serves apart only = record {
  context = serves.context;
  who = serves.who;
  slots = all_same buffer.read memory other (translator first owner buffer.context) buffer.run buffer.slots (kept (has_frame buffer.read) changed memory other apart only) serves.slots;
  page = page_same (has_frame buffer.read) memory other (translator first owner buffer.context) (privilege_of csrs mode) buffer.page (kept (has_frame buffer.read) changed memory other apart only) serves.page;
}

-- one frame
one_apart : (held : Frames) (frame : ℕ) → held frame ≡ false → Apart held (λ f. f == frame)
one_apart held frame free f named = by (cases_Bool (f == frame))
  where
    by : ((f == frame) ≡ true) ⊎ ((f == frame) ≡ false) → (f == frame) ≡ false
    by (inl same) = absurd (both_ways (held frame) free (subst (λ n. held n ≡ true) (eqb-true f frame same) named))
    by (inr other) = other

in_frame : (place n at : ℕ) → place % 4096 + n ≤ 4096 → place ≤ at → at < place + n → at / 4096 ≡ place / 4096
in_frame place n at one from to = omega (arith, one, from, to)

pub serves_pasted : (buffer : Buffer) (first : List FirstEntry) (owner : Tag) (csrs : Csrs) (mode : Mode) (memory : List ℕ) (place : ℕ) (piece : List ℕ) → Serves buffer first owner csrs mode memory
    → has_frame buffer.read (place / 4096) ≡ false → place % 4096 + length piece ≤ 4096 → place + length piece ≤ length memory → Serves buffer first owner csrs mode (pasted memory place piece)
serves_pasted buffer first owner csrs mode memory place piece serves free one inside =
    serves_only buffer first owner csrs mode memory (pasted memory place piece) (λ f. f == place / 4096) serves (one_apart (has_frame buffer.read) (place / 4096) free)
    (only_pasted (λ f. f == place / 4096) memory place piece inside (λ at from to. eq-eqb (at / 4096) (place / 4096) (in_frame place (length piece) at one from to)))

-- the store of an instruction
fits_frame : (width : Width) (place : ℕ) → place % bytes_in width ≡ 0 → place % 4096 + bytes_in width ≤ 4096
fits_frame Byte place aligned = omega arith
fits_frame Half place aligned = omega (arith, aligned)
fits_frame Word place aligned = omega (arith, aligned)
fits_frame Double place aligned = omega (arith, aligned)

no_base : (place : ℕ) → place - 0 ≡ place
no_base place = omega arith

no_start : (a b : ℕ) → a ≤ 0 + b → a ≤ b
no_start a b less = omega (arith, less)

pub serves_stored : (buffer : Buffer) (first : List FirstEntry) (owner : Tag) (csrs : Csrs) (mode : Mode) (memory : List ℕ) (width : Width) (place value : ℕ) → Serves buffer first owner csrs mode memory
    → has_frame buffer.read (place / 4096) ≡ false → place % bytes_in width ≡ 0 → place + bytes_in width ≤ 0 + length memory
    → Serves buffer first owner csrs mode (with_stored 0 (storing place width value) memory)
serves_stored buffer first owner csrs mode memory width place value serves free aligned inside =
    let size : length (little_bytes (bytes_in width) value) ≡ bytes_in width = length-bytes_low_first 0 (bytes_in width) value in
    subst (λ at. Serves buffer first owner csrs mode (pasted memory at (little_bytes (bytes_in width) value))) (sym (no_base place))
    (serves_pasted buffer first owner csrs mode memory place (little_bytes (bytes_in width) value) serves free
    (subst (λ n. place % 4096 + n ≤ 4096) (sym size) (fits_frame width place aligned))
    (subst (λ n. place + n ≤ length memory) (sym size) (no_start (place + bytes_in width) (length memory) inside)))

-- and of an instruction with any purpose
pub serves_completed : (buffer : Buffer) (first : List FirstEntry) (owner : Tag) (csrs : Csrs) (mode : Mode) (memory : List ℕ) (reading : Reading) (state : Virtual) (width : Width) (purpose : Purpose) (place : ℕ) → Serves buffer first owner csrs mode memory
    → has_frame buffer.read (place / 4096) ≡ false → place % bytes_in width ≡ 0 → place + bytes_in width ≤ 0 + length memory
    → Serves buffer first owner csrs mode (with_stored 0 (completed reading state width purpose place).stored memory)
serves_completed buffer first owner csrs mode memory reading state width (Load signed rd) place serves free aligned inside = serves
serves_completed buffer first owner csrs mode memory reading state width (LoadCode rd) place serves free aligned inside = serves
serves_completed buffer first owner csrs mode memory reading state width (Store value) place serves free aligned inside = serves_stored buffer first owner csrs mode memory width place value serves free aligned inside
serves_completed buffer first owner csrs mode memory reading state width (Reserve rd) place serves free aligned inside = serves
serves_completed buffer first owner csrs mode memory reading state width (StoreReserved value rd) place serves free aligned inside = by (is_reserved state.reservation place width)
  where
    by : (reserved : Bool) → Serves buffer first owner csrs mode (with_stored 0 (stored_if reserved state width value rd place).stored memory)
    by true = serves_stored buffer first owner csrs mode memory width place value serves free aligned inside
    by false = serves
serves_completed buffer first owner csrs mode memory reading state width (Modify op operand rd) place serves free aligned inside = serves_stored buffer first owner csrs mode memory width place _ serves free aligned inside
