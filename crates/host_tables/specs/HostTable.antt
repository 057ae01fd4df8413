-- The host's table of a guest, entry by entry: Sv39x4 with leaves of 2 MiB (Privileged Architecture 20211203,
-- 8.5.1). RAM begins at 0x80000000, which is entry 2 of the root; the one table below it maps the 1 GiB from
-- there on.
use Rattle.std.specs.Prelude.{ℕ, ◌≡◌, ◌+◌, ◌*◌, ◌/◌, ◌<◌, ◌==◌, true, List, Option, length, slice_index, nat_lt, option_map, if◌then◌else◌}
use Rattle.arch_defs.specs.Frames.{Only, within}
use Rattle.arch_defs.specs.Layouts.{Layout}
use Rattle.arch_defs.specs.Ram.{host_answer}
use Rattle.arch_defs.specs.TableEntries.{leaf_to, pte_word}
use Rattle.table_words.specs.Entries.{pointer_word}
use Rattle.table_words.specs.Words.{doubleword_at}

-- that many entries from the start of a frame on
pub record HasEntries (frame count : ℕ) (entry : ℕ → ℕ) (memory : List ℕ) : Type 0 where
  pub each : (i : ℕ) → i < count → doubleword_at memory (512 * frame + i) ≡ entry i

-- the root has one pointer
abbrev pub root_word : ℕ → ℕ → ℕ
root_word table i = if i == 2 then pointer_word table else 0

-- and the table a leaf with all rights for each block, at the block's first frame
abbrev pub block_leaf : ℕ → ℕ
block_leaf block = pte_word (leaf_to (block * 512) true true true)

abbrev pub block_leaf_word : List ℕ → ℕ → ℕ
block_leaf_word blocks i = if nat_lt i (length blocks) then block_leaf (slice_index blocks i) else 0

-- the root of 2,048 entries, and the table below it of 512
pub record IsHostTable (part : Layout) (memory : List ℕ) : Type 0 where
  pub root : HasEntries part.first_root 2048 (root_word part.first_table) memory
  pub leaves : HasEntries part.first_table 512 (block_leaf_word part.blocks) memory

-- entries that are written so far, within that many frames
pub record IsWrittenUpTo (frame frames done : ℕ) (entry : ℕ → ℕ) (old new : List ℕ) : Type 0 where
  pub entries : HasEntries frame done entry new
  pub only : Only (within frame frames) old new

-- the machine frame of a guest physical address, where RAM has it
abbrev pub host_frame : List ℕ → ℕ → Option ℕ
host_frame blocks address = option_map (λ place. place / 4096) (host_answer blocks address)
