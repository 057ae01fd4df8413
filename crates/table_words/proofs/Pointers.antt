-- Pointers to tables.
use Rattle.std.proofs.Common.{◌≡◌, ◌≢◌, ℕ, ◌<◌, ◌^◌, refl, ap, arith}
use Rattle.arch_defs.specs.TableEntries.{pointer_to}
use Rattle.stage_walk.specs.Ends.{PteFits}
use Rattle.stage_walk.proofs.EntryWords.{reads_back, some_with_v, word_small}
use Rattle.table_words.specs.Entries.{named_frame, pointer_word}

fits : (frame : ℕ) → frame < 2 ^ 44 → PteFits (pointer_to frame)
fits frame small = record { frame = small; reserved = omega arith }

pub pointer_some : (frame : ℕ) → pointer_word frame ≢ 0
pointer_some frame = some_with_v (pointer_to frame) refl

pub pointer_small : (frame : ℕ) → frame < 2 ^ 44 → pointer_word frame < 2 ^ 64
pointer_small frame small = word_small (pointer_to frame) (fits frame small)

pub pointer_names : (frame : ℕ) → frame < 2 ^ 44 → named_frame (pointer_word frame) ≡ frame
pointer_names frame small = ap (λ e. e.frame) (reads_back (pointer_to frame) (fits frame small))
