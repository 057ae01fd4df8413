-- Entries of tables in machine memory.
use Rattle.std.specs.Prelude.{ℕ, ◌≡◌, ◌/◌, ◌%◌, true, List, Ok}
use Rattle.arch_defs.specs.Frames.{Frames}
use Rattle.arch_defs.specs.Memory.{load}
use Rattle.arch_defs.specs.TableEntries.{pointer_to, pte_of, pte_word}
use Rattle.arch_defs.specs.Walk.{EntryReading}

-- the word of a pointer to the table of a frame
abbrev pub pointer_word : ℕ → ℕ
pointer_word frame = pte_word (pointer_to frame)

-- the frame that an entry's word names
abbrev pub named_frame : ℕ → ℕ
named_frame word = (pte_of word).frame

-- a reading of places gives the aligned doublewords of memory in these frames
abbrev pub ReadsIn : Frames → List ℕ → EntryReading → Type 0
ReadsIn frames memory reading =
    (place : ℕ) → frames (place / 4096) ≡ true → place % 8 ≡ 0 → reading place ≡ Ok (load memory place 8)
