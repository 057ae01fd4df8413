-- What reads the entries of tables in memory.
use Rattle.std.specs.Prelude.{nat_le}
use Rattle.std.proofs.Common.{◌≡◌, ℕ, ◌+◌, ◌-◌, ◌*◌, ◌/◌, ◌%◌, ◌≤◌, ◌<◌, ◌^◌, true, List, Ok, length, refl, sym, ap, subst, ◌∙◌, arith}
use Rattle.std.proofs.lemmas.Bool.{le-leb}
use Rattle.arch_defs.specs.Frames.{Frames, LieIn}
use Rattle.arch_defs.specs.Memory.{load, machine_memory}
use Rattle.arch_defs.specs.SecondStage.{guest_root_frame, has_bytes, memory_words}
use Rattle.arch_defs.specs.Walk.{EntryReading}
use Rattle.table_words.specs.Entries.{ReadsIn}
use Rattle.table_words.specs.Words.{doubleword_at}

-- entry s of the table of a frame
turned : (frame s : ℕ) → 8 * (512 * frame + s) ≡ 4096 * frame + 8 * s
turned frame s = omega arith

frame_turned : (frame s : ℕ) → (512 * frame + s) / 512 ≡ (4096 * frame + 8 * s) / 4096
frame_turned frame s = omega arith

eighth : (frame s : ℕ) → (4096 * frame + 8 * s) % 8 ≡ 0
eighth frame s = omega arith

pub entry_read : (frames : Frames) (memory : List ℕ) (reading : EntryReading) (frame s : ℕ) → ReadsIn frames memory reading → frames ((512 * frame + s) / 512) ≡ true
    → reading (4096 * frame + 8 * s) ≡ Ok (doubleword_at memory (512 * frame + s))
entry_read frames memory reading frame s reads named =
    reads (4096 * frame + 8 * s) (subst (λ n. frames n ≡ true) (frame_turned frame s) named) (eighth frame s)
    ∙ ap (λ place. Ok (load memory place 8)) (sym (turned frame s))

-- memory itself, where it has these frames
from_zero : (n : ℕ) → n - 0 ≡ n
from_zero n = omega arith

entry_inside : (place size : ℕ) → place / 4096 * 4096 + 4096 ≤ size → place % 8 ≡ 0 → place + 8 ≤ size
entry_inside place size lies aligned = omega (arith, lies, aligned)

pub has : (memory : List ℕ) (place n : ℕ) → place + n ≤ length memory → has_bytes (machine_memory memory) place n ≡ true
has memory place n h =
    let low : nat_le 0 place ≡ true = le-leb 0 place (omega arith) in
    let high : nat_le (place + n) (0 + length memory) ≡ true = le-leb (place + n) (0 + length memory) (omega (arith, h)) in
    rw (low, high) refl

pub memory_reads : (frames : Frames) (memory : List ℕ) → LieIn frames (length memory) → ReadsIn frames memory (memory_words (machine_memory memory))
memory_reads frames memory lie place is aligned =
    rw (has memory place 8 (entry_inside place (length memory) (lie (place / 4096) is) aligned), from_zero place) refl

-- the root of a second stage is where hgatp's page says
pub root_frame : (page : ℕ) → page % 4 ≡ 0 → page < 2 ^ 44 → guest_root_frame page ≡ page
root_frame page aligned small = omega (arith, aligned, small)
