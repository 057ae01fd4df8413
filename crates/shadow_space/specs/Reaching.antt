-- The frames of tables that a space's root does not reach.
use Rattle.std.specs.Prelude.{ℕ, zero, suc, ◌≡◌, ◌+◌, ◌*◌, ◌<◌, ◌≤◌, List}
use Rattle.shadow_space.specs.declared.writing.Tables.{Tables}
use Rattle.shadow_space.specs.Shadows.{Shadow, tables_in}
use Rattle.shadow_space.specs.Trees.{slots, top}
use Rattle.table_words.specs.Entries.{pointer_word}
use Rattle.table_words.specs.Words.{doubleword_at}

-- an entry of the table in a frame points to another frame
abbrev pub PointsTo : List ℕ → Tables → ℕ → ℕ → Type 0
PointsTo memory tables frame to =
    (s : ℕ) × (s < slots tables frame) × (doubleword_at memory (512 * frame + s) ≡ pointer_word to)

-- that many pointers lead from the root to a frame
abbrev pub IsReachedBy : List ℕ → Tables → ℕ → ℕ → Type 0
IsReachedBy memory tables zero to = to ≡ tables.root
IsReachedBy memory tables (suc n) to =
    (frame : ℕ) × IsReachedBy memory tables n frame × PointsTo memory tables frame to

-- as many as there are levels below the root, or fewer
abbrev pub IsReached : List ℕ → Tables → ℕ → Type 0
IsReached memory tables to = (n : ℕ) × (n ≤ top) × IsReachedBy memory tables n to

-- the frames for a space's tables that its root does not reach are zeros
pub record FreeAreZeros (space : Shadow) (memory : List ℕ) : Type 0 where
  pub each : (frame s : ℕ) → let tables = tables_in space.part space.index in tables.first ≤ frame
      → frame < tables.first + tables.count → s < 512 → (IsReached memory tables frame → ⊥)
      → doubleword_at memory (512 * frame + s) ≡ 0
