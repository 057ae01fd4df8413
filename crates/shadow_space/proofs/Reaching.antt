-- The frames that the root does not reach.
use Rattle.std.proofs.Common.{◌≡◌, ◌≢◌, ℕ, zero, suc, ◌+◌, ◌-◌, ◌*◌, ◌/◌, ◌%◌, ◌<◌, ◌≤◌, ◌⊎◌, inl, inr, List, [], ◌∷◌, Option, Some, None, refl, sym, ap, subst, ◌∙◌, arith}
use Rattle.std.specs.List.{All}
use Rattle.std.proofs.lemmas.List.Elements.{All-head, All-tail}
use Rattle.arch_defs.specs.declared.cached.Entry.{Entry}
use Rattle.arch_defs.specs.CachedEntries.{CanFill}
use Rattle.shadow_space.specs.Held.{number_of, Holds, KeepsTable}
use Rattle.shadow_space.specs.Leaves.{leaves}
use Rattle.shadow_space.specs.Reaching.{IsReached, IsReachedBy, PointsTo}
use Rattle.shadow_space.specs.Shadows.{IsTidy, Shadow, Tidy, root_of, tables_in, IsShadow, shadow_of}
use Rattle.shadow_space.specs.Trees.{Content, Free, Table, entry_of, pointer_of, prefix, slots, top}
use Rattle.shadow_space.proofs.Adding.{low_slots}
use Rattle.shadow_space.proofs.Numbers.{no_number_of, none_if, number_cons}
use Rattle.shadow_space.proofs.Prefixes.{few_prefixes}
use Rattle.shadow_space.proofs.Ways.{tree_own}
use Rattle.shadow_space.proofs.Slots.{other_slots, other_than_root, root_slots, whole}
use Rattle.shadow_space.proofs.Tidying.{tidy_parts, folded, tidy_kept}
use Rattle.table_words.proofs.Pointers.{pointer_some}
use Rattle.shadow_space.specs.declared.cached.CachedTable.{CachedTable}
use Rattle.shadow_space.specs.declared.writing.Tables.{Tables}
use Rattle.shadow_space.specs.Folding.{FoldedSpace}
use Rattle.table_words.specs.Words.{doubleword_at}
use Rattle.table_words.proofs.Words.{same_or}

-- the root has an entry for each table of the level below it
few_tables : (blocks : List ℕ) (es : List Entry) (h k : ℕ) → suc h ≡ top → All (CanFill blocks) es → 0 < number_of es h k → k < 2048
few_tables blocks [] h k last can some = absurd (omega (arith, no_number_of h k, some))
few_tables blocks (e ∷ es) h k last can some = by (few_tables blocks es h k last (All-tail (CanFill blocks) e es can)) (same_or (prefix h e.page) k)
  where
    by : (0 < number_of es h k → k < 2048) → (prefix h e.page ≡ k) ⊎ (prefix h e.page ≢ k) → k < 2048
    by later (inl is) = let first = All-head (CanFill blocks) e es can in omega (arith, is, few_prefixes h e.page last first.page)
    by later (inr other) = later (omega (arith, number_cons e es h k, none_if (prefix h e.page) k other, some))

none_before : (k : ℕ) → 512 * 0 + k ≡ k
none_before k = omega arith

root_reached : (memory : List ℕ) (tables : Tables) (n : ℕ) → n ≡ 0 → IsReachedBy memory tables n tables.root
root_reached memory tables n is = subst (λ n. IsReachedBy memory tables n tables.root) (sym is) refl

module _ (space : Shadow) (memory : List ℕ) (tidy : IsTidy space memory) where
  points : (parent frame h k t s : ℕ) → tidy.holds.stands.tree.content parent ≡ Table (suc h) t → s < slots (tables_in space.part space.index) parent → 512 * t + s ≡ k
      → tidy.holds.stands.tree.place h k ≡ Some frame → PointsTo memory (tables_in space.part space.index) parent frame
  points parent frame h k t s holds slot is place = (
    s,
    slot,
    tidy.holds.stands.says.words parent s (tree_own (tables_in space.part space.index) tidy.holds.stands.tree parent (suc h) t tidy.holds.stands.sound holds) slot
        ∙ ap (λ c. entry_of tidy.holds.stands.tree (leaves space.part.blocks space.entries) c s) holds
        ∙ ap (λ n. pointer_of (tidy.holds.stands.tree.place h n)) is
        ∙ ap pointer_of place,
  )

  -- a table is in an entry of the root, or of the table above it
  upper : (frame h k : ℕ) → suc h ≡ top → tidy.holds.stands.tree.place h k ≡ Some frame → PointsTo memory (tables_in space.part space.index) (root_of space) frame
  upper frame h k last place =
      let counts = tidy.holds.stands.counted.some h k frame (omega (arith, last)) place in
      let few = few_tables space.part.blocks space.entries h k last tidy.holds.fill counts.1 in
      points (root_of space) frame h k 0 k (tidy.holds.stands.sound.root ∙ ap (λ n. Table n 0) (sym last)) (omega (arith, few, root_slots (tables_in space.part space.index) (root_of space) refl)) (none_before k) place

  lower : (frame h k : ℕ) → suc h < top → tidy.holds.stands.tree.place h k ≡ Some frame → (o : Option ℕ) → tidy.holds.stands.tree.place (suc h) (k / 512) ≡ o
      → (g : ℕ) × (tidy.holds.stands.tree.place (suc h) (k / 512) ≡ Some g) × PointsTo memory (tables_in space.part space.index) g frame
  lower frame h k low place None none =
      let zeros = tidy.holds.stands.says.nothing (suc h) (k / 512) (k % 512) low none (omega arith) in
      absurd (pointer_some frame (ap pointer_of (sym (ap (tidy.holds.stands.tree.place h) (whole k) ∙ place)) ∙ zeros))
  lower frame h k low place (Some g) is =
      let holds = tidy.holds.stands.sound.forth g (suc h) (k / 512) is in (
        g,
        is,
        points g frame h k (k / 512) (k % 512) holds (omega (arith, low_slots (tables_in space.part space.index) tidy.holds.stands.tree g (suc h) (k / 512) tidy.holds.stands.sound holds low)) (whole k) place,
      )

  -- so the root leads to it
  reached : (n frame h k : ℕ) → h + n ≡ top → tidy.holds.stands.tree.place h k ≡ Some frame → IsReachedBy memory (tables_in space.part space.index) n frame
  reached zero frame h k level place = by (tidy.holds.stands.sound.proper frame h k holds)
    where
      holds : tidy.holds.stands.tree.content frame ≡ Table h k
      holds = tidy.holds.stands.sound.forth frame h k place

      by : (h < top) ⊎ ((h ≡ top) × (k ≡ 0)) → frame ≡ root_of space
      by (inl low) = absurd (omega (arith, low, level))
      by (inr both) =
          let root = tidy.holds.stands.sound.back (root_of space) top 0 tidy.holds.stands.sound.root in
          let h_is = both.0 in
          let k_is = both.1 in
          let here = place in
          cc
  reached (suc n) frame h k level place = by (λ g place'. reached n g (suc h) (k / 512) (omega (arith, level)) place') (λ last. root_reached memory (tables_in space.part space.index) n (omega (arith, last, level))) (same_or (suc h) top)
    where
      by : ((g : ℕ) → tidy.holds.stands.tree.place (suc h) (k / 512) ≡ Some g → IsReachedBy memory (tables_in space.part space.index) n g)
          → (suc h ≡ top → IsReachedBy memory (tables_in space.part space.index) n (root_of space))
          → (suc h ≡ top) ⊎ (suc h ≢ top) → (frame' : ℕ) × IsReachedBy memory (tables_in space.part space.index) n frame' × PointsTo memory (tables_in space.part space.index) frame' frame
      by above root (inl last) = (root_of space, root last, upper frame h k last place)
      by above root (inr other) =
          let up = lower frame h k (omega (arith, level, other)) place (tidy.holds.stands.tree.place (suc h) (k / 512)) refl in
          (up.0, above up.0 up.1, up.2)

  free : (frame s : ℕ) → (tables_in space.part space.index).first ≤ frame → frame < (tables_in space.part space.index).first + (tables_in space.part space.index).count → s < 512
      → (IsReached memory (tables_in space.part space.index) frame → ⊥) → doubleword_at memory (512 * frame + s) ≡ 0
  free frame s from to small missed = by (tidy.holds.stands.tree.content frame) refl
    where
      other : frame ≢ root_of space
      other = other_than_root (root_of space) frame (tables_in space.part space.index).first (tables_in space.part space.index).count tidy.holds.stands.sound.apart from to

      fits : s < slots (tables_in space.part space.index) frame
      fits = omega (arith, other_slots (tables_in space.part space.index) frame other, small)

      level : (h k : ℕ) → (h < top) ⊎ ((h ≡ top) × (k ≡ 0)) → h + (top - h) ≡ top
      level h k (inl low) = omega (arith, low)
      level h k (inr both) = omega (arith, both.0)

      by : (c : Content) → tidy.holds.stands.tree.content frame ≡ c → doubleword_at memory (512 * frame + s) ≡ 0
      by Free is = tidy.holds.stands.says.words frame s (inr (from, to)) fits ∙ ap (λ c. entry_of tidy.holds.stands.tree (leaves space.part.blocks space.entries) c s) is
      by (Table h k) is =
          absurd (missed (top - h, omega arith, reached (top - h) frame h k (level h k (tidy.holds.stands.sound.proper frame h k is)) (tidy.holds.stands.sound.back frame h k is)))

-- a tidy space's table is in memory
pub has_folded : (space : Shadow) (memory : List ℕ) → Tidy space memory → FoldedSpace space memory
has_folded space memory tidy =
    record { tidy = tidy; folded = folded space memory tidy; zeros = record { each = free space memory (tidy_parts space memory tidy) } }

-- so of a space with another list in its tables
module _ (index : ℕ) (old new : CachedTable) (before memory : List ℕ) (tables : Tables) (is : IsShadow (shadow_of index old)) (same : tables ≡ tables_in old.part index)
    (keeps : KeepsTable tables old before new memory) (holds : Holds tables new memory) where
  pub kept_folded : FoldedSpace (shadow_of index new) memory
  kept_folded = has_folded (shadow_of index new) memory (tidy_kept index old new before memory tables is same keeps holds)
