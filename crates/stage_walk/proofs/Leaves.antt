-- What a walk's end says of the entries that it met.
use Rattle.std.proofs.Common.{◌≡◌, ◌≢◌, ℕ, zero, suc, ◌+◌, ◌*◌, ◌%◌, ◌^◌, ◌<◌, ◌≤◌, Bool, true, false, ◌&&◌, ◌||◌, ◌==◌, List, [], ◌∷◌, Result, Ok, Err, if◌then◌else◌, refl, ap, subst, arith}
use Rattle.arch_defs.specs.declared.modes.Access.{Access}
use Rattle.arch_defs.specs.declared.modes.Trap.{Trap}
use Rattle.arch_defs.specs.declared.walks.Shape.{Shape}
use Rattle.arch_defs.specs.declared.walks.Pte.{Pte}
use Rattle.arch_defs.specs.declared.walks.LeafPte.{LeafPte}
use Rattle.arch_defs.specs.declared.walks.WalkEnd.TheVariants.{PageFault}
use Rattle.arch_defs.specs.declared.walks.Next.{Next}
use Rattle.arch_defs.specs.declared.walks.Next.TheVariants.{Ends, Below}
use Rattle.arch_defs.proofs.WalkEnds.{same_leaf}
use Rattle.arch_defs.specs.Bits.{field}
use Rattle.arch_defs.specs.TableEntries.{end_at_leaf, entry_next, is_aligned, is_leaf, is_marked, is_valid, leaf_pte, pointer_next, pte_of, span}
use Rattle.arch_defs.specs.Walk.{EntryReading, levels, most_levels, is_canonical, place_of, Met, met_in, read_next, next_of, later, path_from, path, or_else, end_of, walk}
use Rattle.arch_defs.proofs.Shapes.{few_levels}
use Rattle.stage_walk.specs.Laws.{HasValid, AllValid, EntriesValid, IsTranslated, IsLeafOf, LastIsLeaf, LeafAddress}

-- where the end of a table's entries on is not a page fault, those that were read are valid
valid_from : (reading : EntryReading) (shape : Shape) (va : ℕ) (access : Access) (level table : ℕ)
    → end_of access (path_from reading shape va access level table) ≢ PageFault → AllValid (path_from reading shape va access level table)
unfolding path_from end_of entry_next
valid_from reading shape va access zero table fine = absurd (fine refl)
valid_from reading shape va access (suc level) table fine =
    by (valid_from reading shape va access level) (reading (place_of shape level table va)) fine
  where
    from : ℕ → List Met
    from = path_from reading shape va access level

    by_word : ((below : ℕ) → end_of access (from below) ≢ PageFault → AllValid (from below)) → (valid : Bool) (next : Next)
        → or_else (end_of access (later from (if valid then next else Ends PageFault))) (if valid then next else Ends PageFault) ≢ PageFault
        → (valid ≡ true) × AllValid (later from (if valid then next else Ends PageFault))
    by_word below_too false next fine = absurd (fine refl)
    by_word below_too true (Ends end) fine = (refl, tt)
    by_word below_too true (Below below) fine = (refl, below_too below fine)

    by : ((below : ℕ) → end_of access (from below) ≢ PageFault → AllValid (from below)) → (read : Result ℕ Trap)
        → or_else (end_of access (later from (read_next level (place_of shape level table va) access read))) (read_next level (place_of shape level table va) access read) ≢ PageFault
        → HasValid read × AllValid (later from (read_next level (place_of shape level table va) access read))
    by below_too (Err trap) fine = (tt, tt)
    by below_too (Ok word) fine = by_word below_too (is_valid (pte_of word)) _ fine

pub entries_valid : EntriesValid
unfolding walk path end_of
entries_valid reading root shape va access fine = by (is_canonical shape va) fine
  where
    by : (right : Bool) → end_of access (if right then path_from reading shape va access (levels shape) root else []) ≢ PageFault
        → AllValid (if right then path_from reading shape va access (levels shape) root else [])
    by true fine = valid_from reading shape va access (levels shape) root fine
    by false fine = absurd (fine refl)

-- the standard's address, level by level
translated : (level frame va : ℕ) → level < most_levels → frame % span level ≡ 0 → IsTranslated level frame va (4096 * frame + va % 2 ^ (12 + 9 * level))
translated zero frame va small aligned = record {
  offset = omega arith;
  low = λ i below. absurd (omega arith);
  high = omega arith;
}
translated (suc zero) frame va small aligned = record {
  offset = omega arith;
  low = low;
  high = omega arith;
}
  where
    low : (i : ℕ) → i < 1 → field (12 + 9 * i) 9 (4096 * frame + va % 2 ^ 21) ≡ field (12 + 9 * i) 9 va
    low zero below = omega arith
    low (suc i) below = absurd (omega arith)
translated (suc (suc zero)) frame va small aligned = record {
  offset = omega arith;
  low = low;
  high = omega arith;
}
  where
    low : (i : ℕ) → i < 2 → field (12 + 9 * i) 9 (4096 * frame + va % 2 ^ 30) ≡ field (12 + 9 * i) 9 va
    low zero below = omega arith
    low (suc zero) below = omega arith
    low (suc (suc i)) below = absurd (omega arith)
translated (suc (suc (suc zero))) frame va small aligned = record {
  offset = omega arith;
  low = low;
  high = omega arith;
}
  where
    low : (i : ℕ) → i < 3 → field (12 + 9 * i) 9 (4096 * frame + va % 2 ^ 39) ≡ field (12 + 9 * i) 9 va
    low zero below = omega arith
    low (suc zero) below = omega arith
    low (suc (suc zero)) below = omega arith
    low (suc (suc (suc i))) below = absurd (omega arith)
translated (suc (suc (suc (suc level)))) frame va small aligned = absurd (omega arith)

-- a pointer is not a leaf
pointer_leafless : (level : ℕ) (e : Pte) (leaf : LeafPte) → pointer_next level e ≢ Ends (end_at_leaf leaf)
pointer_leafless level e leaf = by (e.a || e.d || e.u || level == 0)
  where
    by : (wrong : Bool) → (if wrong then Ends PageFault else Below e.frame) ≢ Ends (end_at_leaf leaf)
    by true = λ says. cc
    by false = λ says. cc

-- a leaf comes from the entry that says so
leaf_read : (level place va : ℕ) (access : Access) (read : Result ℕ Trap) (leaf : LeafPte) → level < most_levels → read_next level place access read ≡ Ends (end_at_leaf leaf)
    → IsLeafOf leaf va (record { level = level; place = place; read = read })
unfolding entry_next
leaf_read level place va access (Err trap) leaf small says = absurd cc
leaf_read level place va access (Ok word) leaf small says =
    by (is_valid e) (is_leaf e) (is_aligned level e.frame) (is_marked access e) refl says
  where
    e : Pte
    e = pte_of word

    m : Met
    m = record { level = level; place = place; read = Ok word }

    from : leaf_pte level e ≡ leaf → e.frame % span level ≡ 0
        → IsLeafOf leaf va m
    from same aligned =
        subst (λ leaf. IsLeafOf leaf va m) same
        (word, refl, refl, translated level e.frame va small aligned)

    by : (valid leafy aligned marked : Bool) → is_aligned level e.frame ≡ aligned
        → (if valid then (if leafy then (if aligned && marked then Ends (end_at_leaf (leaf_pte level e)) else Ends PageFault) else pointer_next level e) else Ends PageFault) ≡ Ends (end_at_leaf leaf)
        → IsLeafOf leaf va m
    by true true true true is says = let same = same_leaf (leaf_pte level e) leaf says in from same (grind (arith, is))
    by true true true false is says = absurd cc
    by true true false marked is says = absurd cc
    by true false aligned marked is says = absurd (pointer_leafless level e leaf says)
    by false leafy aligned marked is says = absurd cc

last_later : (leaf : LeafPte) (va : ℕ) (m : Met) (ms : List Met) → LastIsLeaf leaf va ms → LastIsLeaf leaf va (m ∷ ms)
last_later leaf va m [] last = absurd last
last_later leaf va m (n ∷ ms) last = last

leaf_from : (reading : EntryReading) (shape : Shape) (va : ℕ) (access : Access) (leaf : LeafPte) (level table : ℕ) → level ≤ most_levels
    → end_of access (path_from reading shape va access level table) ≡ end_at_leaf leaf → LastIsLeaf leaf va (path_from reading shape va access level table)
unfolding path_from end_of
leaf_from reading shape va access leaf zero table few ends = absurd cc
leaf_from reading shape va access leaf (suc level) table few ends =
    by (λ below. leaf_from reading shape va access leaf level below (omega arith)) (next_of access m) (leaf_read level m.place va access m.read leaf (omega arith)) ends
  where
    m : Met
    m = met_in reading shape va level table

    from : ℕ → List Met
    from = path_from reading shape va access level

    by : ((below : ℕ) → end_of access (from below) ≡ end_at_leaf leaf → LastIsLeaf leaf va (from below)) → (next : Next)
        → (next ≡ Ends (end_at_leaf leaf) → IsLeafOf leaf va m) → or_else (end_of access (later from next)) next ≡ end_at_leaf leaf
        → LastIsLeaf leaf va (m ∷ later from next)
    by below_too (Ends end) here ends = here (ap Ends ends)
    by below_too (Below below) here ends = last_later leaf va m (from below) (below_too below ends)

pub leaf_address_law : LeafAddress
unfolding walk path end_of
leaf_address_law reading root shape va access leaf ends = by (is_canonical shape va) ends
  where
    by : (right : Bool) → end_of access (if right then path_from reading shape va access (levels shape) root else []) ≡ end_at_leaf leaf
        → LastIsLeaf leaf va (if right then path_from reading shape va access (levels shape) root else [])
    by true ends = leaf_from reading shape va access leaf (levels shape) root (few_levels shape) ends
    by false ends = absurd cc
