-- The entries that a walk meets: what decides them, and how they are linked.
use Rattle.std.proofs.Common.{◌≡◌, ◌≢◌, ℕ, zero, suc, ◌+◌, ◌-◌, ◌*◌, ◌/◌, ◌%◌, ◌^◌, ◌<◌, ◌≤◌, Bool, true, false, ◌||◌, ◌&&◌, List, [], ◌∷◌, Result, Ok, Err, if◌then◌else◌, refl, ap, subst, arith}
use Rattle.std.proofs.lemmas.Nat.{pow_pos}
use Rattle.arch_defs.specs.declared.modes.Access.{Access}
use Rattle.arch_defs.specs.declared.modes.Trap.{Trap}
use Rattle.arch_defs.specs.declared.walks.Shape.{Shape}
use Rattle.arch_defs.specs.declared.walks.Shape.TheVariants.{Sv39, Sv48, Sv39x4, Sv48x4}
use Rattle.arch_defs.specs.declared.walks.Pte.{Pte}
use Rattle.arch_defs.specs.declared.walks.WalkEnd.TheVariants.{PageFault}
use Rattle.arch_defs.specs.declared.walks.Next.{Next}
use Rattle.arch_defs.specs.declared.walks.Next.TheVariants.{Ends, Below}
use Rattle.arch_defs.specs.TableEntries.{end_at_leaf, entry_next, is_aligned, is_leaf, is_marked, is_valid, leaf_pte, pointer_next, pte_of}
use Rattle.arch_defs.specs.Walk.{EntryReading, levels, is_canonical, place_of, index, index_bits, Met, met_in, read_next, next_of, later, path_from, path, end_of, walk}
use Rattle.stage_walk.specs.ByLevels.{walk_from}
use Rattle.stage_walk.specs.Laws.{SameOn, PathsAlike, WalksAlike, GoesToNext, IsLinked, PathIsLinked, LinkedIsPath, EndsByLevels, LiesInTable, AllAligned, PlacesAligned}
use Rattle.stage_walk.proofs.Levels.{walk_starts, walk_refused}
use Rattle.arch_defs.proofs.SamePages.{eighth}

-- readings that agree on the entries met from a table on meet the same
alike_from : (reading other : EntryReading) (shape : Shape) (va : ℕ) (access : Access) (level table : ℕ)
    → SameOn other (path_from reading shape va access level table) → path_from other shape va access level table ≡ path_from reading shape va access level table
unfolding path_from
alike_from reading other shape va access zero table same = refl
alike_from reading other shape va access (suc level) table (here, after) =
    rw here (ap (λ ms. met_in reading shape va level table ∷ ms) (by (alike_from reading other shape va access level) (next_of access (met_in reading shape va level table)) after))
  where
    by : ((below : ℕ) → SameOn other (path_from reading shape va access level below) → path_from other shape va access level below ≡ path_from reading shape va access level below)
        → (next : Next) → SameOn other (later (path_from reading shape va access level) next)
        → later (path_from other shape va access level) next ≡ later (path_from reading shape va access level) next
    by below_too (Ends end) same = refl
    by below_too (Below below) same = below_too below same

pub paths_alike : PathsAlike
unfolding path
paths_alike reading other root shape va access same = by (is_canonical shape va) same
  where
    by : (right : Bool) → SameOn other (if right then path_from reading shape va access (levels shape) root else [])
        → (if right then path_from other shape va access (levels shape) root else []) ≡ (if right then path_from reading shape va access (levels shape) root else [])
    by true same = alike_from reading other shape va access (levels shape) root same
    by false same = refl

pub walks_alike : WalksAlike
unfolding walk
walks_alike reading other root shape va access same = ap (end_of access) (paths_alike reading other root shape va access same)

-- an entry at the last level ends the walk
pointer_ends : (e : Pte) (below : ℕ) → pointer_next 0 e ≢ Below below
pointer_ends e below says = by (e.a) (e.d) (e.u) says
  where
    by : (a d u : Bool) → (if a || d || u || true then Ends PageFault else Below e.frame) ≢ Below below
    by true d u = λ says. cc
    by false true u = λ says. cc
    by false false true = λ says. cc
    by false false false = λ says. cc

last_ends : (place : ℕ) (access : Access) (read : Result ℕ Trap) (below : ℕ) → read_next 0 place access read ≢ Below below
unfolding entry_next
last_ends place access (Err trap) below = λ says. cc
last_ends place access (Ok word) below =
    by (is_valid e) (is_leaf e) (is_aligned 0 e.frame && is_marked access e)
  where
    e : Pte
    e = pte_of word

    by : (valid leaf fine : Bool)
        → (if valid then (if leaf then (if fine then Ends (end_at_leaf (leaf_pte 0 e)) else Ends PageFault) else pointer_next 0 e) else Ends PageFault) ≢ Below below
    by true true true = λ says. cc
    by true true false = λ says. cc
    by true false fine = pointer_ends e below
    by false leaf fine = λ says. cc

-- the entries met from a table on are linked
linked_from : (reading : EntryReading) (shape : Shape) (va : ℕ) (access : Access) (level table : ℕ)
    → IsLinked reading shape va access level (path_from reading shape va access (suc level) table) table
unfolding path_from
linked_from reading shape va access zero table =
    (refl, by (next_of access (met_in reading shape va 0 table)) (last_ends (place_of shape 0 table va) access (reading (place_of shape 0 table va))))
  where
    by : (next : Next) → ((below : ℕ) → next ≢ Below below)
        → GoesToNext (IsLinked reading shape va access (0 - 1) (later (path_from reading shape va access 0) next)) next (later (path_from reading shape va access 0) next)
    by (Ends end) none = refl
    by (Below below) none = absurd (none below refl)
linked_from reading shape va access (suc level) table =
    (refl, by (linked_from reading shape va access level) (next_of access (met_in reading shape va (suc level) table)))
  where
    by : ((below : ℕ) → IsLinked reading shape va access level (path_from reading shape va access (suc level) below) below) → (next : Next)
        → GoesToNext (IsLinked reading shape va access (suc level - 1) (later (path_from reading shape va access (suc level)) next)) next
        (later (path_from reading shape va access (suc level)) next)
    by below_too (Ends end) = refl
    by below_too (Below below) = let same : suc level - 1 ≡ level = omega arith in rw same (below_too below)

pub path_is_linked : PathIsLinked
unfolding path
path_is_linked reading root shape va access right = rw right (by shape)
  where
    by : (shape : Shape) → IsLinked reading shape va access (levels shape - 1) (path_from reading shape va access (levels shape) root) root
    by Sv39 = linked_from reading Sv39 va access 2 root
    by Sv48 = linked_from reading Sv48 va access 3 root
    by Sv39x4 = linked_from reading Sv39x4 va access 2 root
    by Sv48x4 = linked_from reading Sv48x4 va access 3 root

-- and a linked list is that of the entries met
only_linked : (reading : EntryReading) (shape : Shape) (va : ℕ) (access : Access) (ms : List Met) (level table : ℕ)
    → IsLinked reading shape va access level ms table → ms ≡ path_from reading shape va access (suc level) table
unfolding path_from
only_linked reading shape va access [] level table linked = absurd linked
only_linked reading shape va access (m ∷ ms) zero table (is, goes) =
    rw is (ap (λ ms. met_in reading shape va 0 table ∷ ms)
    (by (next_of access (met_in reading shape va 0 table)) (last_ends (place_of shape 0 table va) access (reading (place_of shape 0 table va)))
    (subst (λ m. GoesToNext (IsLinked reading shape va access (0 - 1) ms) (next_of access m) ms) is goes)))
  where
    by : (next : Next) → ((below : ℕ) → next ≢ Below below) → GoesToNext (IsLinked reading shape va access (0 - 1) ms) next ms
        → ms ≡ later (path_from reading shape va access 0) next
    by (Ends end) none goes = goes
    by (Below below) none goes = absurd (none below refl)
only_linked reading shape va access (m ∷ ms) (suc level) table (is, goes) =
    rw is (ap (λ ms. met_in reading shape va (suc level) table ∷ ms)
    (by (only_linked reading shape va access ms level) (next_of access (met_in reading shape va (suc level) table))
    (subst (λ m. GoesToNext (IsLinked reading shape va access (suc level - 1) ms) (next_of access m) ms) is goes)))
  where
    by : ((below : ℕ) → IsLinked reading shape va access level ms below → ms ≡ path_from reading shape va access (suc level) below) → (next : Next)
        → GoesToNext (IsLinked reading shape va access (suc level - 1) ms) next ms → ms ≡ later (path_from reading shape va access (suc level)) next
    by below_too (Ends end) goes = goes
    by below_too (Below below) goes = let same : suc level - 1 ≡ level = omega arith in below_too below (rw same at goes)

pub linked_is_path : LinkedIsPath
unfolding path
linked_is_path reading root shape va access ms right linked = rw right (by shape linked)
  where
    by : (shape : Shape) → IsLinked reading shape va access (levels shape - 1) ms root → ms ≡ path_from reading shape va access (levels shape) root
    by Sv39 linked = only_linked reading Sv39 va access ms 2 root linked
    by Sv48 linked = only_linked reading Sv48 va access ms 3 root linked
    by Sv39x4 linked = only_linked reading Sv39x4 va access ms 2 root linked
    by Sv48x4 linked = only_linked reading Sv48x4 va access ms 3 root linked

pub ends_by_levels : EndsByLevels
ends_by_levels reading root shape va access = by (is_canonical shape va) refl
  where
    by : (right : Bool) → is_canonical shape va ≡ right
        → walk reading root shape va access ≡ (if right then walk_from reading shape va access (levels shape) root else PageFault)
    by true right = walk_starts reading root shape va access right
    by false wrong = walk_refused reading root shape va access wrong

-- an entry lies in its table
within : (start part size : ℕ) → 0 < size → start + 8 * (part % size) + 8 ≤ start + 8 * size
within start part size some = grind arith

pub lies_in_table : LiesInTable
lies_in_table shape level table va =
    (omega arith, within (4096 * table) (va / 2 ^ (12 + 9 * level)) (2 ^ index_bits shape level) (pow_pos (index_bits shape level)))

aligned_from : (reading : EntryReading) (shape : Shape) (va : ℕ) (access : Access) (level table : ℕ) → AllAligned (path_from reading shape va access level table)
unfolding path_from
aligned_from reading shape va access zero table = tt
aligned_from reading shape va access (suc level) table =
    (eighth table (index shape level va), by (aligned_from reading shape va access level) (next_of access (met_in reading shape va level table)))
  where
    by : ((below : ℕ) → AllAligned (path_from reading shape va access level below)) → (next : Next) → AllAligned (later (path_from reading shape va access level) next)
    by below_too (Ends end) = tt
    by below_too (Below below) = below_too below

pub places_aligned : PlacesAligned
unfolding path
places_aligned reading root shape va access = by (is_canonical shape va)
  where
    by : (right : Bool) → AllAligned (if right then path_from reading shape va access (levels shape) root else [])
    by true = aligned_from reading shape va access (levels shape) root
    by false = tt
