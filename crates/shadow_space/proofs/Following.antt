-- The walk of a tree's tables.
use Rattle.std.proofs.Common.{◌≡◌, ◌≢◌, ℕ, zero, suc, ◌+◌, ◌*◌, ◌/◌, ◌%◌, ◌<◌, ◌≤◌, ◌^◌, true, List, [], ◌∷◌, Option, Some, None, Ok, refl, sym, ap, subst, ◌∙◌, arith}
use Rattle.arch_defs.specs.declared.modes.Access.{Access}
use Rattle.arch_defs.specs.declared.walks.Pte.{Pte}
use Rattle.arch_defs.specs.declared.walks.WalkEnd.{WalkEnd}
use Rattle.arch_defs.specs.declared.walks.WalkEnd.TheVariants.{PageFault}
use Rattle.arch_defs.specs.declared.walks.Next.{Next}
use Rattle.arch_defs.specs.declared.walks.Next.TheVariants.{Ends, Below}
use Rattle.arch_defs.specs.CachedEntries.{guest_page_bits}
use Rattle.arch_defs.specs.TableEntries.{pte_of, entry_next}
use Rattle.arch_defs.specs.Walk.{EntryReading, Met, index, later, met_in, next_of, path_from, read_next}
use Rattle.stage_walk.specs.ByLevels.{walk_from}
use Rattle.stage_walk.proofs.Levels.{from_below, from_ends}
use Rattle.shadow_space.specs.declared.writing.Tables.{Tables}
use Rattle.shadow_space.specs.Folding.{LastIs, LieWithin}
use Rattle.shadow_space.specs.Trees.{IsOwn, IsTree, Says, Table, Tree, entry_of, folded_shape, frames_of, pointer_of, prefix, slots, top}
use Rattle.shadow_space.specs.Ways.{slot_of, table_prefix}
use Rattle.shadow_space.proofs.Prefixes.{low_prefix, slot_whole}
use Rattle.shadow_space.proofs.Slots.{own_frame, whole}
use Rattle.shadow_space.proofs.Ways.{tree_own, tree_slot}
use Rattle.stage_walk.proofs.EntryWords.{zero_maps_nothing, pointer_leads_below}
use Rattle.table_words.specs.Entries.{pointer_word}
use Rattle.table_words.proofs.Pointers.{pointer_some}

-- the index of an address into a table is its page's entry
index_is : (level va : ℕ) → level ≤ top → va / 4096 < 2 ^ guest_page_bits → index folded_shape level va ≡ slot_of level (va / 4096)
index_is zero va low small = omega arith
index_is (suc zero) va low small = omega arith
index_is (suc (suc zero)) va low small = omega arith
index_is (suc (suc (suc zero))) va low small = omega arith
index_is (suc (suc (suc (suc h)))) va low small = absurd (omega (arith, low))

-- the frame of an entry's place
place_frame : (f s : ℕ) → (512 * f + s) / 512 ≡ (4096 * f + 8 * s) / 4096
place_frame f s = omega arith

-- what a table's entry reads as
pub record Reads (tables : Tables) (word : ℕ → ℕ) (reading : EntryReading) : Type 0 where
  pub each : (f s : ℕ) → IsOwn tables f → s < slots tables f → reading (4096 * f + 8 * s) ≡ Ok (word (512 * f + s))

module _ (tables : Tables) (tree : Tree) (word leaf : ℕ → ℕ) (sound : IsTree tables tree) (says : Says word tables tree leaf) (small : (f : ℕ) → IsOwn tables f → f < 2 ^ 44)
    (reading : EntryReading) (reads : Reads tables word reading) (va : ℕ) (access : Access) (page : ℕ) (page_is : page ≡ va / 4096) (low : page < 2 ^ guest_page_bits) where
  entry_here : (h f : ℕ) → h ≤ top → index folded_shape h va ≡ slot_of h page
  entry_here h f to = index_is h va to (omega (arith, page_is, low)) ∙ ap (slot_of h) (sym page_is)

  -- the page's entry in its table of a level
  reads_here : (h f : ℕ) → h ≤ top → tree.content f ≡ Table h (table_prefix h page)
      → reading (4096 * f + 8 * index folded_shape h va) ≡ Ok (entry_of tree leaf (Table h (table_prefix h page)) (slot_of h page))
  reads_here h f to here =
      ap (λ s. reading (4096 * f + 8 * s)) (entry_here h f to)
      ∙ reads.each f (slot_of h page) (tree_own tables tree f h (table_prefix h page) sound here) (tree_slot tables tree f h page sound here to low)
      ∙ ap Ok (says.words f (slot_of h page) (tree_own tables tree f h (table_prefix h page) sound here) (tree_slot tables tree f h page sound here to low)
      ∙ ap (λ c. entry_of tree leaf c (slot_of h page)) here)

  in_frames : (h f : ℕ) → h ≤ top → tree.content f ≡ Table h (table_prefix h page) → frames_of tables ((4096 * f + 8 * index folded_shape h va) / 4096) ≡ true
  in_frames h f to here =
      subst (λ s. frames_of tables ((4096 * f + 8 * s) / 4096) ≡ true) (sym (entry_here h f to))
      (subst (λ n. frames_of tables n ≡ true) (place_frame f (slot_of h page))
      (own_frame tables f (slot_of h page) (tree_own tables tree f h (table_prefix h page) sound here) (tree_slot tables tree f h page sound here to low)))

  -- what it says: it points to the table below, and the last one is the leaf
  met_next : (h f : ℕ) → suc h ≤ top → tree.content f ≡ Table (suc h) (table_prefix (suc h) page) → (o : Option ℕ) → tree.place h (prefix h page) ≡ o
      → next_of access (met_in reading folded_shape va (suc h) f) ≡ entry_next (suc h) access (pte_of (pointer_of o))
  met_next h f to here o place =
      ap (read_next (suc h) (4096 * f + 8 * index folded_shape (suc h) va) access)
      (reads_here (suc h) f to here ∙ ap (λ n. Ok (pointer_of (tree.place h n))) (slot_whole h page to) ∙ ap (λ o. Ok (pointer_of o)) place)

  leaf_read : (f : ℕ) → tree.content f ≡ Table 0 (table_prefix 0 page) → reading (4096 * f + 8 * index folded_shape 0 va) ≡ Ok (leaf page)
  leaf_read f here = reads_here 0 f (omega arith) here ∙ ap (λ n. Ok (leaf n)) (whole page)

  last_next : (f : ℕ) → tree.content f ≡ Table 0 (table_prefix 0 page) → next_of access (met_in reading folded_shape va 0 f) ≡ entry_next 0 access (pte_of (leaf page))
  last_next f here = ap (read_next 0 (4096 * f + 8 * index folded_shape 0 va) access) (leaf_read f here)

  -- an entry that points to no table, and one that points to one
  met_none : (h f : ℕ) → suc h ≤ top → tree.content f ≡ Table (suc h) (table_prefix (suc h) page) → tree.place h (prefix h page) ≡ None
      → next_of access (met_in reading folded_shape va (suc h) f) ≡ Ends PageFault
  met_none h f to here none = met_next h f to here None none ∙ zero_maps_nothing (suc h) access

  met_some : (h f g : ℕ) → suc h ≤ top → tree.content f ≡ Table (suc h) (table_prefix (suc h) page) → tree.place h (prefix h page) ≡ Some g
      → next_of access (met_in reading folded_shape va (suc h) f) ≡ Below g
  met_some h f g to here place =
      let level : suc h ≡ h + 1 = omega arith in
      met_next h f to here (Some g) place
      ∙ ap (λ n. entry_next n access (pte_of (pointer_word g))) level
      ∙ pointer_leads_below h g access (small g (sound.own g h (prefix h page) place))

  there : (h g : ℕ) → suc h ≤ top → tree.place h (prefix h page) ≡ Some g → tree.content g ≡ Table h (table_prefix h page)
  there h g to place = sound.forth g h (prefix h page) place ∙ ap (Table h) (sym (low_prefix h page to))

  -- without a table there is no leaf
  no_leaf : (h : ℕ) → suc h ≤ top → tree.place h (prefix h page) ≡ None → leaf page ≡ 0
  no_leaf zero to none = ap leaf (sym (whole page)) ∙ says.nothing 0 (page / 512) (page % 512) to none (omega arith)
  no_leaf (suc h) to none = by (λ is. no_leaf h (omega (arith, to)) is) (tree.place h (prefix h page)) refl
    where
      zeros : pointer_of (tree.place h (prefix h page)) ≡ 0
      zeros = ap (λ n. pointer_of (tree.place h n)) (sym (whole (prefix h page))) ∙ says.nothing (suc h) (prefix (suc h) page) (prefix h page % 512) to none (omega arith)

      by : (tree.place h (prefix h page) ≡ None → leaf page ≡ 0) → (o : Option ℕ) → tree.place h (prefix h page) ≡ o → leaf page ≡ 0
      by below None is = below is
      by below (Some f) is = absurd (pointer_some f (ap pointer_of (sym is) ∙ zeros))

  module _ (end : WalkEnd) (ends : entry_next 0 access (pte_of (leaf page)) ≡ Ends end) where
    nothing_ends : leaf page ≡ 0 → PageFault ≡ end
    nothing_ends none =
        let zero_ends : Ends PageFault ≡ Ends end = sym (zero_maps_nothing 0 access) ∙ ap (λ n. entry_next 0 access (pte_of n)) (sym none) ∙ ends in cc

    folds_from : (h f : ℕ) → h ≤ top → tree.content f ≡ Table h (table_prefix h page) → walk_from reading folded_shape va access (suc h) f ≡ end
    folds_from zero f to here = from_ends reading folded_shape va access 1 0 f end refl (last_next f here ∙ ends)
    folds_from (suc h) f to here = by (λ g holds. folds_from h g (omega (arith, to)) holds) (tree.place h (prefix h page)) refl
      where
        by : ((g : ℕ) → tree.content g ≡ Table h (table_prefix h page) → walk_from reading folded_shape va access (suc h) g ≡ end)
            → (o : Option ℕ) → tree.place h (prefix h page) ≡ o → walk_from reading folded_shape va access (suc (suc h)) f ≡ end
        by below None place = from_ends reading folded_shape va access (suc (suc h)) (suc h) f PageFault (omega arith) (met_none h f to here place) ∙ nothing_ends (no_leaf h to place)
        by below (Some g) place =
            from_below reading folded_shape va access (suc (suc h)) (suc h) f g (omega arith) (met_some h f g to here place)
            ∙ below g (there h g to place)

    pub folds : walk_from reading folded_shape va access (suc top) tables.root ≡ end
    folds = folds_from top tables.root (omega arith) sound.root

  -- and all entries that are met are in these frames
  inside_none : (next : Next) → LieWithin (frames_of tables) (later (path_from reading folded_shape va access 0) next)
  unfolding path_from
  inside_none (Ends end) = tt
  inside_none (Below table) = tt

  inside_from : (h f : ℕ) → h ≤ top → tree.content f ≡ Table h (table_prefix h page) → LieWithin (frames_of tables) (path_from reading folded_shape va access (suc h) f)
  unfolding path_from
  inside_from zero f to here = (in_frames 0 f to here, inside_none _)
  inside_from (suc h) f to here = (in_frames (suc h) f to here, by (λ g holds. inside_from h g (omega (arith, to)) holds) (tree.place h (prefix h page)) refl)
    where
      by : ((g : ℕ) → tree.content g ≡ Table h (table_prefix h page) → LieWithin (frames_of tables) (path_from reading folded_shape va access (suc h) g))
          → (o : Option ℕ) → tree.place h (prefix h page) ≡ o → LieWithin (frames_of tables) (later (path_from reading folded_shape va access (suc h)) (next_of access (met_in reading folded_shape va (suc h) f)))
      by below None place =
          subst (λ n. LieWithin (frames_of tables) (later (path_from reading folded_shape va access (suc h)) n)) (sym (met_none h f to here place)) tt
      by below (Some g) place =
          subst (λ n. LieWithin (frames_of tables) (later (path_from reading folded_shape va access (suc h)) n)) (sym (met_some h f g to here place))
          (below g (there h g to place))

  pub inside_root : LieWithin (frames_of tables) (path_from reading folded_shape va access (suc top) tables.root)
  inside_root = inside_from top tables.root (omega arith) sound.root

  -- the last of them is the page's leaf
  last_later : (parts : Pte) (m : Met) (ms : List Met) → LastIs parts ms → LastIs parts (m ∷ ms)
  last_later parts m [] last = absurd last
  last_later parts m (n ∷ ms) last = last

  nothing_later : (next : Next) → later (path_from reading folded_shape va access 0) next ≡ []
  unfolding path_from
  nothing_later (Ends end) = refl
  nothing_later (Below table) = refl

  module _ (parts : Pte) (reads_so : pte_of (leaf page) ≡ parts) (some : leaf page ≢ 0) where
    last_from : (h f : ℕ) → h ≤ top → tree.content f ≡ Table h (table_prefix h page) → LastIs parts (path_from reading folded_shape va access (suc h) f)
    unfolding path_from
    last_from zero f to here =
        subst (λ ms. LastIs parts (met_in reading folded_shape va 0 f ∷ ms)) (sym (nothing_later (next_of access (met_in reading folded_shape va 0 f))))
        (refl, (leaf page, leaf_read f here, reads_so))
    last_from (suc h) f to here = by (λ g holds. last_from h g (omega (arith, to)) holds) (tree.place h (prefix h page)) refl
      where
        by : ((g : ℕ) → tree.content g ≡ Table h (table_prefix h page) → LastIs parts (path_from reading folded_shape va access (suc h) g)) → (o : Option ℕ) → tree.place h (prefix h page) ≡ o
            → LastIs parts (met_in reading folded_shape va (suc h) f ∷ later (path_from reading folded_shape va access (suc h)) (next_of access (met_in reading folded_shape va (suc h) f)))
        by below None place = absurd (some (no_leaf h to place))
        by below (Some g) place =
            subst (λ n. LastIs parts (met_in reading folded_shape va (suc h) f ∷ later (path_from reading folded_shape va access (suc h)) n)) (sym (met_some h f g to here place))
            (last_later parts (met_in reading folded_shape va (suc h) f) (path_from reading folded_shape va access (suc h) g) (below g (there h g to place)))

    pub last_is : LastIs parts (path_from reading folded_shape va access (suc top) tables.root)
    last_is = last_from top tables.root (omega arith) sound.root
