-- The leaves of a list are written anew, for blocks in other places.
use Rattle.std.proofs.Common.{◌≡◌, ◌≢◌, ℕ, zero, suc, ◌+◌, ◌*◌, ◌/◌, ◌%◌, ◌<◌, ◌≤◌, ◌^◌, ◌⊎◌, inl, inr, ◌==◌, if◌then◌else◌, List, [], ◌∷◌, Option, Some, None, length, get_or, slice_index, refl, sym, ap, subst, ◌∙◌, arith}
use Rattle.std.proofs.lemmas.Bool.{cases_eq, eq-eqb, ne_eqb}
use Rattle.std.proofs.lemmas.List.{get_or_default}
use Rattle.arch_defs.specs.declared.cached.Entry.{Entry}
use Rattle.arch_defs.specs.CachedEntries.{CanFill, IsReachable, entry_at}
use Rattle.arch_defs.specs.Frames.{Only}
use Rattle.arch_defs.proofs.FrameSets.{only_both, only_none}
use Rattle.arch_defs.specs.Layouts.{Layout, NamesEachOnce}
use Rattle.shadow_space.specs.declared.cached.CachedTable.{CachedTable}
use Rattle.shadow_space.specs.declared.frames.TableFrames.{TableFrames}
use Rattle.shadow_space.specs.declared.writing.Tables.{Tables}
use Rattle.shadow_space.specs.Folding.{FoldedSpace}
use Rattle.shadow_space.specs.Held.{Holds, HoldsList, Stands, held_in, number_of}
use Rattle.shadow_space.specs.Leaves.{leaf_word_if, leaf_word, leaves}
use Rattle.shadow_space.specs.Moves.{IsMovedPart}
use Rattle.shadow_space.specs.Shadows.{HasSmallNumbers, IsShadow, Tidy, shadow_of, tables_in}
use Rattle.shadow_space.specs.Trees.{HasTables, IsOwn, Says, frames_of, slots}
use Rattle.shadow_space.proofs.Adding.{low_slots}
use Rattle.shadow_space.proofs.Finding.{found_has}
use Rattle.shadow_space.proofs.Leafing.{leaf_says}
use Rattle.shadow_space.proofs.Reaching.{has_folded}
use Rattle.shadow_space.proofs.Slots.{own_frame, own_room}
use Rattle.shadow_space.proofs.Tidying.{own_small, tidy_from}
use Rattle.table_words.specs.Words.{doubleword_at, with_word}
use Rattle.table_words.proofs.Words.{only_word, same_or, word_here, word_there}

-- the leaves of the first i entries are written for these blocks; a page without an entry has none
pub record IsRefolding (tables : Tables) (blocks : List ℕ) (entries : List Entry) (frames : TableFrames) (old : List ℕ) (i : ℕ) (memory : List ℕ) : Type 0 where
  pub leaf : ℕ → ℕ
  pub stands : Stands tables (number_of entries) leaf entries (held_in frames memory)
  pub done : (j : ℕ) (d : Entry) → j < i → j < length entries → leaf (get_or entries j d).page ≡ leaf_word blocks (get_or entries j d)
  pub none : (page : ℕ) → entry_at page entries ≡ None → leaf page ≡ 0
  pub only : Only (frames_of tables) old memory

-- a leaf has its place in memory
pub record HasLeafPlace (low page size : ℕ) : Type 0 where
  pub fits : 8 * (512 * low + page % 512) + 8 ≤ size
  pub small : low < 2 ^ 44

-- an entry that can be filled can be in as many other blocks
pub can_move : (blocks moved : List ℕ) (e : Entry) → length moved ≡ length blocks → CanFill blocks e → CanFill moved e
can_move blocks moved e same can = record { page = can.page; frame = by can.frame; level = can.level; right = can.right; write = can.write }
  where
    by : IsReachable blocks e.frame → IsReachable moved e.frame
    by (inl (from, to)) = inl (from, omega (arith, to, same))
    by (inr is) = inr is

-- the leaves with one page's leaf
abbrev with_leaf : (ℕ → ℕ) → ℕ → ℕ → ℕ → ℕ
with_leaf leaf at word page = if page == at then word else leaf page

leaf_at : (leaf : ℕ → ℕ) (at word page : ℕ) → page ≡ at → with_leaf leaf at word page ≡ word
leaf_at leaf at word page is = rw (eq-eqb page at is) refl

leaf_besides : (leaf : ℕ → ℕ) (at word page : ℕ) → page ≢ at → with_leaf leaf at word page ≡ leaf page
leaf_besides leaf at word page other = rw (ne_eqb page at other) refl

-- the page of an entry has an entry
some_at : (es : List Entry) (i : ℕ) (d : Entry) → i < length es → entry_at (get_or es i d).page es ≡ None → ⊥
some_at [] i d inside none = omega (arith, inside)
some_at (e ∷ es) zero d inside none = let found : entry_at e.page (e ∷ es) ≡ Some e = rw (eq-eqb e.page e.page refl) refl in absurd cc
some_at (e ∷ es) (suc i) d inside none = by (λ gone. some_at es i d (omega (arith, inside)) gone) (same_or e.page (get_or es i d).page)
  where
    by : (entry_at (get_or es i d).page es ≡ None → ⊥) → (e.page ≡ (get_or es i d).page) ⊎ (e.page ≢ (get_or es i d).page) → ⊥
    by later (inl same) = let found : entry_at (get_or es i d).page (e ∷ es) ≡ Some e = rw (eq-eqb e.page (get_or es i d).page same) refl in absurd cc
    by later (inr other) = later (rw (ne_eqb e.page (get_or es i d).page other) at none)

module _ (tables : Tables) (blocks moved : List ℕ) (most : ℕ) (entries : List Entry) (frames : TableFrames) (old : List ℕ)
    (holds : HoldsList tables blocks most entries frames old) (number : length moved ≡ length blocks) where
  pub refolds_none : IsRefolding tables moved entries frames old 0 old
  unfolding leaves
  refolds_none = record {
    leaf = leaves blocks entries;
    stands = holds.stands;
    done = λ j d before h. absurd (omega (arith, before));
    none = λ page gone. ap (leaf_word_if blocks) gone;
    only = only_none (frames_of tables) old;
  }

  module _ (i : ℕ) (memory : List ℕ) (so : IsRefolding tables moved entries frames old i memory) where
    placed : HasTables tables (length memory)
    placed = subst (λ n. HasTables tables n) (sym so.only.size) holds.placed

    module _ (inside : i < length entries) (e : Entry) (e_is : e ≡ get_or entries i e) (place : ℕ) (place_is : place ≡ slice_index frames.places i) where
      low : ℕ
      low = tables.first + place

      low_place : so.stands.tree.place 0 (e.page / 512) ≡ Some (tables.first + place)
      low_place =
          ap (λ x. so.stands.tree.place 0 (x.page / 512)) e_is ∙ so.stands.index i e inside
          ∙ ap (λ n. Some (tables.first + n)) (sym place_is)

      own : IsOwn tables (tables.first + place)
      own = so.stands.sound.own (tables.first + place) 0 (e.page / 512) low_place

      slot : e.page % 512 < slots tables (tables.first + place)
      slot =
          omega (
            arith,
            low_slots tables so.stands.tree (tables.first + place) 0 (e.page / 512) so.stands.sound
                (so.stands.sound.forth (tables.first + place) 0 (e.page / 512) low_place) (omega arith),
          )

      pub leaf_place : HasLeafPlace (tables.first + place) e.page (length memory)
      leaf_place = record {
        fits = own_room tables (length memory) (tables.first + place) (e.page % 512) placed.lies own slot;
        small = own_small tables (tables.first + place) (length memory) placed own;
      }

      module _ (word : ℕ) (word_is : word ≡ leaf_word moved e) (small : word < 2 ^ 64) where
        abbrev leaf' : ℕ → ℕ
        leaf' = with_leaf so.leaf e.page word

        abbrev after : List ℕ
        after = with_word memory (512 * (tables.first + place) + e.page % 512) word

        done_more : (j : ℕ) (d : Entry) → j < i + 1 → j < length entries → leaf' (get_or entries j d).page ≡ leaf_word moved (get_or entries j d)
        done_more j d before h = by (cases_eq j i)
          where
            by : (j ≡ i) ⊎ (j ≢ i) → leaf' (get_or entries j d).page ≡ leaf_word moved (get_or entries j d)
            by (inl same) =
                let this : get_or entries j d ≡ e = ap (λ k. get_or entries k d) same ∙ get_or_default entries i d e inside ∙ sym e_is in
                leaf_at so.leaf e.page word (get_or entries j d).page (ap (λ x. x.page) this) ∙ word_is ∙ ap (leaf_word moved) (sym this)
            by (inr other) =
                let first : j < i = omega (arith, before, other) in
                let differs = holds.pages j i d first inside in
                let this : get_or entries i d ≡ e = get_or_default entries i d e inside ∙ sym e_is in
                leaf_besides so.leaf e.page word (get_or entries j d).page (λ is. differs (is ∙ ap (λ x. x.page) (sym this)))
                ∙ so.done j d first h

        none_still : (page : ℕ) → entry_at page entries ≡ None → leaf' page ≡ 0
        none_still page gone =
            leaf_besides so.leaf e.page word page (λ is. some_at entries i e inside (ap (λ x. entry_at x.page entries) (sym e_is) ∙ ap (λ p. entry_at p entries) (sym is) ∙ gone))
            ∙ so.none page gone

        refolds_next' : IsRefolding tables moved entries frames old (i + 1) after
        refolds_next' = record {
          leaf = leaf';
          stands = record {
            tree = so.stands.tree;
            sound = so.stands.sound;
            says = leaf_says tables so.stands.tree (doubleword_at memory) (doubleword_at after) so.leaf leaf' e.page (tables.first + place) so.stands.sound so.stands.says low_place
                (word_here memory (512 * (tables.first + place) + e.page % 512) word leaf_place.fits small ∙ sym (leaf_at so.leaf e.page word e.page refl))
                (λ j other. word_there memory (512 * (tables.first + place) + e.page % 512) word j leaf_place.fits other)
                (λ p other. leaf_besides so.leaf e.page word p other);
            counted = so.stands.counted;
            index = so.stands.index;
          };
          done = done_more;
          none = none_still;
          only = only_both (frames_of tables) old memory after so.only
              (only_word (frames_of tables) memory (512 * (tables.first + place) + e.page % 512) word leaf_place.fits (own_frame tables (tables.first + place) (e.page % 512) own slot));
        }

        pub refolds_next : (new : List ℕ) → new ≡ after → IsRefolding tables moved entries frames old (i + 1) new
        refolds_next new is = subst (IsRefolding tables moved entries frames old (i + 1)) (sym is) refolds_next'

    -- in the end the leaves are those of the blocks
    module _ (all : length entries ≤ i) where
      same_leaf : (page : ℕ) (o : Option Entry) → entry_at page entries ≡ o → so.leaf page ≡ leaf_word_if moved o
      same_leaf page None is = so.none page is
      same_leaf page (Some e) is =
          let found = found_has (λ x. so.leaf x.page ≡ leaf_word moved x) page entries e (λ k d h. so.done k d (omega (arith, h, all)) h) is in
          ap so.leaf (sym found.1) ∙ found.0

      same_leaves : (page : ℕ) → so.leaf page ≡ leaves moved entries page
      unfolding leaves
      same_leaves page = same_leaf page (entry_at page entries) refl

      pub refolded : HoldsList tables moved most entries frames memory
      refolded = record {
        placed = placed;
        count = holds.count;
        bound = holds.bound;
        few = holds.few;
        fill = λ k d h. can_move blocks moved (get_or entries k d) number (holds.fill k d h);
        pages = holds.pages;
        kept = holds.kept;
        stands = record {
          tree = so.stands.tree;
          sound = so.stands.sound;
          says = subst (Says (doubleword_at memory) tables so.stands.tree) (λ i page. same_leaves page i) so.stands.says;
          counted = so.stands.counted;
          index = so.stands.index;
        };
      }

-- so the space is tidy in the other part
module _ (index : ℕ) (old new : CachedTable) (part : Layout) (memory : List ℕ) (tables : Tables) (is : IsShadow (shadow_of index old)) (moved : IsMovedPart old.part part)
    (once : NamesEachOnce part) (small : HasSmallNumbers part) (same : tables ≡ tables_in old.part index) (new_is : new ≡ record old { part = part }) (holds : Holds tables new memory) where
  abbrev in_other : CachedTable
  in_other = record old { part = part }

  others : (f : Layout → ℕ) → f part ≡ f (record old.part { blocks = part.blocks })
  others f = ap f moved.others

  tables_are : tables ≡ tables_in part index
  tables_are = same ∙ sym (ap (λ p. tables_in p index) moved.others)

  there : HoldsList (tables_in part index) part.blocks old.most old.entries old.frames memory
  there = subst (λ t. Holds t in_other memory) tables_are (subst (λ table. Holds tables table memory) new_is holds)

  is_shadow : IsShadow (shadow_of index in_other)
  is_shadow = record {
    once = once;
    small = small;
    index = subst (λ n. index < n) (sym (others (λ p. p.spaces))) is.index;
    most = is.most;
    room = subst (λ n. old.most ≤ n) (sym (others (λ p. p.entries))) is.room;
    few = is.few;
    fill = there.fill;
    pages = is.pages;
  }

  tidy_there : Tidy (shadow_of index in_other) memory
  tidy_there = tidy_from (shadow_of index in_other) memory (record { is = is_shadow; lies = there.placed.lies; holds = there })

  tidy_moved : Tidy (shadow_of index new) memory
  tidy_moved = subst (λ table. Tidy (shadow_of index table) memory) (sym new_is) tidy_there

  pub folded_moved : FoldedSpace (shadow_of index new) memory
  folded_moved = has_folded (shadow_of index new) memory tidy_moved
