-- Tables that a change of one entry is under way in.
use Rattle.std.proofs.Common.{◌≡◌, ◌≢◌, ℕ, zero, suc, ◌+◌, ◌*◌, ◌<◌, ◌≤◌, ◌^◌, ◌⊎◌, inl, inr, false, cond, ◌==◌, ◌&&◌, List, length, get_or, slice_index, slice_set, Option, Some, None, refl, sym, ap, ◌∙◌, arith}
use Rattle.std.specs.Prelude.{nat_le}
use Rattle.std.proofs.lemmas.Bool.{and_from, and_left, and_right, cases_lt, eq-eqb, le-leb, lt-leb, ne_eqb}
use Rattle.std.proofs.lemmas.List.{get_or-set_same, get_or-set_other}
use Rattle.arch_defs.specs.declared.cached.Entry.{Entry}
use Rattle.arch_defs.specs.CachedEntries.{guest_page_bits}
use Rattle.shadow_space.specs.declared.writing.Tables.{Tables}
use Rattle.shadow_space.specs.Held.{Held, IsCounted, Stands, number_of}
use Rattle.shadow_space.specs.Leaves.{leaves}
use Rattle.shadow_space.specs.Trees.{Content, IsOwn, IsTree, Table, Tree, entry_of, pointer_of, prefix, slots, top}
use Rattle.shadow_space.specs.Ways.{number_with, slot_of, table_prefix}
use Rattle.shadow_space.proofs.Adding.{low_slots}
use Rattle.shadow_space.proofs.Prefixes.{root_prefix, slot_low, slot_small}
use Rattle.shadow_space.proofs.Numbers.{no_leaves, number_up, own_number}
use Rattle.shadow_space.proofs.Slots.{root_slots}
use Rattle.shadow_space.proofs.Stepping.{IsMore}
use Rattle.table_words.proofs.Words.{same_or}

-- a table of the page has one entry more from the level on, and no other table has
module _ (es : List Entry) (page : ℕ) where
  with_here : (from h : ℕ) → from ≤ h → number_with es page from h (prefix h page) ≡ number_of es h (prefix h page) + 1
  unfolding number_with
  with_here from h above = rw (and_from (nat_le from h) (prefix h page == prefix h page) (le-leb from h above) (eq-eqb (prefix h page) (prefix h page) refl)) refl

  with_none : (from h k : ℕ) → (nat_le from h && prefix h page == k) ≡ false → number_with es page from h k ≡ number_of es h k
  unfolding number_with
  with_none from h k test = let same : number_of es h k + 0 ≡ number_of es h k = omega arith in rw test same

  pub with_below : (from h k : ℕ) → h < from → number_with es page from h k ≡ number_of es h k
  with_below from h k below = with_none from h k (and_left (nat_le from h) (prefix h page == k) (lt-leb from h below))

  with_other : (from h k : ℕ) → k ≢ prefix h page → number_with es page from h k ≡ number_of es h k
  with_other from h k other = with_none from h k (and_right (nat_le from h) (prefix h page == k) (ne_eqb (prefix h page) k (λ e. other (sym e))))

  with_above : (from from' h k : ℕ) → from ≤ h → from' ≤ h → number_with es page from h k ≡ number_with es page from' h k
  unfolding number_with
  with_above from from' h k above above' = rw (le-leb from h above, le-leb from' h above') refl

  pub with_all : (h k : ℕ) → number_with es page 0 h k ≡ number_of es h k + cond (prefix h page == k) 1 0
  unfolding number_with
  with_all h k = rw (le-leb 0 h (omega arith)) refl

  -- so that it is one of one table more a level further down
  pub one_level : (h : ℕ) → IsMore (number_with es page (suc h)) (number_with es page h) h (prefix h page)
  one_level h = record {
    here = with_here h h (omega arith) ∙ ap (λ n. n + 1) (sym (with_below (suc h) h (prefix h page) (omega arith)));
    others = λ h' k' low differs. others h' k' differs (same_or h' h) (cases_lt h h');
  }
    where
      others : (h' k' : ℕ) → ((h' ≡ h) × (k' ≡ prefix h page) → ⊥) → (h' ≡ h) ⊎ (h' ≢ h) → (h < h') ⊎ (h' ≤ h) → number_with es page h h' k' ≡ number_with es page (suc h) h' k'
      others h' k' differs (inl is) way =
          let other : k' ≢ prefix h' page = (λ e. differs (is, e ∙ ap (λ n. prefix n page) is)) in
          with_other h h' k' other ∙ sym (with_other (suc h) h' k' other)
      others h' k' differs (inr other) (inl above) = with_above h (suc h) h' k' (omega (arith, above)) (omega (arith, above))
      others h' k' differs (inr other) (inr below) =
          let less : h' < h = omega (arith, below, other) in
          with_below h h' k' less ∙ sym (with_below (suc h) h' k' (omega (arith, less)))

  -- each entry of the list is counted
  pub own_counted : (from i : ℕ) (d : Entry) → i < length es → 0 < number_with es page from 0 (prefix 0 (get_or es i d).page)
  unfolding number_with
  own_counted from i d inside = omega (arith, own_number es i d 0 inside)

  -- and so is the page
  pub page_counted : (from h : ℕ) → from ≤ h → 0 < number_with es page from h (prefix h page)
  page_counted from h above = omega (arith, with_here from h above)

-- other numbers that are the same below the root
pub recount : (tables : Tables) (tree : Tree) (counts : List ℕ) (number number' : ℕ → ℕ → ℕ) → ((h k : ℕ) → h < top → number' h k ≡ number h k)
    → IsCounted tables tree counts number → IsCounted tables tree counts number'
recount tables tree counts number number' same counted = record {
  some = λ h k f low there.
      let was = counted.some h k f low there in
      let is = same h k low in
      (was.0 ∙ sym is, omega (arith, was.1, is));
  none = λ h k low missing. same h k low ∙ counted.none h k low missing;
  free = counted.free;
}

-- the frames of a way, with one more
pub way_set : (content : ℕ → Content) (page h : ℕ) (way : List ℕ) (f : ℕ) → h < length way → content f ≡ Table h (table_prefix h page)
    → ((h' : ℕ) → suc h ≤ h' → h' ≤ top → content (slice_index way h') ≡ Table h' (table_prefix h' page))
    → (h' : ℕ) → h ≤ h' → h' ≤ top → content (slice_index (slice_set way h f) h') ≡ Table h' (table_prefix h' page)
way_set content page h way f inside here above h' from to = by (same_or h' h)
  where
    by : (h' ≡ h) ⊎ (h' ≢ h) → content (slice_index (slice_set way h f) h') ≡ Table h' (table_prefix h' page)
    by (inl is) =
        ap (λ n. content (slice_index (slice_set way h f) n)) is
        ∙ ap content (get_or-set_same way h f 0 inside)
        ∙ here
        ∙ ap (λ n. Table n (table_prefix n page)) (sym is)
    by (inr other) = ap content (get_or-set_other way h h' f 0 other) ∙ above h' (omega (arith, from, other)) to

-- a page's entry is one of its table's
pub tree_slot : (tables : Tables) (tree : Tree) (f level page : ℕ) → IsTree tables tree → tree.content f ≡ Table level (table_prefix level page) → level ≤ top
    → page < 2 ^ guest_page_bits → slot_of level page < slots tables f
tree_slot tables tree f level page sound holds low small = by (same_or level top)
  where
    by : (level ≡ top) ⊎ (level ≢ top) → slot_of level page < slots tables f
    by (inl is) =
        let here = sound.back f level (table_prefix level page) holds in
        let root = sound.back tables.root top 0 sound.root in
        let none = root_prefix level page is in
        let same : f ≡ tables.root = cc in
        omega (arith, root_slots tables f same, slot_small level page small)
    by (inr other) =
        let less : level < top = omega (arith, low, other) in
        omega (arith, low_slots tables tree f level (table_prefix level page) sound holds less, slot_low level page less)

pub tree_own : (tables : Tables) (tree : Tree) (f h k : ℕ) → IsTree tables tree → tree.content f ≡ Table h k → IsOwn tables f
tree_own tables tree f h k sound holds = sound.own f h k (sound.back f h k holds)

-- a table that no entry of a list has a page of has no entry
module _ (tables : Tables) (blocks : List ℕ) (es : List Entry) (page from : ℕ) (held : Held) (stands : Stands tables (number_with es page from) (leaves blocks es) es held) where
  no_pointer : (h k u : ℕ) → h < top → h < from → number_of es (suc h) k ≡ 0 → u < 512 → (o : Option ℕ) → stands.tree.place h (512 * k + u) ≡ o → pointer_of (stands.tree.place h (512 * k + u)) ≡ 0
  no_pointer h k u low below none small None is = ap pointer_of is
  no_pointer h k u low below none small (Some f) is =
      let counts = stands.counted.some h (512 * k + u) f low is in
      let up = number_up es h k u small in
      let plain = with_below es page from h (512 * k + u) below in
      absurd (omega (arith, counts.1, plain, up, none))

  pub no_entries : (h k : ℕ) → h < top → h ≤ from → number_of es h k ≡ 0 → (u : ℕ) → u < 512 → entry_of stands.tree (leaves blocks es) (Table h k) u ≡ 0
  no_entries zero k low below none u small = no_leaves blocks es k u small none
  no_entries (suc h) k low below none u small = no_pointer h k u (omega (arith, low)) (omega (arith, below)) none small (stands.tree.place h (512 * k + u)) refl
