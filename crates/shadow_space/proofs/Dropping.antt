-- Entries are dropped one by one.
use Rattle.std.proofs.Common.{◌≡◌, ◌≢◌, ℕ, zero, suc, ◌+◌, ◌-◌, ◌*◌, ◌<◌, ◌≤◌, ◌⊎◌, inl, inr, Bool, true, false, not, List, [], ◌∷◌, length, get_or, remove, drop, refl, sym, ap, subst, ◌∙◌, arith}
use Rattle.std.specs.Prelude.{IfNone, IfSome, Option, None, Some, slice_index_or}
use Rattle.std.specs.List.{All, AllPairs, filter}
use Rattle.std.proofs.lemmas.Bool.{cases_lt}
use Rattle.std.proofs.lemmas.List.{drop_all}
use Rattle.std.proofs.lemmas.List.Edits.{get_or-remove_above, get_or-remove_below, length-remove}
use Rattle.arch_defs.specs.declared.cached.Entry.{Entry}
use Rattle.arch_defs.specs.CachedEntries.{HasOtherPage, cut_by, filled}
use Rattle.arch_defs.specs.Spaces.{names_page}
use Rattle.arch_defs.proofs.FrameSets.{only_both, only_none}
use Rattle.shadow_space.specs.declared.cached.CachedTable.{CachedTable}
use Rattle.shadow_space.specs.declared.writing.Tables.{Tables}
use Rattle.shadow_space.specs.Held.{Holds, KeepsTable}
use Rattle.shadow_space.specs.Trees.{frames_of, top}
use Rattle.shadow_space.proofs.Editing.{filled_none, kept_removed}
use Rattle.table_words.specs.Words.{changed}
use Rattle.table_words.proofs.Words.{changed_none, changed_then}

-- the others than an entry of a page have other pages
any_default : (ys : List Entry) (n : ℕ) (a b : Entry) → n < length ys → get_or ys n a ≡ get_or ys n b
any_default [] n a b less = absurd (omega (arith, less))
any_default (y ∷ ys) zero a b less = refl
any_default (y ∷ ys) (suc n) a b less = any_default ys n a b (omega (arith, less))

pub others_left : (xs : List Entry) (i page : ℕ) (d : Entry) → i < length xs → AllPairs HasOtherPage xs → (get_or xs i d).page ≡ page → All (λ e. e.page ≢ page) (remove xs i)
others_left xs i page d inside pages is k d' h = by (cases_lt k i)
  where
    same : (get_or (remove xs i) k d').page ≡ (get_or (remove xs i) k d).page
    same = ap (λ x. x.page) (any_default (remove xs i) k d' d h)

    by : (k < i) ⊎ (i ≤ k) → (get_or (remove xs i) k d').page ≢ page
    by (inl before) = λ e. pages k i d before inside (ap (λ x. x.page) (sym (get_or-remove_below xs i d k before inside)) ∙ sym same ∙ e ∙ sym is)
    by (inr behind) = λ e. pages i (k + 1) d (omega (arith, behind)) (omega (arith, length-remove xs i inside, h)) (is ∙ sym e ∙ same ∙ ap (λ x. x.page) (get_or-remove_above xs i d k behind inside))

-- what is kept while entries are dropped
pub record IsDropping (tables : Tables) (old : CachedTable) (memory : List ℕ) (new : CachedTable) (memory' : List ℕ) : Type 0 where
  pub holds : Holds tables new memory'
  pub keeps : KeepsTable tables old memory new memory'
  pub fewer : length new.entries ≤ length old.entries
  pub changes : changed memory memory' ≤ (top + 1) * (length old.entries - length new.entries)

drops_none : (tables : Tables) (table : CachedTable) (memory : List ℕ) → Holds tables table memory → IsDropping tables table memory table memory
drops_none tables table memory holds = record {
  holds = holds;
  keeps = record { part = refl; most = refl; only = only_none (frames_of tables) memory };
  fewer = omega arith;
  changes = omega (arith, changed_none memory);
}

drops_one : (tables : Tables) (old between new : CachedTable) (memory memory' memory'' : List ℕ) (i : ℕ) → IsDropping tables old memory between memory' → i < length between.entries
    → new.entries ≡ remove between.entries i → KeepsTable tables between memory' new memory'' → Holds tables new memory'' → changed memory' memory'' ≤ top + 1
    → IsDropping tables old memory new memory''
drops_one tables old between new memory memory' memory'' i drops inside is keeps holds few = record {
  holds = holds;
  keeps = record {
    part = keeps.part ∙ drops.keeps.part;
    most = keeps.most ∙ drops.keeps.most;
    only = only_both (frames_of tables) memory memory' memory'' drops.keeps.only keeps.only;
  };
  fewer = omega (arith, ap length is, length-remove between.entries i inside, drops.fewer);
  changes = omega (arith, changed_then memory memory' memory'' drops.keeps.only.size, drops.changes, few, ap length is, length-remove between.entries i inside, drops.fewer);
}

-- it goes from the last entry to the first
drop_removed : (xs : List Entry) (j : ℕ) → j < length xs → drop j (remove xs j) ≡ drop (suc j) xs
drop_removed [] j h = absurd (omega (arith, h))
drop_removed (x ∷ xs) zero h = refl
drop_removed (x ∷ xs) (suc j) h = drop_removed xs j (omega (arith, h))

more_kept : (p : Entry → Bool) (xs : List Entry) (j : ℕ) (d : Entry) → j < length xs → p (get_or xs j d) ≡ true → filter p (drop (suc j) xs) ≡ drop (suc j) xs → filter p (drop j xs) ≡ drop j xs
more_kept p [] j d h pass kept = absurd (omega (arith, h))
more_kept p (x ∷ xs) zero d h pass kept = rw pass (ap (λ ys. x ∷ ys) kept)
more_kept p (x ∷ xs) (suc j) d h pass kept = more_kept p xs j d (omega (arith, h)) pass kept

-- the entries that no fence of a page, or of none, names
abbrev pub unnamed : Option ℕ → List Entry → List Entry
unnamed page xs = filter (λ e. not (names_page page e)) xs

pub none_unnamed : (xs : List Entry) → unnamed None xs ≡ []
none_unnamed [] = refl
none_unnamed (x ∷ xs) = none_unnamed xs

pub one_unnamed : (page : ℕ) (xs : List Entry) → unnamed (Some page) xs ≡ cut_by page xs
unfolding cut_by
one_unnamed page xs = refl

-- down to entry i, those that are named are dropped
pub record IsCutting (tables : Tables) (page : Option ℕ) (old : CachedTable) (memory : List ℕ) (new : CachedTable) (memory' : List ℕ) (i : ℕ) : Type 0 where
  pub drops : IsDropping tables old memory new memory'
  pub index : i ≤ length new.entries
  pub list : unnamed page new.entries ≡ unnamed page old.entries
  pub done : unnamed page (drop i new.entries) ≡ drop i new.entries

pub cuts_none : (tables : Tables) (page : Option ℕ) (table : CachedTable) (memory : List ℕ) (i : ℕ) → i ≡ length table.entries → Holds tables table memory → IsCutting tables page table memory table memory i
cuts_none tables page table memory i is holds = record {
  drops = drops_none tables table memory holds;
  index = omega (arith, is);
  list = refl;
  done = subst (λ n. unnamed page (drop n table.entries) ≡ drop n table.entries) (sym is) (end table.entries);
}
  where
    end : (xs : List Entry) → unnamed page (drop (length xs) xs) ≡ drop (length xs) xs
    end xs = subst (λ ys. unnamed page ys ≡ ys) (sym (drop_all (length xs) xs (omega arith))) refl

pub cuts_not : (tables : Tables) (page : Option ℕ) (old new : CachedTable) (memory memory' : List ℕ) (i j : ℕ) (e : Entry) → IsCutting tables page old memory new memory' i → 0 < i → j ≡ i - 1
    → e ≡ get_or new.entries j e → names_page page e ≡ false → IsCutting tables page old memory new memory' j
cuts_not tables page old new memory memory' i j e cuts some j_is at pass = record {
  drops = cuts.drops;
  index = omega (arith, cuts.index, j_is);
  list = cuts.list;
  done = more_kept (λ e. not (names_page page e)) new.entries j e (omega (arith, cuts.index, j_is, some)) (ap (λ x. not (names_page page x)) (sym at) ∙ ap not pass)
      (subst (λ n. unnamed page (drop n new.entries) ≡ drop n new.entries) i_is cuts.done);
}
  where
    i_is : i ≡ suc j
    i_is = omega (arith, j_is, some)

pub cuts_one : (tables : Tables) (page : Option ℕ) (old between new : CachedTable) (memory memory' memory'' : List ℕ) (i j : ℕ) (e : Entry) → IsCutting tables page old memory between memory' i → 0 < i → j ≡ i - 1
    → e ≡ get_or between.entries j e → names_page page e ≡ true → new.entries ≡ remove between.entries j → KeepsTable tables between memory' new memory'' → Holds tables new memory'' → changed memory' memory'' ≤ top + 1
    → IsCutting tables page old memory new memory'' j
cuts_one tables page old between new memory memory' memory'' i j e cuts some j_is at named is keeps holds few = record {
  drops = drops_one tables old between new memory memory' memory'' j cuts.drops inside is keeps holds few;
  index = omega (arith, ap length is, length-remove between.entries j inside, cuts.index, j_is, some);
  list = ap (unnamed page) is ∙ kept_removed between.entries j e (λ e. not (names_page page e)) inside (ap (λ x. not (names_page page x)) (sym at) ∙ ap not named) ∙ cuts.list;
  done = subst (λ xs. unnamed page (drop j xs) ≡ drop j xs) (sym is)
      (subst (λ xs. unnamed page xs ≡ xs) (sym (drop_removed between.entries j inside)) (subst (λ n. unnamed page (drop n between.entries) ≡ drop n between.entries) i_is cuts.done));
}
  where
    inside : j < length between.entries
    inside = omega (arith, cuts.index, j_is, some)

    i_is : i ≡ suc j
    i_is = omega (arith, j_is, some)

-- what a search for a page tells
pub found_inside : (xs : List Entry) (page : ℕ) (o : Option ℕ) (i : ℕ) (d : Entry) → o ≡ Some i → IfSome o (λ i. (i < length xs) × ((d : Entry) → (slice_index_or xs i d).page ≡ page)) → i < length xs
found_inside xs page o i d is found = (subst (λ o. IfSome o (λ i. (i < length xs) × ((d : Entry) → (slice_index_or xs i d).page ≡ page))) is found).0

pub found_page : (xs : List Entry) (page : ℕ) (o : Option ℕ) (i : ℕ) (d : Entry) → o ≡ Some i → IfSome o (λ i. (i < length xs) × ((d : Entry) → (slice_index_or xs i d).page ≡ page)) → (get_or xs i d).page ≡ page
found_page xs page o i d is found = (subst (λ o. IfSome o (λ i. (i < length xs) × ((d : Entry) → (slice_index_or xs i d).page ≡ page))) is found).1 d

pub absent : (xs : List Entry) (page : ℕ) (o : Option ℕ) → o ≡ None → IfNone o (All (λ e. e.page ≢ page) xs) → All (λ e. e.page ≢ page) xs
absent xs page o is none = subst (λ o. IfNone o (All (λ e. e.page ≢ page) xs)) is none

pub none_room : (most : ℕ) (xs : List Entry) (e : Entry) → most ≤ 0 → length xs ≤ most → filled most xs e ≡ xs
none_room most xs e none few =
    let is : most ≡ 0 = omega (arith, none) in
    ap (λ n. filled n xs e) is ∙ filled_none xs e (omega (arith, is, few))
