-- A tree with one more table, and with one less.
use Rattle.std.proofs.Common.{◌≡◌, ◌≢◌, ℕ, ◌⊎◌, inl, inr, false, ◌==◌, ◌&&◌, Some, None, if◌then◌else◌, refl, sym}
use Rattle.std.proofs.lemmas.Bool.{and_from, and_left, and_right, eq-eqb, ne_eqb}
use Rattle.shadow_space.specs.Trees.{Free, Table, Tree}
use Rattle.shadow_space.proofs.Adding.{IsAdded}
use Rattle.table_words.proofs.Words.{same_or}

abbrev pub with_place : Tree → ℕ → ℕ → ℕ → Tree
with_place tree frame h k = record {
  content = λ f. if f == frame then Table h k else tree.content f;
  place = λ h' k'. if h' == h && k' == k then Some frame else tree.place h' k';
}

abbrev pub without_place : Tree → ℕ → ℕ → ℕ → Tree
without_place tree frame h k = record {
  content = λ f. if f == frame then Free else tree.content f;
  place = λ h' k'. if h' == h && k' == k then None else tree.place h' k';
}

test_fails : (h k h' k' : ℕ) → ((h' ≡ h) × (k' ≡ k) → ⊥) → (h' == h && k' == k) ≡ false
test_fails h k h' k' differs = by (same_or h' h)
  where
    by : (h' ≡ h) ⊎ (h' ≢ h) → (h' == h && k' == k) ≡ false
    by (inl is) = and_right (h' == h) (k' == k) (ne_eqb k' k (λ is'. differs (is, is')))
    by (inr other) = and_left (h' == h) (k' == k) (ne_eqb h' h other)

pub place_added : (tree : Tree) (f h k : ℕ) → IsAdded tree (with_place tree f h k) f h k
place_added tree f h k = record {
  content = rw (eq-eqb f f refl) refl;
  contents = λ x other. rw (ne_eqb x f other) refl;
  place = rw (and_from (h == h) (k == k) (eq-eqb h h refl) (eq-eqb k k refl)) refl;
  places = λ h' k' differs. rw (test_fails h k h' k' differs) refl;
}

pub place_removed : (tree : Tree) (f h k : ℕ) → tree.content f ≡ Table h k → tree.place h k ≡ Some f → IsAdded (without_place tree f h k) tree f h k
place_removed tree f h k content place = record {
  content = content;
  contents = λ x other. sym (rw (ne_eqb x f other) refl);
  place = place;
  places = λ h' k' differs. sym (rw (test_fails h k h' k' differs) refl);
}

pub removed_free : (tree : Tree) (f h k : ℕ) → (without_place tree f h k).content f ≡ Free
removed_free tree f h k = rw (eq-eqb f f refl) refl

pub removed_none : (tree : Tree) (f h k : ℕ) → (without_place tree f h k).place h k ≡ None
removed_none tree f h k = rw (and_from (h == h) (k == k) (eq-eqb h h refl) (eq-eqb k k refl)) refl
