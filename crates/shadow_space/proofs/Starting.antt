-- Frames of zeros have the tree of no entry.
use Rattle.std.proofs.Common.{◌≡◌, ◌≢◌, ℕ, zero, suc, ◌+◌, ◌*◌, ◌<◌, ◌⊎◌, ◌/◌, inl, inr, Bool, true, false, ◌==◌, ◌&&◌, List, [], Some, None, if◌then◌else◌, refl, sym, ap, subst, ◌∙◌, arith}
use Rattle.std.proofs.lemmas.Bool.{and_from, and_left, and_right, eq-eqb, ne_eqb}
use Rattle.shadow_space.specs.declared.writing.Tables.{Tables}
use Rattle.arch_defs.specs.Frames.{Frames}
use Rattle.arch_defs.proofs.Pastes.{load_same}
use Rattle.shadow_space.specs.declared.frames.TableFrames.{TableFrames}
use Rattle.shadow_space.specs.Held.{Stands, held_in, number_of}
use Rattle.shadow_space.specs.Leaves.{leaves}
use Rattle.shadow_space.specs.Shadows.{AreZeros}
use Rattle.shadow_space.specs.Trees.{Free, IsOwn, IsTree, RootIsApart, Says, Table, Tree, entry_of, frames_of, pointer_of, slots, top}
use Rattle.shadow_space.proofs.Finding.{no_leaf}
use Rattle.shadow_space.proofs.Numbers.{no_number_of}
use Rattle.shadow_space.proofs.Slots.{other_than_root, own_frame}
use Rattle.table_words.specs.Words.{doubleword_at}
use Rattle.table_words.proofs.Words.{same_frame, same_or}

-- the root alone
abbrev pub root_alone : Tables → Tree
root_alone tables = record {
  content = λ f. if f == tables.root then Table top 0 else Free;
  place = λ h k. if h == top && k == 0 then Some tables.root else None;
}

-- the root alone is a tree, and zeros are its words
alone : (tables : Tables) (x h k : ℕ) → (if x == tables.root then Table top 0 else Free) ≡ Table h k → (x ≡ tables.root) × ((h ≡ top) × (k ≡ 0))
alone tables x h k holds = by (same_or x tables.root)
  where
    by : (x ≡ tables.root) ⊎ (x ≢ tables.root) → (x ≡ tables.root) × ((h ≡ top) × (k ≡ 0))
    by (inl is) = let at_top : Table top 0 ≡ Table h k = rw (eq-eqb x tables.root is) at holds in (is, (cc, cc))
    by (inr other) = let at_top : Free ≡ Table h k = rw (ne_eqb x tables.root other) at holds in absurd cc

alone_place : (tables : Tables) (x h k : ℕ) → (if h == top && k == 0 then Some tables.root else None) ≡ Some x → (x ≡ tables.root) × ((h ≡ top) × (k ≡ 0))
alone_place tables x h k is = by (same_or h top) (same_or k 0)
  where
    none_of : (h == top && k == 0) ≡ false → (x ≡ tables.root) × ((h ≡ top) × (k ≡ 0))
    none_of test = let no_place : None ≡ Some x = rw test at is in absurd cc

    by : (h ≡ top) ⊎ (h ≢ top) → (k ≡ 0) ⊎ (k ≢ 0) → (x ≡ tables.root) × ((h ≡ top) × (k ≡ 0))
    by (inl a) (inl b) =
        let there : Some tables.root ≡ Some x = rw (and_from (h == top) (k == 0) (eq-eqb h top a) (eq-eqb k 0 b)) at is in
        (cc, (a, b))
    by (inl a) (inr b) = none_of (and_right (h == top) (k == 0) (ne_eqb k 0 b))
    by (inr a) way = none_of (and_left (h == top) (k == 0) (ne_eqb h top a))

root_place : (tables : Tables) (h k : ℕ) → h ≡ top → k ≡ 0 → (if h == top && k == 0 then Some tables.root else None) ≡ Some tables.root
root_place tables h k a b = rw (and_from (h == top) (k == 0) (eq-eqb h top a) (eq-eqb k 0 b)) refl

pub low_place : (tables : Tables) (h k : ℕ) → h < top → (if h == top && k == 0 then Some tables.root else None) ≡ None
low_place tables h k low = rw (and_left (h == top) (k == 0) (ne_eqb h top (λ e. omega arith))) refl

pub alone_sound : (tables : Tables) → RootIsApart tables → IsTree tables (root_alone tables)
alone_sound tables apart = record {
  apart = apart;
  root = rw (eq-eqb tables.root tables.root refl) refl;
  back = λ x h k holds. let is = alone tables x h k holds in root_place tables h k is.1.0 is.1.1 ∙ ap Some (sym is.0);
  forth = λ x h k there. let is = alone_place tables x h k there in content x h k is.0 is.1.0 is.1.1;
  own = λ x h k there. inl (alone_place tables x h k there).0;
  proper = λ x h k holds. inr (alone tables x h k holds).1;
}
  where
    content : (x h k : ℕ) → x ≡ tables.root → h ≡ top → k ≡ 0 → (if x == tables.root then Table top 0 else Free) ≡ Table h k
    content x h k is a b = rw (eq-eqb x tables.root is, a, b) refl

root_entry : (leaf : ℕ → ℕ) (tables : Tables) (x s : ℕ) → entry_of (root_alone tables) leaf (if x == tables.root then Table top 0 else Free) s ≡ 0
root_entry leaf tables x s = by (x == tables.root)
  where
    by : (b : Bool) → entry_of (root_alone tables) leaf (if b then Table top 0 else Free) s ≡ 0
    by true = refl
    by false = refl

pub alone_says : (tables : Tables) (word leaf : ℕ → ℕ) → ((page : ℕ) → leaf page ≡ 0) → ((f s : ℕ) → IsOwn tables f → s < slots tables f → word (512 * f + s) ≡ 0)
    → Says word tables (root_alone tables) leaf
alone_says tables word leaf none zeros = record {
  words = λ f s own small. zeros f s own small ∙ sym (root_entry leaf tables f s);
  nothing = nothing;
}
  where
    nothing : (h k s : ℕ) → h < top → (root_alone tables).place h k ≡ None → s < 512 → entry_of (root_alone tables) leaf (Table h k) s ≡ 0
    nothing zero k s low missing small = none (512 * k + s)
    nothing (suc h) k s low missing small = ap pointer_of (low_place tables h (512 * k + s) (omega arith))

-- and so they have the tables of no entry
word_zero : (frames : Frames) (memory : List ℕ) (i : ℕ) → AreZeros frames memory → frames (i / 512) ≡ true → doubleword_at memory i ≡ 0
word_zero frames memory i zeros named =
    load_same memory [] (8 * i) 0 8
    (λ k h. zeros.each (8 * i + k) (subst (λ f. frames f ≡ true) (same_frame i (8 * i + k) (omega arith) (omega arith)) named))

pub zeros_stand : (tables : Tables) (blocks memory : List ℕ) (frames : TableFrames) → RootIsApart tables → AreZeros (frames_of tables) memory
    → Stands tables (number_of []) (leaves blocks []) [] (held_in frames memory)
zeros_stand tables blocks memory frames apart zeros = record {
  tree = root_alone tables;
  sound = alone_sound tables apart;
  says = alone_says tables (doubleword_at memory) (leaves blocks []) (no_leaf blocks)
      (λ f s own small. word_zero (frames_of tables) memory (512 * f + s) zeros (own_frame tables f s own small));
  counted = record {
    some = λ h k f low is. let a = low_place tables h k low in let b : None ≡ Some f = sym a ∙ is in absurd cc;
    none = λ h k low is. no_number_of h k;
    free = λ j inside zero_is. rw (ne_eqb (tables.first + j) tables.root (other_than_root tables.root (tables.first + j) tables.first tables.count apart (omega arith) (omega (arith, inside)))) refl;
  };
  index = λ i e h. absurd (omega (arith, h));
}
