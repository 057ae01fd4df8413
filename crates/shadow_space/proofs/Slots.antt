-- The doublewords of the frames of tables.
use Rattle.std.proofs.Common.{◌≡◌, ◌≢◌, ℕ, ◌+◌, ◌*◌, ◌/◌, ◌%◌, ◌<◌, ◌≤◌, ◌⊎◌, inl, inr, true, refl, sym, subst, ◌∙◌, arith}
use Rattle.std.proofs.lemmas.Bool.{eq-eqb, ne_eqb}
use Rattle.arch_defs.specs.Frames.{LieIn, within}
use Rattle.arch_defs.proofs.FrameSets.{in_range, left_within, right_within}
use Rattle.shadow_space.specs.declared.writing.Tables.{Tables}
use Rattle.shadow_space.specs.Trees.{IsOwn, RootIsApart, frames_of, slots}
use Rattle.table_words.proofs.Words.{same_or}

pub root_slots : (tables : Tables) (f : ℕ) → f ≡ tables.root → slots tables f ≡ 2048
root_slots tables f is = rw (eq-eqb f tables.root is) refl

pub other_slots : (tables : Tables) (f : ℕ) → f ≢ tables.root → slots tables f ≡ 512
other_slots tables f other = rw (ne_eqb f tables.root other) refl

-- the quotient and the rest of a number by the entries of a table
pub whole : (n : ℕ) → 512 * (n / 512) + n % 512 ≡ n
whole n = omega arith

-- the frame of a doubleword of the root, and of another frame
root_frame : (root s : ℕ) → s < 2048 → (root ≤ (512 * root + s) / 512) × ((512 * root + s) / 512 < root + 4)
root_frame root s h = (omega arith, omega arith)

other_frame : (f s : ℕ) → s < 512 → (512 * f + s) / 512 ≡ f
other_frame f s h = omega arith

pub own_frame : (tables : Tables) (f s : ℕ) → IsOwn tables f → s < slots tables f → frames_of tables ((512 * f + s) / 512) ≡ true
own_frame tables f s own h = by own (same_or f tables.root)
  where
    as_root : f ≡ tables.root → frames_of tables ((512 * f + s) / 512) ≡ true
    as_root is =
        let small : s < 2048 = omega (arith, root_slots tables f is) in
        let place = root_frame f s small in
        left_within (within tables.root 4) (within tables.first tables.count) ((512 * f + s) / 512)
        (in_range tables.root 4 ((512 * f + s) / 512) (omega (arith, is, place.0)) (omega (arith, is, place.1)))

    by : IsOwn tables f → (f ≡ tables.root) ⊎ (f ≢ tables.root) → frames_of tables ((512 * f + s) / 512) ≡ true
    by (inl is) way = as_root is
    by (inr range) (inl is) = as_root is
    by (inr range) (inr other) =
        let small : s < 512 = omega (arith, other_slots tables f other) in
        subst (λ n. frames_of tables n ≡ true) (sym (other_frame f s small))
        (right_within (within tables.root 4) (within tables.first tables.count) f (in_range tables.first tables.count f range.0 range.1))

-- it lies in memory where the frame does
word_ends : (i size : ℕ) → i / 512 * 4096 + 4096 ≤ size → 8 * i + 8 ≤ size
word_ends i size h = omega arith

pub own_room : (tables : Tables) (size f s : ℕ) → LieIn (frames_of tables) size → IsOwn tables f → s < slots tables f → 8 * (512 * f + s) + 8 ≤ size
own_room tables size f s lie own h = word_ends (512 * f + s) size (lie ((512 * f + s) / 512) (own_frame tables f s own h))

-- each doubleword is one of one frame
root_or_other : (root x s s' first count : ℕ) → (root + 4 ≤ first) ⊎ (first + count ≤ root) → first ≤ x → x < first + count → s < 2048 → s' < 512 → 512 * root + s ≡ 512 * x + s' → ⊥
root_or_other root x s s' first count (inl before) from to h h' same = omega arith
root_or_other root x s s' first count (inr after) from to h h' same = omega arith

pub other_than_root : (root x first count : ℕ) → (root + 4 ≤ first) ⊎ (first + count ≤ root) → first ≤ x → x < first + count → x ≢ root
other_than_root root x first count (inl before) from to = λ e. omega arith
other_than_root root x first count (inr after) from to = λ e. omega arith

pub same_place : (tables : Tables) (x y s s' : ℕ) → RootIsApart tables → IsOwn tables x → IsOwn tables y → s < slots tables x → s' < slots tables y → 512 * x + s ≡ 512 * y + s'
    → (x ≡ y) × (s ≡ s')
same_place tables x y s s' apart own own' h h' same = by own own'
  where
    by : IsOwn tables x → IsOwn tables y → (x ≡ y) × (s ≡ s')
    by (inl a) (inl b) = let e : x ≡ y = a ∙ sym b in (e, omega arith)
    by (inl a) (inr b) =
        let other = other_slots tables y (other_than_root tables.root y tables.first tables.count apart b.0 b.1) in
        absurd (root_or_other tables.root y s s' tables.first tables.count apart b.0 b.1 (omega (arith, root_slots tables x a, h)) (omega (arith, other, h')) (omega (arith, a, same)))
    by (inr a) (inl b) =
        let other = other_slots tables x (other_than_root tables.root x tables.first tables.count apart a.0 a.1) in
        absurd (root_or_other tables.root x s' s tables.first tables.count apart a.0 a.1 (omega (arith, root_slots tables y b, h')) (omega (arith, other, h)) (omega (arith, b, same)))
    by (inr a) (inr b) =
        let first = other_slots tables x (other_than_root tables.root x tables.first tables.count apart a.0 a.1) in
        let second = other_slots tables y (other_than_root tables.root y tables.first tables.count apart b.0 b.1) in
        let small : s < 512 = omega (arith, first, h) in
        let small' : s' < 512 = omega (arith, second, h') in
        (omega arith, omega arith)
