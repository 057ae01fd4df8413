-- Flags of blocks and of guests.
use Rattle.std.proofs.Common.{◌≡◌, ◌≢◌, ℕ, zero, suc, ◌+◌, ◌<◌, ◌≤◌, ◌⊎◌, inl, inr, Bool, true, false, cond, List, [], ◌∷◌, Some, None, length, nat_lt, set, replicate, slice_index, refl, sym, ap, ◌∙◌, arith, length-set}
use Rattle.std.specs.List.{position}
use Rattle.std.proofs.lemmas.Bool.{both_ways, cases_eq, cases_lt, ltb-false, ltb-true}
use Rattle.std.proofs.lemmas.List.{get_or-set_other, get_or-set_same, get_or_past, length-replicate}
use Rattle.std.proofs.lemmas.List.Folds.{sum_by-replicate}
use Rattle.std.proofs.lemmas.List.Sums.{fails_before_first, passes_at_first, sum_by-cons, sum_by-set}
use Rattle.arch_defs.specs.Frames.{within}
use Rattle.arch_defs.specs.Ram.{IsDistinct}
use Rattle.arch_defs.proofs.FrameSets.{in_range, range_above, range_below}
use Rattle.guest_turns.specs.Hosted.{count_set, is_set, lowest, with_free}

abbrev one : Bool → ℕ
one flag = cond flag 1 0

-- a flag that is set, and how many are
set_counted : (flags : List Bool) (i : ℕ) (flag : Bool) → i < length flags → count_set (set flags i flag) + one (is_set flags i) ≡ count_set flags + one flag
set_counted flags i flag h = sum_by-set (λ flag. cond flag 1 0) flags i flag false h

pub one_more : (flags : List Bool) (i : ℕ) → i < length flags → is_set flags i ≡ false → count_set (set flags i true) ≡ count_set flags + 1
one_more flags i h was =
    let counted : count_set (set flags i true) + one (is_set flags i) ≡ count_set flags + 1 = set_counted flags i true h in
    let none : one (is_set flags i) ≡ 0 = ap one was in
    omega (arith, counted, none)

one_less : (flags : List Bool) (i : ℕ) → i < length flags → is_set flags i ≡ true → count_set (set flags i false) + 1 ≡ count_set flags
one_less flags i h was =
    let counted : count_set (set flags i false) + one (is_set flags i) ≡ count_set flags + 0 = set_counted flags i false h in
    let some : one (is_set flags i) ≡ 1 = ap one was in
    omega (arith, counted, some)

-- one in place of another
pub one_for_another : (flags : List Bool) (i j : ℕ) → i < length flags → j < length flags → is_set flags i ≡ true → is_set flags j ≡ false
    → count_set (set (set flags i false) j true) ≡ count_set flags
one_for_another flags i j i_in j_in was free =
    let other : j ≢ i = λ same. both_ways (is_set flags i) (ap (is_set flags) (sym same) ∙ free) was in
    let inside : j < length (set flags i false) = omega (arith, j_in, length-set flags i false) in
    omega (arith, one_more (set flags i false) j inside (get_or-set_other flags i j false false other ∙ free), one_less flags i i_in was)

-- past the end no flag is set
pub set_inside : (flags : List Bool) (i : ℕ) → is_set flags i ≡ true → i < length flags
set_inside flags i is = by (cases_lt i (length flags))
  where
    by : (i < length flags) ⊎ (length flags ≤ i) → i < length flags
    by (inl inside) = inside
    by (inr past) = absurd (both_ways (is_set flags i) (get_or_past flags i false past) is)

-- blocks that are given back
later_distinct : (block : ℕ) (blocks : List ℕ) → IsDistinct (block ∷ blocks) → IsDistinct blocks
later_distinct block blocks distinct i j i_in j_in same =
    let equal = distinct (suc i) (suc j) (omega (arith, i_in)) (omega (arith, j_in)) same in omega (arith, equal)

pub freed_counted : (blocks : List ℕ) (flags : List Bool) → ((i : ℕ) → i < length blocks → slice_index blocks i < length flags)
    → ((i : ℕ) → i < length blocks → is_set flags (slice_index blocks i) ≡ false) → IsDistinct blocks → count_set (with_free blocks flags) ≡ count_set flags + length blocks
freed_counted [] flags inside free distinct = omega arith
freed_counted (block ∷ blocks) flags inside free distinct =
    let first = one_more flags block (inside 0 (omega arith)) (free 0 (omega arith)) in
    let rest = freed_counted blocks (set flags block true)
    (λ i h. let fits = inside (suc i) (omega (arith, h)) in omega (arith, fits, length-set flags block true))
    (λ i h. get_or-set_other flags block (slice_index blocks i) true false (λ same. absurd (differs i h same)) ∙ free (suc i) (omega (arith, h)))
    (later_distinct block blocks distinct) in
    omega (arith, first, rest)
  where
    differs : (i : ℕ) → i < length blocks → slice_index blocks i ≡ block → ⊥
    differs i h same = let equal = distinct (suc i) 0 (omega (arith, h)) (omega arith) same in omega (arith, equal)

-- a flag that is set then was set, or is one of theirs
pub freed : (blocks : List ℕ) (flags : List Bool) (b : ℕ) → is_set (with_free blocks flags) b ≡ true
    → (is_set flags b ≡ true) ⊎ ((i : ℕ) × (i < length blocks) × (slice_index blocks i ≡ b))
freed [] flags b is = inl is
freed (block ∷ blocks) flags b is = by (freed blocks (set flags block true) b is) (cases_eq b block)
  where
    by : (is_set (set flags block true) b ≡ true) ⊎ ((i : ℕ) × (i < length blocks) × (slice_index blocks i ≡ b)) → (b ≡ block) ⊎ (b ≢ block)
        → (is_set flags b ≡ true) ⊎ ((i : ℕ) × (i < length (block ∷ blocks)) × (slice_index (block ∷ blocks) i ≡ b))
    by (inr (i, few, at)) way = inr (suc i, omega (arith, few), at)
    by (inl was) (inl same) = inr (0, omega arith, sym same)
    by (inl was) (inr other) = inl (sym (get_or-set_other flags block b true false other) ∙ was)

-- no flag of a list of none
pub none_set : (n i : ℕ) → is_set (replicate n false) i ≡ false
none_set zero i = refl
none_set (suc n) zero = refl
none_set (suc n) (suc i) = none_set n i

pub none_counted : (n : ℕ) → count_set (replicate n false) ≡ 0
none_counted n = omega (arith, sum_by-replicate one n false)

-- where none is set, none is counted, and where one is, some are
pub all_clear : (flags : List Bool) → ((i : ℕ) → i < length flags → is_set flags i ≡ false) → count_set flags ≡ 0
all_clear [] clear = refl
all_clear (flag ∷ flags) clear =
    let first : one flag ≡ 0 = ap one (clear 0 (omega arith)) in
    omega (arith, sum_by-cons one flag flags, first, all_clear flags (λ i h. clear (suc i) (omega (arith, h))))

pub some_counted : (flags : List Bool) (i : ℕ) → is_set flags i ≡ true → count_set flags ≡ 0 → ⊥
some_counted flags i is none = omega (arith, one_less flags i (set_inside flags i is) is, none)

-- the first one that is set is where a search finds one; a search finds none where none is set
pub lowest_found : (flags : List Bool) (i : ℕ) → position (λ flag. flag) flags ≡ Some i → (i ≡ lowest flags) × (is_set flags i ≡ true)
lowest_found flags i is = by (nat_lt (lowest flags) (length flags)) refl is
  where
    by : (b : Bool) → nat_lt (lowest flags) (length flags) ≡ b → cond b (Some (lowest flags)) None ≡ Some i → (i ≡ lowest flags) × (is_set flags i ≡ true)
    by true below is =
        let same : lowest flags ≡ i = cc in
        (sym same, rw same at (passes_at_first (λ flag. flag) flags false (ltb-true (lowest flags) (length flags) below)))
    by false above is = absurd cc

pub none_found : (flags : List Bool) → position (λ flag. flag) flags ≡ None → count_set flags ≡ 0
none_found flags is = by (nat_lt (lowest flags) (length flags)) refl is
  where
    by : (b : Bool) → nat_lt (lowest flags) (length flags) ≡ b → cond b (Some (lowest flags)) None ≡ None → count_set flags ≡ 0
    by true below is = absurd cc
    by false above is =
        let high = ltb-false (lowest flags) (length flags) above in
        all_clear flags (λ i h. fails_before_first (λ flag. flag) flags i false (omega (arith, h, high)))

-- flags from one on, one by one
pub record AreSetFrom (first i : ℕ) (flags : List Bool) : Type 0 where
  pub flags_are : (b : ℕ) → is_set flags b ≡ within first i b
  pub count : count_set flags ≡ i
  pub size : length flags ≡ 256

pub set_none : (first : ℕ) → AreSetFrom first 0 (replicate 256 false)
set_none first = record {
  flags_are = λ b. none_set 256 b ∙ sym (nothing b);
  count = none_counted 256;
  size = length-replicate 256 false;
}
  where
    nothing : (b : ℕ) → within first 0 b ≡ false
    nothing b = by (cases_lt b first)
      where
        by : (b < first) ⊎ (first ≤ b) → within first 0 b ≡ false
        by (inl below) = range_below first 0 b below
        by (inr above) = range_above first 0 b (omega (arith, above))

pub set_next : (first i : ℕ) (flags : List Bool) → AreSetFrom first i flags → first + i < 256 → AreSetFrom first (i + 1) (set flags (first + i) true)
set_next first i flags so fits = record {
  flags_are = λ b. by b (cases_eq b (first + i));
  count = one_more flags (first + i) inside (so.flags_are (first + i) ∙ range_above first i (first + i) (omega arith)) ∙ ap (λ n. n + 1) so.count;
  size = length-set flags (first + i) true ∙ so.size;
}
  where
    inside : first + i < length flags
    inside = omega (arith, fits, so.size)

    same_range : (b : ℕ) → b ≢ first + i → within first i b ≡ within first (i + 1) b
    same_range b other = way (cases_lt b first) (cases_lt b (first + i))
      where
        way : (b < first) ⊎ (first ≤ b) → (b < first + i) ⊎ (first + i ≤ b) → within first i b ≡ within first (i + 1) b
        way (inl below) place = range_below first i b below ∙ sym (range_below first (i + 1) b below)
        way (inr from) (inl to) = in_range first i b from to ∙ sym (in_range first (i + 1) b from (omega (arith, to)))
        way (inr from) (inr above) = range_above first i b above ∙ sym (range_above first (i + 1) b (omega (arith, above, other)))

    by : (b : ℕ) → (b ≡ first + i) ⊎ (b ≢ first + i) → is_set (set flags (first + i) true) b ≡ within first (i + 1) b
    by b (inl is) =
        ap (is_set (set flags (first + i) true)) is ∙ get_or-set_same flags (first + i) true false inside
        ∙ sym (in_range first (i + 1) b (omega (arith, is)) (omega (arith, is)))
    by b (inr other) = get_or-set_other flags (first + i) b true false other ∙ so.flags_are b ∙ same_range b other
