-- Counts of tables, and the frames that are free.
use Rattle.std.proofs.Common.{◌≡◌, ◌≢◌, ℕ, suc, ◌+◌, ◌-◌, ◌<◌, ◌≤◌, ◌⊎◌, inl, inr, not, cond, ◌==◌, List, [], ◌∷◌, length, get_or, slice_index, slice_set, replicate, refl, sym, ap, ◌∙◌, arith, length-set}
use Rattle.std.specs.List.{sum_by}
use Rattle.std.proofs.lemmas.Bool.{cases_lt, eq-eqb, ne_eqb}
use Rattle.std.proofs.lemmas.List.{get_or-replicate, get_or-set_same, get_or-set_other, get_or_past, length-replicate}
use Rattle.std.proofs.lemmas.List.Sums.{get_or-le-sum_by, sum_by-cons, sum_by-set, sum_by-le-sum_by}
use Rattle.shadow_space.specs.declared.frames.TableFrames.{TableFrames}
use Rattle.shadow_space.specs.Held.{IsKept, closed, fewer, more, next_free, opened}
use Rattle.shadow_space.specs.Trees.{most_tables}
use Rattle.guest_settings.specs.Limits.{most_entries}
use Rattle.table_words.proofs.Words.{same_or}

used_zero : (n : ℕ) → n ≡ 0 → ◌≡◌ {A = ℕ} (cond (not (n == 0)) 1 0) 0
used_zero n is = rw (eq-eqb n 0 is) refl

used_some : (n : ℕ) → n ≢ 0 → ◌≡◌ {A = ℕ} (cond (not (n == 0)) 1 0) 1
used_some n some = rw (ne_eqb n 0 some) refl

used_few : (n : ℕ) → cond (not (n == 0)) 1 0 ≤ n
used_few n = by (same_or n 0)
  where
    by : (n ≡ 0) ⊎ (n ≢ 0) → cond (not (n == 0)) 1 0 ≤ n
    by (inl is) = omega (arith, used_zero n is)
    by (inr some) = omega (arith, used_some n some)

-- where the counts are few, a frame is free
pub has_free : (frames : TableFrames) (count total : ℕ) → IsKept frames count total → total < count → 0 < frames.left
has_free frames count total kept room =
    let few = sum_by-le-sum_by (λ n. cond (not (n == 0)) 1 0) (λ n. n) frames.counts used_few in
    omega (arith, few, kept.all, kept.sums, room)

pub left_few : (frames : TableFrames) (count total : ℕ) → IsKept frames count total → frames.left ≤ count
left_few frames count total kept = omega (arith, kept.all)

-- a count that is not 0 is one of the frames'
pub counted_inside : (frames : TableFrames) (count total j : ℕ) → IsKept frames count total → 0 < slice_index frames.counts j → j < count
counted_inside frames count total j kept some = by (cases_lt j count)
  where
    by : (j < count) ⊎ (count ≤ j) → j < count
    by (inl h) = h
    by (inr past) = absurd (omega (arith, kept.beyond j past, some))

-- and no greater than their sum
pub counted_few : (frames : TableFrames) (count total j : ℕ) → IsKept frames count total → slice_index frames.counts j ≤ total
counted_few frames count total j kept = by (cases_lt j (length frames.counts))
  where
    by : (j < length frames.counts) ⊎ (length frames.counts ≤ j) → slice_index frames.counts j ≤ total
    by (inl inside) = let few = get_or-le-sum_by (λ n. n) frames.counts j 0 inside in omega (arith, few, kept.sums)
    by (inr past) = omega (arith, get_or_past frames.counts j 0 past)

-- so the free ones and this one are together no more than all
pub left_fewer : (frames : TableFrames) (count total j : ℕ) → IsKept frames count total → 0 < slice_index frames.counts j → frames.left < count
left_fewer frames count total j kept some =
    let inside = counted_inside frames count total j kept some in
    let set_zero = sum_by-set (λ n. cond (not (n == 0)) 1 0) frames.counts j 0 0 (omega (arith, kept.counts, kept.few, inside)) in
    let was = used_some (get_or frames.counts j 0) (λ e. omega (arith, e, some)) in
    omega (arith, set_zero, was, kept.all)

module _ (frames : TableFrames) (count total : ℕ) (kept : IsKept frames count total) where
  -- a count that is none of a free frame
  other_free : (i j : ℕ) → i < frames.left → 0 < slice_index frames.counts j → slice_index frames.free i ≢ j
  other_free i j h some is = omega (arith, ap (slice_index frames.counts) is, kept.zero i h, some)

  -- another count that is not 0, where there was one
  recounted : (j n total' : ℕ) → 0 < slice_index frames.counts j → 0 < n → total' + slice_index frames.counts j ≡ total + n
      → IsKept (record frames { counts = slice_set frames.counts j n }) count total'
  recounted j n total' some some' sums = record {
    counts = length-set frames.counts j n ∙ kept.counts;
    frees = kept.frees;
    places = kept.places;
    few = kept.few;
    beyond = λ i past. get_or-set_other frames.counts j i n 0 (λ e. omega (arith, e, past, counted_inside frames count total j kept some)) ∙ kept.beyond i past;
    below = kept.below;
    zero = λ i h. get_or-set_other frames.counts j (slice_index frames.free i) n 0 (other_free i j h some) ∙ kept.zero i h;
    distinct = kept.distinct;
    all =
        let uses = sum_by-set (λ n. cond (not (n == 0)) 1 0) frames.counts j n 0 inside in
        let was = used_some (get_or frames.counts j 0) (λ e. omega (arith, e, some)) in
        let is = used_some n (λ e. omega (arith, e, some')) in
        omega (arith, uses, was, is, kept.all);
    sums = let all = sum_by-set (λ n. n) frames.counts j n 0 inside in omega (arith, all, sums, kept.sums);
  }
    where
      inside : j < length frames.counts
      inside = omega (arith, kept.counts, kept.few, counted_inside frames count total j kept some)

  pub kept_more : (j : ℕ) → 0 < slice_index frames.counts j → IsKept (more frames j) count (total + 1)
  kept_more j some = recounted j (slice_index frames.counts j + 1) (total + 1) some (omega arith) (omega arith)

  pub kept_fewer : (j : ℕ) → 1 < slice_index frames.counts j → 0 < total → IsKept (fewer frames j) count (total - 1)
  kept_fewer j some positive = recounted j (slice_index frames.counts j - 1) (total - 1) (omega (arith, some)) (omega (arith, some)) (omega (arith, some, positive))

  pub kept_opened : 0 < frames.left → IsKept (opened frames) count (total + 1)
  kept_opened some = record {
    counts = length-set frames.counts (next_free frames) 1 ∙ kept.counts;
    frees = kept.frees;
    places = kept.places;
    few = kept.few;
    beyond = λ i past. get_or-set_other frames.counts (next_free frames) i 1 0 (λ e. omega (arith, e, past, below_all)) ∙ kept.beyond i past;
    below = λ i h. kept.below i (omega (arith, h));
    zero = λ i h. get_or-set_other frames.counts (next_free frames) (slice_index frames.free i) 1 0
        (λ e. omega (arith, kept.distinct i (frames.left - 1) (omega (arith, h)) (omega (arith, some)) e, h))
        ∙ kept.zero i (omega (arith, h));
    distinct = λ i j h h' same. kept.distinct i j (omega (arith, h)) (omega (arith, h')) same;
    all =
        let uses = sum_by-set (λ n. cond (not (n == 0)) 1 0) frames.counts (next_free frames) 1 0 inside in
        let was = used_zero (get_or frames.counts (next_free frames) 0) none in
        omega (arith, uses, was, kept.all, some);
    sums = let all = sum_by-set (λ n. n) frames.counts (next_free frames) 1 0 inside in omega (arith, all, none, kept.sums);
  }
    where
      below_all : next_free frames < count
      below_all = kept.below (frames.left - 1) (omega (arith, some))

      inside : next_free frames < length frames.counts
      inside = omega (arith, below_all, kept.few, kept.counts)

      none : get_or frames.counts (next_free frames) 0 ≡ 0
      none = kept.zero (frames.left - 1) (omega (arith, some))

  pub kept_closed : (j : ℕ) → slice_index frames.counts j ≡ 1 → j < count → 0 < total → IsKept (closed frames j) count (total - 1)
  kept_closed j one own positive = record {
    counts = length-set frames.counts j 0 ∙ kept.counts;
    frees = length-set frames.free frames.left j ∙ kept.frees;
    places = kept.places;
    few = kept.few;
    beyond = λ i past. get_or-set_other frames.counts j i 0 0 (λ e. omega (arith, e, past, own)) ∙ kept.beyond i past;
    below = λ i h. below i h (same_or i frames.left);
    zero = λ i h. zeroed i h (same_or i frames.left);
    distinct = λ i i' h h' same. distinct i i' h h' same (same_or i frames.left) (same_or i' frames.left);
    all =
        let uses = sum_by-set (λ n. cond (not (n == 0)) 1 0) frames.counts j 0 0 inside in
        let was = used_some (get_or frames.counts j 0) (λ e. omega (arith, e, one)) in
        omega (arith, uses, was, kept.all);
    sums = let all = sum_by-set (λ n. n) frames.counts j 0 0 inside in omega (arith, all, one, kept.sums, positive);
  }
    where
      some : 0 < slice_index frames.counts j
      some = omega (arith, one)

      inside : j < length frames.counts
      inside = omega (arith, kept.counts, kept.few, counted_inside frames count total j kept some)

      room : frames.left < length frames.free
      room = omega (arith, left_fewer frames count total j kept some, kept.few, kept.frees)

      last : (i : ℕ) → i ≡ frames.left → slice_index (slice_set frames.free frames.left j) i ≡ j
      last i is = ap (slice_index (slice_set frames.free frames.left j)) is ∙ get_or-set_same frames.free frames.left j 0 room

      before : (i : ℕ) → i ≢ frames.left → slice_index (slice_set frames.free frames.left j) i ≡ slice_index frames.free i
      before i other = get_or-set_other frames.free frames.left i j 0 other

      below : (i : ℕ) → i < frames.left + 1 → (i ≡ frames.left) ⊎ (i ≢ frames.left) → slice_index (slice_set frames.free frames.left j) i < count
      below i h (inl is) = omega (arith, last i is, own)
      below i h (inr other) = omega (arith, before i other, kept.below i (omega (arith, h, other)))

      zeroed : (i : ℕ) → i < frames.left + 1 → (i ≡ frames.left) ⊎ (i ≢ frames.left) → slice_index (slice_set frames.counts j 0) (slice_index (slice_set frames.free frames.left j) i) ≡ 0
      zeroed i h (inl is) = ap (slice_index (slice_set frames.counts j 0)) (last i is) ∙ get_or-set_same frames.counts j 0 0 inside
      zeroed i h (inr other) =
          ap (slice_index (slice_set frames.counts j 0)) (before i other)
          ∙ get_or-set_other frames.counts j (slice_index frames.free i) 0 0 (other_free i j (omega (arith, h, other)) some)
          ∙ kept.zero i (omega (arith, h, other))

      distinct : (i i' : ℕ) → i < frames.left + 1 → i' < frames.left + 1 → slice_index (slice_set frames.free frames.left j) i ≡ slice_index (slice_set frames.free frames.left j) i'
          → (i ≡ frames.left) ⊎ (i ≢ frames.left) → (i' ≡ frames.left) ⊎ (i' ≢ frames.left) → i ≡ i'
      distinct i i' h h' same (inl is) (inl is') = is ∙ sym is'
      distinct i i' h h' same (inl is) (inr other) =
          absurd (other_free i' j (omega (arith, h', other)) some (sym (before i' other) ∙ sym same ∙ last i is))
      distinct i i' h h' same (inr other) (inl is) =
          absurd (other_free i j (omega (arith, h, other)) some (sym (before i other) ∙ same ∙ last i' is))
      distinct i i' h h' same (inr other) (inr other') =
          kept.distinct i i' (omega (arith, h, other)) (omega (arith, h', other')) (sym (before i other) ∙ same ∙ before i' other')

-- without tables
sum_zero : (f : ℕ → ℕ) (xs : List ℕ) → f 0 ≡ 0 → ((i : ℕ) → slice_index xs i ≡ 0) → sum_by f xs ≡ 0
sum_zero f [] none zeros = refl
sum_zero f (x ∷ xs) none zeros =
    let first : x ≡ 0 = zeros 0 in
    let one : f x ≡ 0 = ap f first ∙ none in
    sum_by-cons f x xs ∙ omega (arith, one, sum_zero f xs none (λ i. zeros (suc i)))

pub kept_new : (counts free places : List ℕ) (count : ℕ) → count ≤ most_tables → length counts ≡ most_tables → length free ≡ most_tables → length places ≡ most_entries → ((i : ℕ) → slice_index counts i ≡ 0)
    → ((i : ℕ) → i < count → slice_index free i ≡ count - (i + 1)) → IsKept (record { counts = counts; free = free; left = count; places = places }) count 0
kept_new counts free places count few size size' size'' zeros numbers = record {
  counts = size;
  frees = size';
  places = size'';
  few = few;
  beyond = λ j past. zeros j;
  below = λ i h. omega (arith, numbers i h, h);
  zero = λ i h. zeros (slice_index free i);
  distinct = λ i j h h' same. omega (arith, numbers i h, numbers j h', same, h, h');
  all = let none = sum_zero (λ n. cond (not (n == 0)) 1 0) counts refl zeros in omega (arith, none);
  sums = sum_zero (λ n. n) counts refl zeros;
}

-- the numbers of frames, the greatest first
each : (numbers : List ℕ) (count i : ℕ) → i < count → count ≤ length numbers → ((k : ℕ) → k < i → slice_index numbers k ≡ count - (k + 1))
    → (k : ℕ) → k < i + 1 → slice_index (slice_set numbers i (count - 1 - i)) k ≡ count - (k + 1)
each numbers count i inside few before k h = by (same_or k i)
  where
    by : (k ≡ i) ⊎ (k ≢ i) → slice_index (slice_set numbers i (count - 1 - i)) k ≡ count - (k + 1)
    by (inl is) =
        let one : count - 1 - i ≡ count - (k + 1) = omega (arith, is) in
        ap (slice_index (slice_set numbers i (count - 1 - i))) is ∙ get_or-set_same numbers i (count - 1 - i) 0 (omega (arith, inside, few)) ∙ one
    by (inr other) = get_or-set_other numbers i k (count - 1 - i) 0 other ∙ before k (omega (arith, h, other))

pub numbers_more : (numbers : List ℕ) (count i : ℕ) → i < count → count ≤ most_tables → length numbers ≡ most_tables → ((k : ℕ) → k < i → slice_index numbers k ≡ count - (k + 1))
    → (length (slice_set numbers i (count - 1 - i)) ≡ most_tables) × ((k : ℕ) → k < i + 1 → slice_index (slice_set numbers i (count - 1 - i)) k ≡ count - (k + 1))
numbers_more numbers count i inside few size before = (length-set numbers i (count - 1 - i) ∙ size, λ k h. each numbers count i inside (omega (arith, few, size)) before k h)

pub no_count : (n i : ℕ) → slice_index (replicate n 0) i ≡ 0
no_count n i = by (cases_lt i n)
  where
    by : (i < n) ⊎ (n ≤ i) → get_or {A = ℕ} (replicate n 0) i 0 ≡ 0
    by (inl before) = get_or-replicate n i 0 0 before
    by (inr past) = get_or_past (replicate n 0) i 0 (omega (arith, length-replicate {A = ℕ} n 0, past))
