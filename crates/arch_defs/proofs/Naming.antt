-- The test that a part names no frame twice.
use Rattle.std.proofs.Common.{◌≡◌, ℕ, zero, suc, ◌+◌, ◌*◌, ◌/◌, ◌<◌, ◌≤◌, ◌⊎◌, inl, inr, Bool, true, false, not, ◌==◌, nat_le, List, [], ◌∷◌, length, slice_index, refl, sym, ap, arith}
use Rattle.std.specs.List.{list_any}
use Rattle.std.proofs.lemmas.Bool.{or_cases, both_ways, not-true, and_parts, leb-true, eqb-true, eq-eqb}
use Rattle.std.proofs.lemmas.List.Folds.{list_any_at}
use Rattle.guest_settings.specs.Needs.{tables_for}
use Rattle.arch_defs.specs.Frames.{in_blocks, within, joined, Apart}
use Rattle.arch_defs.specs.Layouts.{Layout, NamesEachOnce, are_distinct, blocks_are_apart, ranges_are_apart, names_each_once, root_frames, table_frames}
use Rattle.arch_defs.specs.Ram.{IsDistinct}
use Rattle.arch_defs.proofs.FrameSets.{ranges_apart, range_below, range_above, apart_sym}

pub distinct_by_test : (ns : List ℕ) → are_distinct ns ≡ true → IsDistinct ns
distinct_by_test [] passed i j i_in j_in same = absurd (omega (arith, i_in))
distinct_by_test (n ∷ ns) passed i j i_in j_in same =
    by (and_parts (not (list_any (λ m. m == n) ns)) (are_distinct ns) passed) (λ e. distinct_by_test ns e) i j i_in j_in same
  where
    by : (not (list_any (λ m. m == n) ns) ≡ true) × (are_distinct ns ≡ true) → (are_distinct ns ≡ true → IsDistinct ns)
        → (i j : ℕ) → i < length (n ∷ ns) → j < length (n ∷ ns) → slice_index (n ∷ ns) i ≡ slice_index (n ∷ ns) j → i ≡ j
    by parts below zero zero i_in j_in same = refl
    by parts below zero (suc j) i_in j_in same =
        absurd (both_ways (list_any (λ m. m == n) ns) (not-true _ parts.0)
        (list_any_at (λ m. m == n) ns j 0 (omega (arith, j_in)) (eq-eqb (slice_index ns j) n (sym same))))
    by parts below (suc i) zero i_in j_in same =
        absurd (both_ways (list_any (λ m. m == n) ns) (not-true _ parts.0)
        (list_any_at (λ m. m == n) ns i 0 (omega (arith, i_in)) (eq-eqb (slice_index ns i) n same)))
    by parts below (suc i) (suc j) i_in j_in same = ap suc (below parts.1 i j (omega (arith, i_in)) (omega (arith, j_in)) same)

pub ranges_by_test : (a m b n : ℕ) → ranges_are_apart a m b n ≡ true → Apart (within a m) (within b n)
ranges_by_test a m b n passed = by (or_cases _ _ passed)
  where
    by : (nat_le (a + m) b ≡ true) ⊎ (nat_le (b + n) a ≡ true) → Apart (within a m) (within b n)
    by (inl before) = ranges_apart a m b n (leb-true _ _ before)
    by (inr after) = apart_sym (within b n) (within a m) (ranges_apart b n a m (leb-true _ _ after))

-- a block's frames as a range
in_its_range : (b frame : ℕ) → b ≡ frame / 512 → (b * 512 ≤ frame) × (frame < b * 512 + 512)
in_its_range b frame e = (omega arith, omega arith)

pub blocks_by_test : (blocks : List ℕ) (first count : ℕ) → blocks_are_apart blocks first count ≡ true → Apart (in_blocks blocks) (within first count)
blocks_by_test [] first count passed frame named = absurd (both_ways false refl named)
blocks_by_test (b ∷ bs) first count passed frame named =
    by (and_parts _ _ passed) (or_cases (b == frame / 512) (in_blocks bs frame) named) (λ e. blocks_by_test bs first count e frame)
  where
    first_apart : (nat_le (b * 512 + 512) first ≡ true) ⊎ (nat_le (first + count) (b * 512) ≡ true) → (b * 512 ≤ frame) × (frame < b * 512 + 512) → within first count frame ≡ false
    first_apart (inl before) inside = range_below first count frame (omega (arith, leb-true _ _ before, inside.1))
    first_apart (inr after) inside = range_above first count frame (omega (arith, leb-true _ _ after, inside.0))

    by : (ranges_are_apart (b * 512) 512 first count ≡ true) × (blocks_are_apart bs first count ≡ true)
        → (((b == frame / 512) ≡ true) ⊎ (in_blocks bs frame ≡ true))
        → (blocks_are_apart bs first count ≡ true → in_blocks bs frame ≡ true → within first count frame ≡ false) → within first count frame ≡ false
    by parts (inl here) below = first_apart (or_cases _ _ parts.0) (in_its_range b frame (eqb-true b (frame / 512) here))
    by parts (inr there) below = below parts.1 there

-- apart from two sets is apart from both together
pub apart_joined : (a b c : ℕ → Bool) → Apart a b → Apart a c → Apart a (joined b c)
apart_joined a b c first second frame named = rw (first frame named, second frame named) refl

pub once_by_test : (part : Layout) → names_each_once part ≡ true → NamesEachOnce part
once_by_test part passed =
    let halves = and_parts _ _ passed in
    let lists = and_parts _ _ halves.0 in
    let others = and_parts _ _ halves.1 in
    let tables = and_parts _ _ others.1 in
    let blocks = and_parts _ _ tables.0 in
    record {
      few = leb-true _ _ lists.0;
      distinct = distinct_by_test part.blocks lists.1;
      aligned = eqb-true _ _ others.0;
      tables = apart_joined (in_blocks part.blocks) (root_frames part) (table_frames part)
          (blocks_by_test part.blocks part.first_root (4 * (1 + part.spaces)) blocks.0)
          (blocks_by_test part.blocks part.first_table (1 + part.spaces * (tables_for part.entries)) blocks.1);
      roots = ranges_by_test part.first_root (4 * (1 + part.spaces)) part.first_table (1 + part.spaces * (tables_for part.entries)) tables.1;
    }
