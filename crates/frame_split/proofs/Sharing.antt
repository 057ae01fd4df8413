-- The loop that makes the parts.
use Rattle.std.proofs.Common.{◌≡◌, ℕ, ◌+◌, ◌*◌, ◌%◌, ◌<◌, ◌≤◌, ◌⊎◌, inl, inr, true, List, [], ◌∷◌, ◌++◌, length, get_or, drop, refl, sym, ap, subst, ◌∙◌, arith}
use Rattle.std.proofs.lemmas.Bool.{cases_lt, or_cases}
use Rattle.std.proofs.lemmas.List.{get_or_append_left, get_or_push, length_push, get_or_default}
use Rattle.guest_settings.specs.declared.needs.Need.{Need}
use Rattle.arch_defs.specs.Frames.{Apart}
use Rattle.arch_defs.specs.Layouts.{Layout, NamesEachOnce, named_by, in_tables, root_frames, table_frames, Meets}
use Rattle.guest_settings.specs.Needs.{tables_for}
use Rattle.arch_defs.proofs.FrameSets.{apart_sym}
use Rattle.frame_split.specs.declared.planning.Free.{Free}
use Rattle.frame_split.specs.Shares.{ArePairwiseApart, BlocksLieBelow, IsSplit, LiesBetween, IsOrdered, RootsLieFrom, SoFar, after_need, blocks_of_all, roots_of_all, tables_of_all}
use Rattle.frame_split.proofs.Between.{parts_apart, between_wider, between_later, between_lies, blocks_between, roots_between, tables_between}
use Rattle.frame_split.proofs.Sums.{blocks_more, roots_more, tables_more}

-- what holds of each part so far, and of the next one, holds of all of them
each_push : (P : Layout → Type 0) (parts : List Layout) (part : Layout) → ((i : ℕ) (d : Layout) → i < length parts → P (get_or parts i d)) → P part
    → (i : ℕ) (d : Layout) → i < length parts + 1 → P (get_or (parts ++ part ∷ []) i d)
each_push P parts part each next i d h = by (cases_lt i (length parts))
  where
    by : (i < length parts) ⊎ (length parts ≤ i) → P (get_or (parts ++ part ∷ []) i d)
    by (inl before) = subst P (sym (get_or_append_left parts (part ∷ []) d i before)) (each i d before)
    by (inr last) =
        let e : length parts ≡ i = omega (arith, last, h) in
        subst P (sym (get_or_push parts part d i e)) next

-- and a relation of each two of them
pairs_push : (parts : List Layout) (part : Layout) → ArePairwiseApart parts → ((i : ℕ) (d : Layout) → i < length parts → Apart (named_by (get_or parts i d)) (named_by part))
    → ArePairwiseApart (parts ++ part ∷ [])
pairs_push parts part pairs next i j d i_in j_in apart = by (cases_lt i (length parts)) (cases_lt j (length parts))
  where
    whole : length (parts ++ part ∷ []) ≡ length parts + 1
    whole = length_push parts part

    first : (k : ℕ) → k < length parts → get_or (parts ++ part ∷ []) k d ≡ get_or parts k d
    first k h = get_or_append_left parts (part ∷ []) d k h

    last : (k : ℕ) → length parts ≡ k → get_or (parts ++ part ∷ []) k d ≡ part
    last k e = get_or_push parts part d k e

    by : (i < length parts) ⊎ (length parts ≤ i) → (j < length parts) ⊎ (length parts ≤ j)
        → Apart (named_by (get_or (parts ++ part ∷ []) i d)) (named_by (get_or (parts ++ part ∷ []) j d))
    by (inl a) (inl b) = rw (first i a, first j b) (pairs i j d a b apart)
    by (inl a) (inr b) = let e : length parts ≡ j = omega (arith, b, j_in, whole) in rw (first i a, last j e) (next i d a)
    by (inr a) (inl b) =
        let e : length parts ≡ i = omega (arith, a, i_in, whole) in rw (last i e, first j b) (apart_sym (named_by (get_or parts j d)) (named_by part) (next j d b))
    by (inr a) (inr b) = absurd (apart (omega (arith, a, b, i_in, j_in, whole)))

pub so_far_none : (needs : List Need) (start : Free) (frames : ℕ) → 512 * (start.block + blocks_of_all needs) ≤ start.root
    → start.root + 4 * roots_of_all needs ≤ start.table → start.table + tables_of_all needs ≤ frames → start.root % 4 ≡ 0 → SoFar needs 0 [] start start frames
so_far_none needs start frames blocks roots tables aligned = record {
  count = refl;
  meet = λ i n d h. absurd (omega (arith, h));
  apart = λ i j d h. absurd (omega (arith, h));
  once = λ i d h. absurd (omega (arith, h));
  between = λ i d h. absurd (omega (arith, h));
  ends = refl;
  blocks = blocks;
  roots = roots;
  tables = tables;
  aligned = aligned;
  from = (omega arith, omega arith, omega arith);
}

pub so_far_more : (needs : List Need) (i : ℕ) (parts : List Layout) (start free : Free) (frames : ℕ) (need : Need) (part : Layout) → SoFar needs i parts start free frames
    → i < length needs → need ≡ get_or needs i need → Meets need part → NamesEachOnce part → LiesBetween free (after_need need free) part
    → SoFar needs (i + 1) (parts ++ part ∷ []) start (after_need need free) frames
so_far_more needs i parts start free frames need part so h is meets once between = record {
  count = length_push parts part ∙ ap (λ n. n + 1) so.count;
  meet = meet;
  apart = pairs_push parts part so.apart (λ k d k_in. parts_apart start free (after_need need free) (get_or parts k d) part order (so.between k d (omega (arith, k_in, so.count))) between so.from on);
  once = λ k d k_in. each_push NamesEachOnce parts part (λ m e m_in. so.once m e (omega (arith, m_in, so.count))) once k d (omega (arith, k_in, so.count));
  between = λ k d k_in. each_push (LiesBetween start (after_need need free)) parts part
      (λ m e m_in. between_wider start free (after_need need free) (get_or parts m e) on (so.between m e (omega (arith, m_in, so.count))))
      (between_later start free (after_need need free) part so.from between) k d (omega (arith, k_in, so.count));
  ends = omega (arith, so.ends, block_step);
  blocks = omega (arith, so.blocks, block_step);
  roots = omega (arith, so.roots, root_step);
  tables = omega (arith, so.tables, table_step);
  aligned = omega (arith, so.aligned);
  from = (omega (arith, so.from.0), omega (arith, so.from.1), omega (arith, so.from.2));
}
  where
    block_step : blocks_of_all (drop i needs) ≡ need.blocks + blocks_of_all (drop (i + 1) needs)
    block_step = blocks_more needs i need h ∙ ap (λ n. n.blocks + blocks_of_all (drop (i + 1) needs)) (sym is)

    root_step : roots_of_all (drop i needs) ≡ 1 + need.spaces + roots_of_all (drop (i + 1) needs)
    root_step = roots_more needs i need h ∙ ap (λ n. 1 + n.spaces + roots_of_all (drop (i + 1) needs)) (sym is)

    table_step : tables_of_all (drop i needs) ≡ 1 + need.spaces * tables_for need.entries + tables_of_all (drop (i + 1) needs)
    table_step = tables_more needs i need h ∙ ap (λ n. 1 + n.spaces * tables_for n.entries + tables_of_all (drop (i + 1) needs)) (sym is)

    on : (free.block ≤ free.block + need.blocks) × (free.root ≤ free.root + 4 * (1 + need.spaces)) × (free.table ≤ free.table + (1 + need.spaces * tables_for need.entries))
    on = (omega arith, omega arith, omega arith)

    order : IsOrdered start (after_need need free)
    order = record { blocks = omega (arith, so.blocks, block_step); roots = omega (arith, so.roots, root_step) }

    meet : (k : ℕ) (n : Need) (d : Layout) → k < i + 1 → Meets (get_or needs k n) (get_or (parts ++ part ∷ []) k d)
    meet k n d k_in = by (cases_lt k i)
      where
        by : (k < i) ⊎ (i ≤ k) → Meets (get_or needs k n) (get_or (parts ++ part ∷ []) k d)
        by (inl before) = rw (get_or_append_left parts (part ∷ []) d k (omega (arith, before, so.count))) (so.meet k n d before)
        by (inr last) =
            let e : i ≡ k = omega (arith, last, k_in) in
            let there : get_or needs k n ≡ need = ap (λ m. get_or needs m n) (sym e) ∙ get_or_default needs i n need h ∙ sym is in
            rw (there, get_or_push parts part d k (so.count ∙ e)) meets

pub so_far_all : (needs : List Need) (parts : List Layout) (start free : Free) (frames : ℕ) → SoFar needs (length needs) parts start free frames → IsSplit needs parts frames
so_far_all needs parts start free frames so = record {
  count = so.count;
  meet = so.meet;
  apart = so.apart;
  sound = λ i d h. (
    so.once i d (omega (arith, h, so.count)),
    between_lies start free (get_or parts i d) frames order so.from.1 so.from.2 (omega (arith, so.tables)) (so.between i d (omega (arith, h, so.count))),
  );
  blocks_first = λ i j f g d i_in j_in in_f in_g.
      before f g (blocks_between start free (get_or parts i d) f (so.between i d (omega (arith, i_in, so.count))) in_f)
      (table_after j d g (so.between j d (omega (arith, j_in, so.count))) in_g);
  roots_next = λ i j f g d i_in j_in in_f in_g.
      let a = roots_between start free (get_or parts i d) f (so.between i d (omega (arith, i_in, so.count))) in_f in
      let b = tables_between start free (get_or parts j d) g (so.between j d (omega (arith, j_in, so.count))) in_g in
      omega (arith, a.1, b.0, order.roots);
}
  where
    order : IsOrdered start free
    order = record { blocks = omega (arith, so.blocks); roots = omega (arith, so.roots) }

    before : (f g : ℕ) → (512 * start.block ≤ f) × (f < 512 * free.block) → start.root ≤ g → f < g
    before f g in_f in_g = omega (arith, in_f.1, in_g, order.blocks)

    table_after : (j : ℕ) (d : Layout) (g : ℕ) → LiesBetween start free (get_or parts j d) → in_tables (get_or parts j d) g ≡ true → start.root ≤ g
    table_after j d g lies named = by (or_cases (root_frames (get_or parts j d) g) (table_frames (get_or parts j d) g) named)
      where
        by : (root_frames (get_or parts j d) g ≡ true) ⊎ (table_frames (get_or parts j d) g ≡ true) → start.root ≤ g
        by (inl h) = let x = roots_between start free (get_or parts j d) g lies h in x.0
        by (inr h) =
            let x = tables_between start free (get_or parts j d) g lies h in omega (arith, x.0, order.roots, so.from.1)

-- the blocks end behind all needs, and the roots begin at the start's
pub blocks_below : (needs : List Need) (parts : List Layout) (start free : Free) (frames : ℕ) → SoFar needs (length needs) parts start free frames
    → BlocksLieBelow (start.block + blocks_of_all needs) parts
blocks_below needs parts start free frames so i j d h inside =
    let lies = so.between i d (omega (arith, h, so.count)) in
    let below = lies.blocks_to j inside in
    omega (arith, below, so.ends)

pub roots_from : (needs : List Need) (parts : List Layout) (start free : Free) (frames : ℕ) → SoFar needs (length needs) parts start free frames
    → RootsLieFrom start.root parts
roots_from needs parts start free frames so i d h = let lies = so.between i d (omega (arith, h, so.count)) in lies.roots_from
