-- New tables of a part.
use Rattle.std.proofs.Common.{◌≡◌, ℕ, ◌+◌, ◌/◌, ◌<◌, ◌≤◌, ◌⊎◌, inl, inr, List, [], ◌∷◌, ◌++◌, length, get_or, sym, ap, subst, ◌∙◌, arith}
use Rattle.std.proofs.lemmas.Bool.{both_ways, cases_lt}
use Rattle.std.proofs.lemmas.List.{get_or_append_left, get_or_push, length_push}
use Rattle.arch_defs.specs.Frames.{LieIn}
use Rattle.arch_defs.specs.Layouts.{Layout, NamesEachOnce}
use Rattle.shadow_space.specs.Shadows.{AreZeros}
use Rattle.shadow_pool.specs.declared.slots.Slot.{Slot}
use Rattle.shadow_pool.specs.Slots.{ArePooled, AreSlots, AreSpare, AreTidy, ComesBefore, IsSpare, TidyPool, has_key, key_is, most_of, part_of, spaces_in, table_frames_for}
use Rattle.shadow_pool.proofs.Entering.{all_spare}
use Rattle.shadow_pool.proofs.Fronting.{as_first}
use Rattle.shadow_pool.proofs.Tidying.{space_within}

-- one more
pub spare_more : (part : Layout) (most i : ℕ) (slots : List Slot) (slot : Slot) → AreSpare part most i slots → IsSpare part most i slot → AreSpare part most (i + 1) (slots ++ slot ∷ [])
spare_more part most i slots slot are is = record {
  number = let count = are.number in length_push slots slot ∙ ap (λ n. n + 1) count;
  each = λ k d h. by k d h (cases_lt k (length slots));
}
  where
    by : (k : ℕ) (d : Slot) → k < length (slots ++ slot ∷ []) → (k < length slots) ⊎ (length slots ≤ k) → IsSpare part most k (get_or (slots ++ slot ∷ []) k d)
    by k d h (inl before) = subst (IsSpare part most k) (sym (get_or_append_left slots (slot ∷ []) d k before)) (are.each k d before)
    by k d h (inr after) =
        let count = are.number in
        let last : length slots ≡ k = omega (arith, h, after, length_push slots slot) in
        subst (IsSpare part most k) (sym (get_or_push slots slot d k last)) (subst (λ n. IsSpare part most n slot) (sym count ∙ last) is)

module _ (part : Layout) (most count : ℕ) (slots : List Slot) (are : AreSpare part most count slots) where
  -- they are tables of a pool, without spaces
  spare_pair : (i j : ℕ) (d : Slot) → i < j → j < length slots → ComesBefore (get_or slots i d) (get_or slots j d)
  spare_pair i j d before h =
      let a = are.each i d (omega (arith, before, h)) in
      let b = are.each j d h in
      record {
        index = λ same. let equal : i ≡ j = sym a.index ∙ same ∙ b.index in omega (arith, equal, before);
        key = λ key is. absurd (both_ways (has_key key (get_or slots i d)) (ap (key_is key) a.key) is);
        spare = λ none. b.key;
      }

  spare_are : 1 ≤ count → count ≤ part.spaces → NamesEachOnce part → AreSlots part most slots
  spare_are some own once =
      let number = are.number in
      record {
        some = omega (arith, some, number);
        own = omega (arith, own, number);
        once = once;
        each = λ k d h. let one = are.each k d h in record { part = one.part; most = one.most; index = subst (λ n. n < length slots) (sym one.index) h };
        order = spare_pair;
      }

  pub spare_pooled : 1 ≤ count → count ≤ part.spaces → NamesEachOnce part → ArePooled slots
  spare_pooled some own once =
      let slots_are = spare_are some own once in
      let first = as_first part most slots slots_are in
      subst (λ p. AreSlots p (most_of slots) slots) (sym first.0) (subst (λ m. AreSlots part m slots) (sym first.1) slots_are)

  pub spare_first : 1 ≤ count → count ≤ part.spaces → NamesEachOnce part → (part_of slots ≡ part) × (most_of slots ≡ most)
  spare_first some own once = as_first part most slots (spare_are some own once)

  pub no_spaces : spaces_in slots ≡ []
  no_spaces = all_spare slots (λ k d h. (are.each k d h).key)

  -- and tidy in zeros
  pub spare_tidy : (memory : List ℕ) → LieIn (table_frames_for part count) (length memory) → AreZeros (table_frames_for part count) memory → AreTidy slots memory
  spare_tidy memory lies zeros k d h =
      let one = are.each k d h in
      let number = are.number in
      let within = space_within part k count (omega (arith, h, number)) in
      one.tidy memory (λ frame is. lies frame (within frame is)) (record { each = λ at is. zeros.each at (within (at / 4096) is) })

  pub spare_tidy_pool : 1 ≤ count → count ≤ part.spaces → NamesEachOnce part → (memory : List ℕ) → LieIn (table_frames_for (part_of slots) (length slots)) (length memory)
      → AreZeros (table_frames_for (part_of slots) (length slots)) memory → TidyPool (record { part = part_of slots; most = most_of slots; slots = slots }) memory
  spare_tidy_pool some own once memory lies zeros =
      let same : table_frames_for (part_of slots) (length slots) ≡ table_frames_for part count = ap (λ p. table_frames_for p (length slots)) (spare_first some own once).0 ∙ ap (table_frames_for part) are.number in
      record {
        slots = spare_pooled some own once;
        tables = spare_tidy memory (subst (λ frames. LieIn frames (length memory)) same lies) (subst (λ frames. AreZeros frames memory) same zeros);
      }
