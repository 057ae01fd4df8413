-- Values of hgatp, and the tables that are for one.
use Rattle.std.proofs.Common.{◌≡◌, true, false, ◌⊎◌, inl, inr, Option, Some, None, refl, sym, ap, ◌∙◌}
use Rattle.std.specs.Option.{is_some}
use Rattle.std.proofs.lemmas.Bool.{both_ways, cases_Bool}
use Rattle.arch_defs.specs.declared.roots.GuestRoot.{GuestRoot}
use Rattle.shadow_pool.specs.declared.slots.Slot.{Slot}
use Rattle.shadow_pool.specs.Slots.{ComesBefore, has_key, key_is}
use Rattle.arch_defs.proofs.SameRoots.{root_is, root_same}

-- a table with a value of hgatp
pub key_of : (key : GuestRoot) (slot : Slot) → has_key key slot ≡ true → slot.key ≡ Some key
key_of key slot has = by slot.key refl has
  where
    by : (o : Option GuestRoot) → slot.key ≡ o → key_is key o ≡ true → slot.key ≡ Some key
    by None is has = absurd (both_ways false refl has)
    by (Some other) is has = is ∙ ap Some (root_same other key has)

pub has_of : (key : GuestRoot) (slot : Slot) → slot.key ≡ Some key → has_key key slot ≡ true
has_of key slot is = ap (key_is key) is ∙ root_is key

pub not_none : {X : Type 0} (x : X) (o : Option X) → o ≡ Some x → o ≡ None → ⊥
not_none x o is none = both_ways (is_some o) (ap is_some none) (ap is_some is)

-- one that has a value of hgatp comes before all others that differ from it
pub turns : (key : GuestRoot) (a b : Slot) → has_key key b ≡ true → ComesBefore a b → ComesBefore b a
turns key a b has before = record {
  index = λ same. before.index (sym same);
  key = λ other is. by other is (cases_Bool (has_key other a));
  spare = λ none. absurd (not_none key b.key (key_of key b has) none);
}
  where
    by : (other : GuestRoot) → has_key other b ≡ true → (has_key other a ≡ true) ⊎ (has_key other a ≡ false) → has_key other a ≡ false
    by other is (inl has_too) = absurd (both_ways (has_key other b) (before.key other has_too) is)
    by other is (inr has_not) = has_not
