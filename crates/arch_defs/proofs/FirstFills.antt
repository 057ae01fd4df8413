-- Frames of cached first-stage translations that are found.
use Rattle.std.proofs.Common.{◌≡◌, cond, not, Bool, true, false, List, [], ◌∷◌, Option, Some, None, IfSome, option_map, refl, ap, sym, subst}
use Rattle.std.specs.List.{All, filter, find}
use Rattle.std.proofs.lemmas.List.Elements.{All-head, All-tail}
use Rattle.std.proofs.lemmas.Option.{none-some}
use Rattle.arch_defs.specs.declared.first.FirstEntry.{FirstEntry}
use Rattle.arch_defs.specs.FirstEntries.{HasGuestFrame, unnamed_first}

found_fits : (test : FirstEntry → Bool) (xs : List FirstEntry) → All HasGuestFrame xs → IfSome (find test xs) HasGuestFrame
found_fits test [] all = tt
found_fits test (x ∷ xs) all = by (test x) (All-head HasGuestFrame x xs all) (found_fits test xs (All-tail HasGuestFrame x xs all))
  where
    by : (b : Bool) → HasGuestFrame x → IfSome (find test xs) HasGuestFrame → IfSome (cond b (Some x) (find test xs)) HasGuestFrame
    by true one others = one
    by false one others = others

pub seen_fits : {A : Type 0} (seen : A → FirstEntry) (test : FirstEntry → Bool) (xs : List FirstEntry) (found : Option A)
    → All HasGuestFrame xs → option_map seen found ≡ find test xs → IfSome found (λ a. HasGuestFrame (seen a))
seen_fits {A} seen test xs found all is = by found (subst (λ o. IfSome o HasGuestFrame) (sym is) (found_fits test xs all))
  where
    by : (o : Option A) → IfSome (option_map seen o) HasGuestFrame → IfSome o (λ a. HasGuestFrame (seen a))
    by None fits = tt
    by (Some a) fits = fits

-- where none is found, none is dropped
pub none_named : (test : FirstEntry → Bool) (xs : List FirstEntry) → find test xs ≡ None → unnamed_first test xs ≡ xs
unfolding unnamed_first
none_named test [] is = refl
none_named test (x ∷ xs) is = by (test x) is (none_named test xs)
  where
    by : (b : Bool) → cond b (Some x) (find test xs) ≡ None → (find test xs ≡ None → filter (λ e. not (test e)) xs ≡ xs)
        → cond (not b) (x ∷ filter (λ e. not (test e)) xs) (filter (λ e. not (test e)) xs) ≡ x ∷ xs
    by true found rest = absurd (none-some x (sym found))
    by false none rest = ap (λ xs. x ∷ xs) (rest none)
