-- What was noted last for a name.
use Rattle.std.proofs.Common.{arith, ◌≡◌, refl, sym, ap, ◌∙◌, ℕ, zero, suc, ◌+◌, ◌<◌, ◌≤◌, Bool, true, false, List, [], ◌∷◌, ◌++◌, Option, Some, None, get_or, length, take}
use Rattle.std.specs.Option.{option_or}
use Rattle.std.proofs.lemmas.List.{take_more}
use Rattle.caching_steps.specs.declared.notes.CachedName.{CachedName}
use Rattle.caching_steps.specs.declared.notes.Note.{Note}
use Rattle.caching_steps.specs.Noting.{is_same_name, noted_step, step_if}

or_none : (o : Option ℕ) → option_or o None ≡ o
or_none (Some step) = refl
or_none None = refl

or_assoc : (a b c : Option ℕ) → option_or (option_or a b) c ≡ option_or a (option_or b c)
or_assoc (Some step) b c = refl
or_assoc None b c = refl

pub noted_append : (xs ys : List Note) (name : CachedName) → noted_step (xs ++ ys) name ≡ option_or (noted_step ys name) (noted_step xs name)
unfolding noted_step
noted_append [] ys name = sym (or_none (noted_step ys name))
noted_append (x ∷ xs) ys name = ap (λ o. option_or o (step_if (is_same_name x.name name) x.step)) (noted_append xs ys name)
    ∙ or_assoc (noted_step ys name) (noted_step xs name) (step_if (is_same_name x.name name) x.step)

one_noted : (n : Note) (name : CachedName) → noted_step (n ∷ []) name ≡ step_if (is_same_name n.name name) n.step
unfolding noted_step
one_noted n name = refl

-- the latest of the first n notes
noted_to : (notes : List Note) (i : ℕ) (d : Note) (name : CachedName) → i < length notes
    → noted_step (take (i + 1) notes) name ≡ option_or (step_if (is_same_name (get_or notes i d).name name) (get_or notes i d).step) (noted_step (take i notes) name)
noted_to notes i d name inside = ap (λ ns. noted_step ns name) (take_more notes i d inside)
    ∙ noted_append (take i notes) (get_or notes i d ∷ []) name
    ∙ ap (λ o. option_or o (noted_step (take i notes) name)) (one_noted (get_or notes i d) name)

-- a search from the last one on
pub all_left : (notes : List Note) (left : ℕ) (name : CachedName) → left ≡ length notes → noted_step notes name ≡ noted_step (take left notes) name
all_left notes left name is = ap (λ ns. noted_step ns name) (sym (take_whole notes left is))
  where
    take_whole : (xs : List Note) (n : ℕ) → n ≡ length xs → take n xs ≡ xs
    take_whole [] zero is = refl
    take_whole [] (suc n) is = refl
    take_whole (x ∷ xs) zero is = absurd (omega (arith, is))
    take_whole (x ∷ xs) (suc n) is = ap (λ ys. x ∷ ys) (take_whole xs n (omega (arith, is)))

pub none_left : (notes : List Note) (left : ℕ) (name : CachedName) → left ≤ 0 → noted_step notes name ≡ noted_step (take left notes) name → None ≡ noted_step notes name
unfolding noted_step
none_left notes zero name none so_far = sym so_far
none_left notes (suc left) name none so_far = absurd (omega (arith, none))

pub found_here : (notes : List Note) (above left : ℕ) (d : Note) (name : CachedName) → above ≡ left + 1 → left < length notes
    → is_same_name (get_or notes left d).name name ≡ true → noted_step notes name ≡ noted_step (take above notes) name
    → Some (get_or notes left d).step ≡ noted_step notes name
found_here notes above left d name one inside is so_far = sym (so_far ∙ ap (λ n. noted_step (take n notes) name) one
    ∙ noted_to notes left d name inside ∙ rw is refl)

pub not_here : (notes : List Note) (above left : ℕ) (d : Note) (name : CachedName) → above ≡ left + 1 → left < length notes
    → is_same_name (get_or notes left d).name name ≡ false → noted_step notes name ≡ noted_step (take above notes) name
    → noted_step notes name ≡ noted_step (take left notes) name
not_here notes above left d name one inside is so_far = so_far ∙ ap (λ n. noted_step (take n notes) name) one
    ∙ noted_to notes left d name inside ∙ rw is refl

pub ruleset rules = (all_left, none_left, found_here, not_here)
