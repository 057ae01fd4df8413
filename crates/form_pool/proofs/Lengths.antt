-- Forms, each behind its length, tell which they are.
use Rattle.std.proofs.Common.{arith, ◌≡◌, ◌∙◌, ℕ, List, [], ◌∷◌, ◌++◌, length, take, refl, ap, sym}
use Rattle.std.proofs.Math.Seq.{take-append_seam}
use Rattle.std.proofs.lemmas.List.{append_cancel_left}
use Rattle.form_pool.specs.Forms.{with_lengths}

head_of : ℕ → List ℕ → ℕ
head_of d [] = d
head_of d (x ∷ xs) = x

tail_of : List ℕ → List ℕ
tail_of [] = []
tail_of (x ∷ xs) = xs

-- two lists of one length, each before another, are the same
fronts_alike : (a b s t : List ℕ) → length a ≡ length b → a ++ s ≡ b ++ t → a ≡ b
fronts_alike a b s t long is =
    sym (take-append_seam a s) ∙ ap (λ (list : List ℕ). take (length a) list) is ∙ ap (λ (n : ℕ). take n (b ++ t)) long ∙ take-append_seam b t

pub same_forms : (a b : List (List ℕ)) → with_lengths a ≡ with_lengths b → a ≡ b
unfolding head_of tail_of
same_forms [] [] is = refl
same_forms [] (form ∷ b) is = grind (arith, ap (λ (list : List ℕ). length list) is)
same_forms (form ∷ a) [] is = grind (arith, ap (λ (list : List ℕ). length list) is)
same_forms (form ∷ a) (other ∷ b) is =
    let long : length form ≡ length other = ap (λ (list : List ℕ). head_of 0 list) is in
    let rest : form ++ with_lengths a ≡ other ++ with_lengths b = ap (λ (list : List ℕ). tail_of list) is in
    let first : form ≡ other = fronts_alike form other (with_lengths a) (with_lengths b) long rest in
    let left : other ++ with_lengths a ≡ other ++ with_lengths b =
    sym (ap (λ (front : List ℕ). front ++ with_lengths a) first) ∙ rest in
    let others : a ≡ b = same_forms a b (append_cancel_left other (with_lengths a) (with_lengths b) left) in
    ap (λ (front : List ℕ). front ∷ a) first ∙ ap (λ (forms : List (List ℕ)). other ∷ forms) others
