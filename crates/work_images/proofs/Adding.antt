-- Lines that are added to an image one after the other.
use Rattle.std.proofs.Common.{◌≡◌, ℕ, ◌+◌, ◌<◌, ◌≤◌, List, [], ◌∷◌, ◌++◌, length, get_or, drop, refl, ap, sym, ◌∙◌, true, ◌&&◌}
use Rattle.std.proofs.lemmas.List.{drop_all, drop_more}
use Rattle.std.proofs.lemmas.Bool.{and_parts}
use Rattle.rv64_asm.specs.Plans.{ImagePlan}
use Rattle.work_images.specs.declared.lines.Line.{Line}
use Rattle.work_images.specs.Lines.{can_add, can_add_all, with_line, with_all_lines}

-- a line, and what is left after it
left : (lines : List Line) (i : ℕ) (x : Line) → x ≡ get_or lines i x → i < length lines → drop i lines ≡ x ∷ drop (i + 1) lines
left lines i x e h = drop_more lines i x h ∙ ap (λ y. y ∷ drop (i + 1) lines) (sym e)

pub with_lines_left : (plan : ImagePlan) (lines : List Line) (i : ℕ) (x : Line) → x ≡ get_or lines i x → i < length lines
    → with_all_lines plan (drop i lines) ≡ with_all_lines (with_line plan x) (drop (i + 1) lines)
unfolding with_all_lines
with_lines_left plan lines i x e h = ap (with_all_lines plan) (left lines i x e h)

pub with_no_lines_left : (plan : ImagePlan) (lines : List Line) (i : ℕ) → length lines ≤ i → with_all_lines plan (drop i lines) ≡ plan
unfolding with_all_lines
with_no_lines_left plan lines i h = ap (with_all_lines plan) (drop_all i lines h)

can_add_left : (plan : ImagePlan) (lines : List Line) (i : ℕ) (x : Line) → x ≡ get_or lines i x → i < length lines
    → can_add_all plan (drop i lines) ≡ (can_add plan x && can_add_all (with_line plan x) (drop (i + 1) lines))
unfolding can_add_all
can_add_left plan lines i x e h = ap (can_add_all plan) (left lines i x e h)

pub can_add_next : (plan : ImagePlan) (lines : List Line) (i : ℕ) (x : Line) → x ≡ get_or lines i x → i < length lines
    → can_add_all plan (drop i lines) ≡ true
    → (can_add plan x ≡ true) × (can_add_all (with_line plan x) (drop (i + 1) lines) ≡ true)
can_add_next plan lines i x e h k =
    and_parts (can_add plan x) (can_add_all (with_line plan x) (drop (i + 1) lines)) (sym (can_add_left plan lines i x e h) ∙ k)

pub with_lines_append : (plan : ImagePlan) (xs ys : List Line) → with_all_lines plan (xs ++ ys) ≡ with_all_lines (with_all_lines plan xs) ys
unfolding with_all_lines
with_lines_append plan [] ys = refl
with_lines_append plan (x ∷ xs) ys = with_lines_append (with_line plan x) xs ys

pub with_lines_more : (plan : ImagePlan) (xs : List Line) (x : Line) → with_all_lines plan (xs ++ x ∷ []) ≡ with_line (with_all_lines plan xs) x
unfolding with_all_lines
with_lines_more plan xs x = with_lines_append plan xs (x ∷ [])

pub with_no_lines : (plan : ImagePlan) → with_all_lines plan [] ≡ plan
unfolding with_all_lines
with_no_lines plan = refl
