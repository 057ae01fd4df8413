-- The parts of the program: each line can be added, and no instruction has a fault.
use Rattle.std.proofs.Common.{◌≡◌, ℕ, ◌+◌, ◌*◌, ◌≤◌, List, [], ◌∷◌, ◌++◌, length, refl, ap, sym, ◌∙◌, arith, true, None}
use Rattle.std.specs.Prelude.{map, max, ◌==◌}
use Rattle.std.proofs.lemmas.Bool.{cond-false, ne_eqb}
use Rattle.std.specs.List.{range_with_len}
use Rattle.std.proofs.lemmas.List.FromFn.{map-range_with_len_more}
use Rattle.rv64_asm.specs.Fitting.{fits, has_load, alu_immediate_fits, source_fits}
use Rattle.rv64_asm.specs.Plans.{ImagePlan, empty_plan, plan_fault, first_item_fault, item_fault, index_of, is_aimed, with_offset, with_piece, Piece, piece_end, last_end, size}
use Rattle.work_images.specs.declared.lines.Line.{Line}
use Rattle.work_images.specs.Lines.{can_add_all, piece_of, with_line, with_all_lines}
use Rattle.work_images.specs.Program.{setup, serving, handler, nested, letters, letter, program, image_plan}
use Rattle.work_images.proofs.Adding.{with_lines_append, with_lines_more}

pub setup_adds : can_add_all empty_plan setup ≡ true
unfolding can_add_all with_all_lines fits has_load alu_immediate_fits source_fits is_aimed index_of
setup_adds = refl

pub serving_adds : can_add_all (with_all_lines empty_plan setup) serving ≡ true
unfolding can_add_all with_all_lines fits has_load alu_immediate_fits source_fits is_aimed index_of
serving_adds = refl

pub handler_adds : can_add_all (with_all_lines (with_all_lines empty_plan setup) serving) handler ≡ true
unfolding can_add_all with_all_lines fits has_load alu_immediate_fits source_fits is_aimed index_of
handler_adds = refl

pub nested_adds : (plan : ImagePlan) → can_add_all plan nested ≡ true
unfolding can_add_all with_all_lines fits has_load alu_immediate_fits source_fits is_aimed index_of
nested_adds plan = refl

pub no_fault : (commands : List ℕ) → plan_fault (image_plan commands) ≡ None
unfolding image_plan with_all_lines first_item_fault item_fault index_of with_offset fits
no_fault commands = refl

-- all parts in order
pub whole : (plan : ImagePlan)
    → with_all_lines (with_all_lines (with_all_lines (with_all_lines (with_all_lines plan setup) serving) handler) nested) letters ≡ with_all_lines plan program
whole plan = sym (with_lines_append plan setup (serving ++ handler ++ nested ++ letters)
    ∙ with_lines_append _ serving (handler ++ nested ++ letters)
    ∙ with_lines_append _ handler (nested ++ letters)
    ∙ with_lines_append _ nested letters)

pub one_letter_more : (old before after : ImagePlan) (i : ℕ) → before ≡ with_all_lines old (map letter (range_with_len 0 i))
    → after ≡ with_line before (letter i) → after ≡ with_all_lines old (map letter (range_with_len 0 (i + 1)))
one_letter_more old before after i e f =
    f ∙ ap (λ p. with_line p (letter i)) e
    ∙ sym (with_lines_more old (map letter (range_with_len 0 i)) (letter i))
    ∙ ap (with_all_lines old) (sym (map-range_with_len_more letter 0 i i (omega arith)))

-- a part, when each part before it is added
pub next_part : (start before after : ImagePlan) (lines part : List Line) → before ≡ start → lines ≡ part
    → after ≡ with_all_lines before lines → after ≡ with_all_lines start part
next_part start before after lines part e f g = g ∙ ap (λ p. with_all_lines p lines) e ∙ ap (with_all_lines start) f

pub can_add_part : (start before : ImagePlan) (lines part : List Line) → before ≡ start → lines ≡ part
    → can_add_all start part ≡ true → can_add_all before lines ≡ true
can_add_part start before lines part e f h = rw (e, f) h

pub plan_is : (empty programmed placed : ImagePlan) (commands : List ℕ) → empty ≡ empty_plan → programmed ≡ with_all_lines empty program
    → placed ≡ with_piece programmed (piece_of 0x20000 commands) → placed ≡ image_plan commands
unfolding image_plan
plan_is empty programmed placed commands e f g = g ∙ ap (λ p. with_piece p (piece_of 0x20000 commands)) (f ∙ ap (λ p. with_all_lines p program) e)

pub faultless : (empty programmed placed : ImagePlan) (commands : List ℕ) → empty ≡ empty_plan → programmed ≡ with_all_lines empty program
    → placed ≡ with_piece programmed (piece_of 0x20000 commands) → plan_fault placed ≡ None
faultless empty programmed placed commands e f g = ap (λ p. plan_fault p) (plan_is empty programmed placed commands e f g) ∙ no_fault commands

-- the size of an image

last_of : (xs : List Piece) (p : Piece) → last_end (xs ++ p ∷ []) ≡ max (last_end xs) (piece_end p)
unfolding last_end
last_of [] p = omega arith
last_of (x ∷ xs) p = rw (last_of xs p) (omega arith)

last_of_program : last_end (with_all_lines empty_plan program).pieces ≡ 0x18001
unfolding with_all_lines last_end
last_of_program = refl

ops_of_program : 4 * length (with_all_lines empty_plan program).items ≡ 132
unfolding with_all_lines
ops_of_program = refl

pub size_is : (commands : List ℕ) → 1 ≤ length commands → size (image_plan commands) ≡ 131072 + length commands
unfolding image_plan
size_is commands h =
    let last = last_of (with_all_lines empty_plan program).pieces (piece_of 0x20000 commands) in
    let ends : piece_end (piece_of 0x20000 commands) ≡ 131072 + length commands =
    cond-false (length commands == 0) 0 (131072 + length commands) (ne_eqb (length commands) 0 (λ e. omega arith)) in
    ap (max (4 * length (with_all_lines empty_plan program).items)) (last ∙ ap (λ n. max n (piece_end (piece_of 0x20000 commands))) last_of_program ∙ ap (max 0x18001) ends)
    ∙ ap (λ n. max n (max 0x18001 (131072 + length commands))) ops_of_program ∙ omega arith
