-- The text of lines.
use Rattle.std.proofs.Common.{arith, ◌<◌, zero, suc, length, take, get_or, map, ◌≡◌, refl, sym, subst, ap, ℕ, List, [], ◌∷◌, ◌++◌, Bool, true, false}
use Rattle.std.proofs.lemmas.Grind.{flat_map-append}
use Rattle.std.proofs.lemmas.List.{append-nil}
use Rattle.log_lines.specs.declared.lines.Line.{Line}
use Rattle.log_lines.specs.Lines.{line_text}
use Rattle.outside.proofs.Pieces.{puts_then, puts_stopped}
use Rattle.outside.specs.Pieces.{Appends, Puts}
use Rattle.run_log.specs.Log.{text_of_lines}

pub text_then : (a b : List Line) → text_of_lines (a ++ b) ≡ text_of_lines a ++ text_of_lines b
text_then a b = flat_map-append line_text a b

module _ {S : Type 0} (stands_for : S → List ℕ → Type 0) where
  -- the text of one line, and of none
  pub one_line : (old new : S) (ok : Bool) (line : Line) → Puts stands_for old new ok (line_text line) → Puts stands_for old new ok (text_of_lines (line ∷ []))
  one_line old new ok line puts = rw (append-nil (line_text line)) puts

  pub none_put : (old : S) → Puts stands_for old old true (text_of_lines [])
  none_put old = λ before stood. rw (append-nil before) stood

  -- lines after others
  pub lines_then : (old mid new : S) (ok : Bool) (a b : List Line) → Appends stands_for old mid (text_of_lines a)
      → Puts stands_for mid new ok (text_of_lines b) → Puts stands_for old new ok (text_of_lines (a ++ b))
  lines_then old mid new ok a b first second = rw (text_then a b) (puts_then stands_for old mid new ok (text_of_lines a) (text_of_lines b) first second)

  pub lines_stopped : (old new : S) (a b : List Line) → Puts stands_for old new false (text_of_lines a) → Puts stands_for old new false (text_of_lines (a ++ b))
  lines_stopped old new a b stopped = rw (text_then a b) (puts_stopped stands_for old new (text_of_lines a) (text_of_lines b) stopped)

-- things one by one, of which the line of one could not be put whole
module _ {S X : Type 0} (stands_for : S → List ℕ → Type 0) (f : X → Line) where
  parted : (xs : List X) (i : ℕ) (d : X) → i < length xs
      → (rest : List Line) × (map f xs ≡ map f (take i xs) ++ ((f (get_or xs i d) ∷ []) ++ rest))
  parted [] i d inside = absurd (omega (arith, inside))
  parted (x ∷ xs) zero d inside = (map f xs, refl)
  parted (x ∷ xs) (suc i) d inside = let others = parted xs i d (omega (arith, inside)) in (others.0, ap (λ (l : List Line). f x ∷ l) others.1)

  pub each_stopped : (old mid new : S) (xs : List X) (i : ℕ) (d : X) → i < length xs → Appends stands_for old mid (text_of_lines (map f (take i xs)))
      → Puts stands_for mid new false (text_of_lines (f (get_or xs i d) ∷ [])) → Puts stands_for old new false (text_of_lines (map f xs))
  each_stopped old mid new xs i d inside before stopped =
      let others = parted xs i d inside in
      let all : Puts stands_for old new false (text_of_lines (map f (take i xs) ++ ((f (get_or xs i d) ∷ []) ++ others.0))) =
      lines_then stands_for old mid new false (map f (take i xs)) ((f (get_or xs i d) ∷ []) ++ others.0) before
      (lines_stopped stands_for mid new (f (get_or xs i d) ∷ []) others.0 stopped) in
      subst (λ (l : List Line). Puts stands_for old new false (text_of_lines l)) (sym others.1) all

pub ruleset lines_rules = (lines_then, lines_stopped)
