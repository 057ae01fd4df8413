-- Lines that are put in turn: whatever puts those that are left puts all.
use Rattle.std.proofs.Common.{arith, ◌≡◌, length, sym, subst, ℕ, List, [], ◌++◌, Bool, true, false}
use Rattle.std.proofs.lemmas.Grind.{common_steps}
use Rattle.std.proofs.lemmas.List.{append-nil}
use Rattle.std.proofs.Math.Seq.{take-length}
use Rattle.log_lines.specs.declared.lines.Line.{Line}
use Rattle.outside.specs.Pieces.{Appends, Puts}
use Rattle.run_log.specs.Log.{text_of_lines}
use Rattle.step_logs.proofs.Texts.{lines_stopped, lines_then, none_put}

module _ {S : Type 0} (stands_for : S → List ℕ → Type 0) where
  abbrev pub PutsRest : S → S → List Line → List Line → Type 0
  PutsRest old mid rest all = (new : S) (ok : Bool)
      → Puts stands_for mid new ok (text_of_lines rest) → Puts stands_for old new ok (text_of_lines all)

  pub rest_then : (old mid next : S) (lines a rest all : List Line) → lines ≡ a ++ rest → PutsRest old mid lines all
      → Appends stands_for mid next (text_of_lines a) → PutsRest old next rest all
  rest_then old mid next lines a rest all parts left first =
      λ new ok puts. left new ok
      (subst (λ (l : List Line). Puts stands_for mid new ok (text_of_lines l)) (sym parts)
      (lines_then stands_for mid next new ok a rest first puts))

  pub rest_stopped : (old mid new : S) (lines a rest all : List Line) → lines ≡ a ++ rest → PutsRest old mid lines all
      → Puts stands_for mid new false (text_of_lines a) → Puts stands_for old new false (text_of_lines all)
  rest_stopped old mid new lines a rest all parts left stopped =
      left new false
      (subst (λ (l : List Line). Puts stands_for mid new false (text_of_lines l)) (sym parts)
      (lines_stopped stands_for mid new a rest stopped))

  pub rest_none : (old mid : S) (lines all : List Line) → lines ≡ [] → PutsRest old mid lines all
      → Puts stands_for old mid true (text_of_lines all)
  rest_none old mid lines all none left =
      left mid true
      (subst (λ (l : List Line). Puts stands_for mid mid true (text_of_lines l)) (sym none) (none_put stands_for mid))

  -- what has been put whole is a front too, and so is nothing
  pub whole_front : (old new : S) (text : List ℕ) → Appends stands_for old new text → Puts stands_for old new false text
  whole_front old new text whole = (length text, omega arith, subst (Appends stands_for old new) (sym (take-length text)) whole)

  pub none_front : (old : S) (text : List ℕ) → Puts stands_for old old false text
  none_front old text = (0, grind (arith, common_steps), λ before stood. rw (append-nil before) stood)

  -- and those that have been put are a front of all
  pub rest_front : (old mid : S) (lines all : List Line) → PutsRest old mid lines all → Puts stands_for old mid false (text_of_lines all)
  rest_front old mid lines all left = left mid false (none_front mid (text_of_lines lines))
