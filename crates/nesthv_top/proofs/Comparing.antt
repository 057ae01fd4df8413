-- What a comparison of a whole report says.
use Rattle.std.proofs.Common.{◌≡◌, inr, ℕ, List, [], false, refl, ap, sym, ◌∙◌, arith}
use Rattle.outside.specs.Pieces.{Appends}
use Rattle.replay.specs.Comparisons.{Comparison, Saw, verdict_of}
use Rattle.replay.specs.declared.comparisons.Verdict.{Verdict}
use Rattle.replay.proofs.Verdicts.{agreeing_none}

abbrev begun : List ℕ → Comparison
begun stored = record { expected = stored; place = 0; differs = false }

saw_none : (stored : List ℕ) → Saw (begun stored) []
saw_none stored = record { place = sym (agreeing_none stored [] (inr (omega arith))); differs = refl }

pub compared : (stored : List ℕ) (first last : Comparison) (text : List ℕ) (found : Verdict) → first ≡ record { expected = stored; place = 0; differs = false }
    → Appends Saw first last text → last.expected ≡ first.expected → ((bytes : List ℕ) → Saw last bytes → found ≡ verdict_of last.expected bytes)
    → found ≡ verdict_of stored text
compared stored first last text found is put stays says =
    let began : Saw first [] = rw is (saw_none stored) in
    let same : last.expected ≡ stored = stays ∙ ap (λ c. c.expected) is in
    says text (put [] began) ∙ ap (λ expected. verdict_of expected text) same
