-- A front that is compared with the bytes that a machine was read from.
use Rattle.std.specs.Prelude.{bytes_eq}
use Rattle.std.specs.Bool.{Decides}
use Rattle.std.proofs.Common.{◌≡◌, ◌↔◌, ℕ, ◌-◌, Bool, true, false, cond, List, [], ◌∷◌, length, take, drop, refl, ap, ◌∙◌, sym, arith}
use Rattle.std.proofs.lemmas.Bool.{false≢true}
use Rattle.std.proofs.lemmas.Slice.Eq.{bytes_eq-Decides}
use Rattle.guest_save.proofs.ReadMachines.{ram_begins}
use Rattle.guest_save.proofs.RoundTrip.{front_decides}
use Rattle.guest_save.specs.declared.versions.Version.{Version}
use Rattle.guest_save.specs.Forms.{form_of, front_form}
use Rattle.guest_save.specs.Reading.{machine_by}
use Rattle.machine_defs.specs.Machine.{Machine}
use Rattle.outside.specs.Pieces.{Appends}
use Rattle.replay.specs.declared.comparisons.Verdict.{Verdict}
use Rattle.replay.specs.declared.comparisons.Verdict.TheVariants.{Same, Differs}
use Rattle.replay.specs.Comparisons.{Comparison, Saw, agreeing, verdict_of}

-- a comparison that has seen nothing
compared_nothing : (expected : List ℕ) → Saw (record { expected = expected; place = 0; differs = false }) []
unfolding agreeing
compared_nothing [] = record { place = refl; differs = refl }
compared_nothing (a ∷ expected) = record { place = refl; differs = refl }

-- what it says after a text was put
pub says_of_text : (first last : Comparison) (expected text : List ℕ) (found : Verdict) → first ≡ record { expected = expected; place = 0; differs = false }
    → Appends Saw first last text → last.expected ≡ first.expected → ((bytes : List ℕ) → Saw last bytes → found ≡ verdict_of last.expected bytes)
    → found ≡ verdict_of expected text
says_of_text first last expected text found new put same says =
    let began : Saw first [] = rw new (compared_nothing expected) in
    says text (put [] began) ∙ ap (λ (e : List ℕ). verdict_of e text) (same ∙ ap (λ (c : Comparison). c.expected) new)

-- that it is the same is said exactly of what was expected
pub same_is : (expected text : List ℕ) → Same ≡ verdict_of expected text → expected ≡ text
same_is expected text = by (bytes_eq expected text) (bytes_eq-Decides expected text)
  where
    by : (b : Bool) → Decides b (expected ≡ text) → Same ≡ cond b Same (Differs (agreeing expected text)) → expected ≡ text
    by true tells said = tells.0 refl
    by false tells said = absurd cc

same_said : (expected text : List ℕ) → expected ≡ text → Same ≡ verdict_of expected text
same_said expected text = by (bytes_eq expected text) (bytes_eq-Decides expected text)
  where
    by : (b : Bool) → Decides b (expected ≡ text) → expected ≡ text → Same ≡ cond b Same (Differs (agreeing expected text))
    by true tells same = refl
    by false tells same = absurd (false≢true (tells.1 same))

-- the comparison of a front tells of the whole form
pub tells_form : (version : Version) (m : Machine) (bytes : List ℕ) (k : ℕ) (first last : Comparison) (found : Verdict) → m ≡ machine_by version bytes → k ≡ length bytes - length m.ram
    → first ≡ record { expected = take k bytes; place = 0; differs = false } → Appends Saw first last (front_form version m) → last.expected ≡ first.expected
    → ((seen : List ℕ) → Saw last seen → found ≡ verdict_of last.expected seen) → (found ≡ Same) ↔ (form_of version m ≡ bytes)
tells_form version m bytes k first last found read place new put stays says =
    let begins = ram_begins version bytes m read in
    let decides = front_decides version m bytes k (omega (arith, place)) (begins.1 ∙ ap (λ (n : ℕ). drop n bytes) (sym place)) in
    let is = says_of_text first last (take k bytes) (front_form version m) found new put stays says in (
      λ same. decides.0 (sym (same_is (take k bytes) (front_form version m) (sym same ∙ is))),
      λ whole. is ∙ sym (same_said (take k bytes) (front_form version m) (sym (decides.1 whole))),
    )
