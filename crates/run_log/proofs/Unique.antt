-- A log has one text: lists of counts in order that have the same lines are the same list.
use Rattle.std.proofs.Common.{arith, ◌≡◌, refl, sym, subst, ap, ap₂, ◌∙◌, ℕ, zero, suc, ◌<◌, Bool, true, false, List, [], ◌∷◌, ◌++◌, Contains, get_or, length, map}
use Rattle.std.proofs.lemmas.List.{get_or-map, length-map}
use Rattle.std.specs.List.{AllPairs}
use Rattle.log_lines.specs.declared.lines.CountKey.{CountKey}
use Rattle.log_lines.specs.declared.lines.CountLine.{CountLine}
use Rattle.log_lines.specs.declared.lines.Line.TheVariants as line
use Rattle.log_lines.specs.CountKeys.{ByHgatp, ByMode, ByPc, IsBefore}
use Rattle.machine_defs.specs.Machine.{Machine}
use Rattle.run_log.specs.Counts.{AreCounts, times}
use Rattle.run_log.specs.Laws.{LogIsOne}
use Rattle.run_log.specs.Log.{AreCountsIf, lines_from, text_of_lines}

-- no two places are each before the other
asymmetric : (a b : CountKey) → IsBefore a b → IsBefore b a → ⊥
asymmetric a b (ByMode p) (ByMode q) = omega (arith, p, q)
asymmetric a b (ByMode p) (ByHgatp q r) = omega (arith, p, q)
asymmetric a b (ByMode p) (ByPc q r s) = omega (arith, p, q)
asymmetric a b (ByHgatp p q) (ByMode r) = omega (arith, p, r)
asymmetric a b (ByHgatp p q) (ByHgatp r s) = omega (arith, q, s)
asymmetric a b (ByHgatp p q) (ByPc r s t) = omega (arith, q, s)
asymmetric a b (ByPc p q r) (ByMode s) = omega (arith, p, s)
asymmetric a b (ByPc p q r) (ByHgatp s t) = omega (arith, q, t)
asymmetric a b (ByPc p q r) (ByPc s t u) = omega (arith, r, u)

abbrev IsEarlier : CountLine → CountLine → Type 0
IsEarlier a b = IsBefore a.key b.key

abbrev IsIn : List CountLine → CountLine → Type 0
IsIn lines line = (j : ℕ) × (j < length lines) × (get_or lines j line ≡ line)

abbrev AreIn : List CountLine → List CountLine → Type 0
AreIn lines others = (i : ℕ) (d : CountLine) → i < length others → IsIn lines (get_or others i d)

tail_pairs : (a : CountLine) (xs : List CountLine) → AllPairs IsEarlier (a ∷ xs) → AllPairs IsEarlier xs
tail_pairs a xs pairs = λ i j d before within. pairs (suc i) (suc j) d (omega (arith, before)) (omega (arith, within))

later : (a : CountLine) (xs : List CountLine) (i : ℕ) (d : CountLine) → AllPairs IsEarlier (a ∷ xs) → i < length xs
    → IsEarlier a (get_or xs i d)
later a xs i d pairs within = pairs 0 (suc i) d (omega arith) (omega (arith, within))

-- two lists in order begin with the same line where each has the other's first
same_first : (a b : CountLine) (xs ys : List CountLine) → AllPairs IsEarlier (a ∷ xs) → AllPairs IsEarlier (b ∷ ys)
    → IsIn (b ∷ ys) a → IsIn (a ∷ xs) b → a ≡ b
same_first a b xs ys first second (zero, within, is) other = sym is
same_first a b xs ys first second (suc j, within, is) (zero, inside, same) = same
same_first a b xs ys first second (suc j, within, is) (suc k, inside, same) =
    absurd (asymmetric a.key b.key
    (subst (λ c. IsEarlier a c) same (later a xs k b first (omega (arith, inside))))
    (subst (λ c. IsEarlier b c) is (later b ys j a second (omega (arith, within)))))

same_rest : (a b : CountLine) (xs ys : List CountLine) → AllPairs IsEarlier (a ∷ xs) → a ≡ b → AreIn (b ∷ ys) (a ∷ xs)
    → AreIn ys xs
same_rest a b xs ys pairs same all i d within = by (all (suc i) d (omega (arith, within)))
  where
    by : IsIn (b ∷ ys) (get_or xs i d) → IsIn ys (get_or xs i d)
    by (zero, inside, is) =
        let after = subst (λ c. IsEarlier a c) (sym is ∙ sym same) (later a xs i d pairs within) in
        absurd (asymmetric a.key a.key after after)
    by (suc j, inside, is) = (j, omega (arith, inside), is)

same_lists : (xs ys : List CountLine) → AllPairs IsEarlier xs → AllPairs IsEarlier ys → AreIn ys xs → AreIn xs ys → xs ≡ ys
same_lists [] [] first second ins outs = refl
same_lists [] (b ∷ ys) first second ins outs = none (outs 0 b (omega arith))
  where
    none : IsIn [] b → [] ≡ b ∷ ys
    none (j, within, is) = absurd (omega (arith, within))
same_lists (a ∷ xs) [] first second ins outs = none (ins 0 a (omega arith))
  where
    none : IsIn [] a → a ∷ xs ≡ []
    none (j, within, is) = absurd (omega (arith, within))
same_lists (a ∷ xs) (b ∷ ys) first second ins outs =
    let same = same_first a b xs ys first second (ins 0 a (omega arith)) (outs 0 b (omega arith)) in
    ap₂ (λ x xs. x ∷ xs) same
    (same_lists xs ys (tail_pairs a xs first) (tail_pairs b ys second) (same_rest a b xs ys first same ins)
    (same_rest b a ys xs second (sym same) outs))

same_line : (a b : CountLine) → a.key ≡ b.key → a.count ≡ b.count → a ≡ b
same_line a b key count = ap₂ (λ place number. record { key = place; count = number }) key count

-- a line that counts is one of each list of counts, since a place has one count
one_count : (origin : Machine) (from steps : ℕ) (lines others : List CountLine) → AreCounts origin from steps lines
    → AreCounts origin from steps others → AreIn lines others
one_count origin from steps lines others one other i d within =
    let counted = other.each i d within in
    by (get_or others i d) counted (one.all (get_or others i d).key (subst (λ n. 0 < n) counted.0 counted.1))
  where
    by : (c : CountLine) → (c.count ≡ times origin from steps c.key) × (0 < c.count)
        → Contains (map (λ l. l.key) lines) c.key → IsIn lines c
    by c counted (j, inside, is) =
        let there : j < length lines = omega (arith, inside, length-map lines (λ l. l.key)) in
        let key : (get_or lines j c).key ≡ c.key = sym (get_or-map (λ l. l.key) lines j c c.key there) ∙ is in
        let count : (get_or lines j c).count ≡ c.count = (one.each j c there).0 ∙ ap (times origin from steps) key ∙ sym counted.0 in
        (j, there, same_line (get_or lines j c) c key count)

pub log_is_one : LogIsOne
log_is_one kinds origin from steps a b one other =
    one.text ∙ ap (λ counts. text_of_lines (lines_from kinds origin from steps) ++ text_of_lines (map line.Count counts))
    (by kinds.counts one.counts other.counts one.counted other.counted) ∙ sym other.text
  where
    by : (asked : Bool) (xs ys : List CountLine) → AreCountsIf asked origin from steps xs
        → AreCountsIf asked origin from steps ys → xs ≡ ys
    by true xs ys first second =
        same_lists xs ys first.order second.order (one_count origin from steps ys xs second first)
        (one_count origin from steps xs ys first second)
    by false xs ys first second = first ∙ sym second
