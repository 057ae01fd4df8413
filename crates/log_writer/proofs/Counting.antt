-- The counts of a run, step by step.
use Rattle.std.proofs.Common.{arith, ◌≡◌, ◌∙◌, refl, sym, subst, ap, ℕ, zero, suc, ◌+◌, ◌<◌, ◌≤◌, zero-add, Bool, true, false, List, [], ◌∷◌, ◌++◌, get_or, cond}
use Rattle.std.specs.List.{All, AllPairs, count_by, list_any, range_with_len}
use Rattle.std.proofs.lemmas.List.FromFn.{length-range_with_len}
use Rattle.std.proofs.lemmas.List.Sums.{count_by-le-length, sum_by-append}
use Rattle.log_lines.specs.declared.lines.CountKey.{CountKey}
use Rattle.log_lines.specs.declared.lines.CountLine.{CountLine}
use Rattle.machine_defs.specs.Machine.{Machine}
use Rattle.machine_defs.specs.Runs.{is_instruction}
use Rattle.run_log.specs.Counts.{AreCounts, count_key, is_executed, times}
use Rattle.run_log.specs.Log.{AreCountsIf}
use Rattle.run_log.specs.Seen.{Seen, seen}
use Rattle.run_log.specs.Traps.{step_events}
use Rattle.log_writer.proofs.CountLines.{IsEarlier, all_put, count_is, count_of, has_key, own_count, put_counts, put_in, put_in_order}
use Rattle.log_writer.proofs.CountOrder.{is_key, key_is, same_by_order}

abbrev pub has_instruction : Seen → Bool
has_instruction s = list_any is_instruction (step_events s)

abbrev number : Bool → ℕ
number made = cond made 1 0

range_more : (a n : ℕ) → range_with_len a (suc n) ≡ range_with_len a n ++ (a + n) ∷ []
range_more a zero = let same : a ≡ a + 0 = omega arith in ap (λ (k : ℕ). k ∷ []) same
range_more a (suc n) = let same : a + 1 + n ≡ a + suc n = omega arith in
    ap (λ (l : List ℕ). a ∷ l) (range_more (a + 1) n ∙ ap (λ (k : ℕ). range_with_len (a + 1) n ++ k ∷ []) same)

module _ (origin : Machine) (from : ℕ) where
  abbrev now : ℕ → Seen
  now steps = seen origin (from + steps)

  -- one step more
  times_more : (steps : ℕ) (key : CountKey)
      → times origin from (suc steps) key ≡ times origin from steps key + cond (is_executed key (now steps)) 1 0
  unfolding times
  times_more steps key =
      ap (count_by (λ n. is_executed key (seen origin n))) (range_more from steps)
      ∙ sum_by-append (λ n. cond (is_executed key (seen origin n)) 1 0) (range_with_len from steps) ((from + steps) ∷ [])
      ∙ ap (λ (n : ℕ). times origin from steps key + n) (zero-add (cond (is_executed key (now steps)) 1 0))

  no_times : (key : CountKey) → times origin from 0 key ≡ 0
  unfolding times
  no_times key = refl

  pub few_times : (steps : ℕ) (key : CountKey) → times origin from steps key ≤ steps
  unfolding times
  few_times steps key =
      subst (λ (k : ℕ). count_by (λ n. is_executed key (seen origin n)) (range_with_len from steps) ≤ k) (length-range_with_len from steps)
      (count_by-le-length (λ n. is_executed key (seen origin n)) (range_with_len from steps))

  executed_by : (s : Seen) (key : CountKey) (made here : Bool) → has_instruction s ≡ made → is_key key (count_key s) ≡ here
      → ◌≡◌ {A = ℕ} (cond (is_executed key s) 1 0) (cond here (cond made 1 0) 0)
  executed_by s key made here has is =
      ap (λ (b : Bool). number (cond b (has_instruction s) false)) (same_by_order key (count_key s) ∙ is)
      ∙ ap (λ (b : Bool). number (cond here b false)) has
      ∙ by here made
    where
      by : (here made : Bool) → ◌≡◌ {A = ℕ} (cond (cond here made false) 1 0) (cond here (cond made 1 0) 0)
      by true made = refl
      by false made = refl

  -- lines of no steps
  pub counts_none : AreCounts origin from 0 []
  counts_none = record {
    each = λ i d within. absurd (omega (arith, within));
    all = λ key some. absurd (omega (arith, some, no_times key));
    order = λ i j d before within. absurd (omega (arith, within));
  }

  -- lines that say how often each place was executed
  pub count_found : (steps : ℕ) (lines : List CountLine) → AreCounts origin from steps lines → (key : CountKey)
      → count_of lines key ≡ times origin from steps key
  count_found steps lines are key =
      count_is (times origin from steps key) key lines (λ i d within same. (are.each i d within).0 ∙ ap (times origin from steps) (sym same))
      (are.all key)

  are_counts : (steps : ℕ) (lines : List CountLine) → ((key : CountKey) → count_of lines key ≡ times origin from steps key)
      → All (λ c. 0 < c.count) lines → AllPairs IsEarlier lines → AreCounts origin from steps lines
  are_counts steps lines counts some order = record {
    each = λ i d within. (sym (own_count lines i d order within) ∙ counts (get_or lines i d).key, some i d within);
    all = λ key executed. has_key lines key (subst (λ (n : ℕ). 0 < n) (sym (counts key)) executed);
    order = order;
  }

  -- a step without an instruction
  pub counts_stay : (steps : ℕ) (lines : List CountLine) → has_instruction (now steps) ≡ false
      → AreCounts origin from steps lines → AreCounts origin from (suc steps) lines
  counts_stay steps lines none are =
      are_counts (suc steps) lines
      (λ key. count_found steps lines are key ∙ same key (is_key key (count_key (now steps))) refl)
      (λ i d within. (are.each i d within).1) are.order
    where
      same : (key : CountKey) (here : Bool) → is_key key (count_key (now steps)) ≡ here
          → times origin from steps key ≡ times origin from (suc steps) key
      same key true is = let more = times_more steps key ∙ ap (λ (n : ℕ). times origin from steps key + n) (executed_by (now steps) key false true none is) in omega (arith, more)
      same key false is = let more = times_more steps key ∙ ap (λ (n : ℕ). times origin from steps key + n) (executed_by (now steps) key false false none is) in omega (arith, more)

  -- and one with one
  pub counts_more : (steps : ℕ) (lines : List CountLine) (line : CountLine) → has_instruction (now steps) ≡ true
      → line.key ≡ count_key (now steps) → line.count ≡ count_of lines line.key + 1
      → AreCounts origin from steps lines → AreCounts origin from (suc steps) (put_in lines line)
  counts_more steps lines line made key more are =
      are_counts (suc steps) (put_in lines line)
      (λ q. put_counts lines line q ∙ by q (is_key q line.key) refl)
      (all_put (λ c. 0 < c.count) lines line (λ i d within. (are.each i d within).1) (omega (arith, more)))
      (put_in_order lines line are.order)
    where
      by : (q : CountKey) (here : Bool) → is_key q line.key ≡ here → cond here line.count (count_of lines q) ≡ times origin from (suc steps) q
      by q true is =
          let one = times_more steps q ∙ ap (λ (n : ℕ). times origin from steps q + n) (executed_by (now steps) q true true made (ap (is_key q) (sym key) ∙ is)) in
          let own = ap (count_of lines) (sym (key_is q line.key is)) ∙ count_found steps lines are q in
          omega (arith, one, own, more)
      by q false is =
          let one = times_more steps q ∙ ap (λ (n : ℕ). times origin from steps q + n) (executed_by (now steps) q true false made (ap (is_key q) (sym key) ∙ is)) in
          let own = count_found steps lines are q in
          omega (arith, one, own)

  -- so each run has lines of counts
  pub counts_exist : (steps : ℕ) → (lines : List CountLine) × AreCounts origin from steps lines
  counts_exist zero = ([], counts_none)
  counts_exist (suc steps) = by (has_instruction (now steps)) refl (counts_exist steps)
    where
      by : (made : Bool) → has_instruction (now steps) ≡ made → (lines : List CountLine) × AreCounts origin from steps lines
          → (lines : List CountLine) × AreCounts origin from (suc steps) lines
      by false is (lines, are) = (lines, counts_stay steps lines is are)
      by true is (lines, are) =
          let key = count_key (now steps) in
          let line : CountLine = record { key = key; count = count_of lines key + 1 } in
          (put_in lines line, counts_more steps lines line is refl refl are)

  pub counts_exist_if : (asked : Bool) (steps : ℕ) → (lines : List CountLine) × AreCountsIf asked origin from steps lines
  counts_exist_if true steps = counts_exist steps
  counts_exist_if false steps = ([], refl)

  pub counts_start : (asked : Bool) (n : ℕ) → n ≤ 0 → AreCountsIf asked origin from n []
  counts_start true n none = let is : 0 ≡ n = omega (arith, none) in subst (λ (k : ℕ). AreCounts origin from k []) is counts_none
  counts_start false n none = refl
