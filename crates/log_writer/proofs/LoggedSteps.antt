-- What has been put, counted and noted of the log of a run before one of its steps.
use Rattle.std.specs.Option.{option_to_list}
use Rattle.std.proofs.Common.{arith, ◌≡◌, ◌≢◌, ◌∙◌, refl, sym, subst, ap, ℕ, ◌+◌, ◌-◌, ◌<◌, ◌≤◌, Bool, true, false, List, [], ◌++◌, Option}
use Rattle.caching_steps.proofs.Steps.{remembers_at_start}
use Rattle.caching_steps.specs.Remembering.{Remembers, fill_notes, found_notes}
use Rattle.caching_steps.specs.declared.notes.Note.{Note}
use Rattle.fill_laws.proofs.Running.{run_none, runs_compose}
use Rattle.fill_laws.specs.Keeping.{IsOrderly}
use Rattle.guest_settings.specs.declared.statuses.Status.TheVariants.{Running}
use Rattle.log_lines.specs.declared.kinds.Kinds.{Kinds}
use Rattle.log_lines.specs.declared.lines.CountLine.{CountLine}
use Rattle.log_lines.specs.declared.lines.Line.{Line}
use Rattle.machine_defs.specs.declared.events.Event.{Event}
use Rattle.machine_defs.specs.Machine.{Machine}
use Rattle.machine_defs.specs.Runs.{events, plain_count, run}
use Rattle.outside.specs.declared.sinks.Sink as sinks
use Rattle.outside.specs.Pieces.{Puts}
use Rattle.run_log.specs.Log.{AreCountsIf, lines_from, lines_of_step, text_of_lines}
use Rattle.run_log.specs.Seen.{seen, seen_from}
use Rattle.run_log.specs.Traps.{step_events}
use Rattle.step_logs.specs.Befores.{before_of}
use Rattle.step_logs.specs.StaleUses.{TellUses}
use Rattle.step_logs.specs.declared.befores.Before.{Before}
use Rattle.log_writer.specs.PlainRuns.{HasPassedPlain, tells_plain_steps}
use Rattle.log_writer.specs.Steps.{HasBeenMade}
use Rattle.log_writer.proofs.Counting.{counts_start}
use Rattle.log_writer.proofs.Idle.{all_left, counted_now, counts_idle, lines_left, made_now, none_left, nothing_left, step_left}
use Rattle.log_writer.proofs.PlainRuns.{lines_passed, untold_counts, untold_stale}
use Rattle.log_writer.proofs.Putting.{PutsRest, rest_front, rest_none, rest_stopped, rest_then}
use Rattle.log_writer.proofs.StaleNotes.{remembered_on, uses_told}

module _ {O : Type 0} (K : sinks.Ghosts O) (kinds : Kinds) (from steps : ℕ) (first : Machine) (old : O) where
  pub record IsLoggedTo (n : ℕ) (m : Machine) (counts : List CountLine) (notes : List Note) (now : O) : Type 0 where
    pub begins : from ≤ n
    pub within : n ≤ from + steps
    pub machine : (origin : Machine) → first ≡ run origin from → m ≡ run origin n
    pub early : m.platform.steps + from ≤ first.platform.steps + n
    pub counted : (origin : Machine) → first ≡ run origin from → AreCountsIf kinds.counts origin from (n - from) counts
    pub remembers : kinds.stale ≡ true → (origin : Machine) → first ≡ run origin from → IsOrderly origin → Remembers origin from n notes
    pub left : (origin : Machine) → first ≡ run origin from → (kinds.stale ≡ true → IsOrderly origin)
        → PutsRest K.stands_for old now (lines_left kinds origin from n (from + steps - n)) (lines_from kinds origin from steps)
    pub count : K.faults old ≤ K.faults now

  module _ (n made : ℕ) (m after : Machine) (counts : List CountLine) (notes : List Note) (now : O)
      (there : IsLoggedTo n m counts notes now) (has : HasPassedPlain kinds m (from + steps - n) made after) where
    nothing : made ≡ 0 → IsLoggedTo (n + made) after counts notes now
    nothing none =
        let same : n ≡ n + made = omega (arith, none) in
        let stays : m ≡ after = sym (run_none m 0 (omega arith)) ∙ ap (run m) (sym none) ∙ sym has.machine in
        subst (λ (k : ℕ). IsLoggedTo k after counts notes now) same (subst (λ (t : Machine). IsLoggedTo n t counts notes now) stays there)

    parts : from + steps - n ≡ made + (from + steps - (n + made))
    parts = omega (arith, has.within)

    skipped : tells_plain_steps kinds ≡ false → IsLoggedTo (n + made) after counts notes now
    skipped untold = record {
      begins = omega (arith, there.begins);
      within = omega (arith, there.within, has.within);
      machine = λ origin is. has.machine ∙ ap (λ (t : Machine). run t made) (there.machine origin is) ∙ runs_compose origin n made;
      early = omega (arith, there.early, has.steps);
      counted = λ origin is. let none = untold_counts kinds untold in
          subst (λ (b : Bool). AreCountsIf b origin from (n + made - from) counts) (sym none)
          (subst (λ (b : Bool). AreCountsIf b origin from (n - from) counts) none (there.counted origin is));
      remembers = λ asked. let never : true ≡ false = sym asked ∙ untold_stale kinds untold in absurd cc;
      left = λ origin is orderly.
          subst (λ (l : List Line). PutsRest K.stands_for old now l (lines_from kinds origin from steps))
          (ap (lines_left kinds origin from n) parts
          ∙ lines_passed kinds origin from untold n made (from + steps - (n + made))
          (subst (λ (t : Machine). plain_count (events t made) ≡ made) (there.machine origin is) has.plain))
          (there.left origin is orderly);
      count = there.count;
    }

    pub passed : IsLoggedTo (n + made) after counts notes now
    passed = by (tells_plain_steps kinds) refl
      where
        by : (told : Bool) → tells_plain_steps kinds ≡ told → IsLoggedTo (n + made) after counts notes now
        by true told = nothing (has.told told)
        by false untold = skipped untold

  -- where the machine does not go on, and behind the last step, all has been put and counted
  abbrev pub AllCounted : List CountLine → Type 0
  AllCounted counts = (origin : Machine) → first ≡ run origin from → AreCountsIf kinds.counts origin from steps counts

  abbrev pub AllPut : O → Bool → Type 0
  AllPut now whole = (origin : Machine) → first ≡ run origin from → (kinds.stale ≡ true → IsOrderly origin)
      → Puts K.stands_for old now whole (text_of_lines (lines_from kinds origin from steps))

  module _ (n : ℕ) (m : Machine) (counts : List CountLine) (notes : List Note) (now : O) (there : IsLoggedTo n m counts notes now) where
    idle_at : m.platform.status ≢ Running → (origin : Machine) → first ≡ run origin from → (run origin n).platform.status ≢ Running
    idle_at idle origin is = λ going. idle (ap (λ (t : Machine). t.platform.status) (there.machine origin is) ∙ going)

    pub idle_counted : m.platform.status ≢ Running → AllCounted counts
    idle_counted idle = λ origin is.
        counts_idle kinds.counts origin from steps n counts there.begins there.within (idle_at idle origin is) (there.counted origin is)

    pub idle_put : m.platform.status ≢ Running → AllPut now true
    idle_put idle = λ origin is orderly.
        rest_none K.stands_for old now _ _ (none_left kinds origin from n (from + steps - n) (idle_at idle origin is)) (there.left origin is orderly)

    pub all_counted : from + steps ≤ n → AllCounted counts
    all_counted ends = λ origin is.
        let all : n - from ≡ steps = omega (arith, ends, there.within) in
        subst (λ (k : ℕ). AreCountsIf kinds.counts origin from k counts) all (there.counted origin is)

    pub all_put : from + steps ≤ n → AllPut now true
    all_put ends = λ origin is orderly.
        rest_none K.stands_for old now _ _ (nothing_left kinds origin from n (from + steps) ends) (there.left origin is orderly)

    -- one step more
    abbrev pub PutsStep : O → Bool → Type 0
    PutsStep new ok = (origin : Machine) (from : ℕ) → (kinds.stale ≡ true → TellUses origin from (seen_from n m) (notes ++ fill_notes n m))
        → Puts K.stands_for now new ok (text_of_lines (lines_of_step kinds origin from (seen_from n m)))

    module _ (before : n < from + steps) (running : m.platform.status ≡ Running) (new : O) where
      told : (origin : Machine) → first ≡ run origin from → (kinds.stale ≡ true → IsOrderly origin)
          → kinds.stale ≡ true → TellUses origin from (seen_from n m) (notes ++ fill_notes n m)
      told origin is orderly asked =
          uses_told origin m from n notes (there.machine origin is) (orderly asked) there.begins running
          (there.remembers asked origin is (orderly asked))

      parts_of : (origin : Machine) → first ≡ run origin from
          → lines_left kinds origin from n (from + steps - n)
          ≡ lines_of_step kinds origin from (seen_from n m) ++ lines_left kinds origin from (n + 1) (from + steps - (n + 1))
      parts_of origin is =
          let at = there.machine origin is in
          subst (λ (t : Machine). lines_left kinds origin from n (from + steps - n)
          ≡ lines_of_step kinds origin from (seen_from n t) ++ lines_left kinds origin from (n + 1) (from + steps - (n + 1))) (sym at)
          (step_left kinds origin from n (from + steps) before (ap (λ (t : Machine). t.platform.status) (sym at) ∙ running))

      pub step_stopped : PutsStep new false → AllPut new false
      step_stopped puts = λ origin is orderly.
          rest_stopped K.stands_for old now new _ _ _ _ (parts_of origin is) (there.left origin is orderly)
          (puts origin from (told origin is orderly))

      rest_put : PutsStep new true → (origin : Machine) → first ≡ run origin from → (kinds.stale ≡ true → IsOrderly origin)
          → PutsRest K.stands_for old new (lines_left kinds origin from (n + 1) (from + steps - (n + 1))) (lines_from kinds origin from steps)
      rest_put puts origin is orderly =
          rest_then K.stands_for old now new _ _ _ _ (parts_of origin is) (there.left origin is orderly)
          (puts origin from (told origin is orderly))

      pub step_front : PutsStep new true → AllPut new false
      step_front puts = λ origin is orderly. rest_front K.stands_for old new _ _ (rest_put puts origin is orderly)

      pub step_logged : (after : Machine) (counts_after : List CountLine) (noted notes_after : List Note) (kept : Before) (event : Option Event)
          → PutsStep new true → HasBeenMade (seen_from n m) event after → kept ≡ before_of n m → K.faults now ≤ K.faults new
          → ((origin : Machine) → kept ≡ before_of (from + (n - from)) (run origin (from + (n - from)))
          → step_events (seen origin (from + (n - from))) ≡ option_to_list event
          → AreCountsIf kinds.counts origin from (n - from) counts → AreCountsIf kinds.counts origin from (n - from + 1) counts_after)
          → (kinds.stale ≡ true → noted ≡ (notes ++ fill_notes n m) ++ found_notes n m)
          → ((origin : Machine) → after ≡ run origin (n + 1) → Remembers origin from (n + 1) noted → Remembers origin from (n + 1) notes_after)
          → IsLoggedTo (n + 1) after counts_after notes_after new
      step_logged after counts_after noted notes_after kept event puts made is_kept faults counted is_noted renewed = record {
        begins = omega (arith, there.begins);
        within = omega (arith, before);
        machine = λ origin is. made_now origin m after n (there.machine origin is) made.after;
        early = omega (arith, there.early, made.most);
        counted = λ origin is.
            counted_now kinds.counts origin m from n counts counts_after kept event there.begins (there.machine origin is) is_kept made.events
            (counted origin) (there.counted origin is);
        remembers = λ asked origin is orderly. let at = there.machine origin is in
            renewed origin (made_now origin m after n at made.after)
            (remembered_on origin m from n notes at orderly there.begins running (there.remembers asked origin is orderly) noted (is_noted asked));
        left = λ origin is orderly. rest_put puts origin is orderly;
        count = omega (arith, there.count, faults);
      }

-- before its first step
pub starts : {O : Type 0} (K : sinks.Ghosts O) (kinds : Kinds) (from steps : ℕ) (first : Machine) (old : O) (counts : List CountLine) (notes : List Note)
    → counts ≡ [] → notes ≡ [] → IsLoggedTo K kinds from steps first old from first counts notes old
starts K kinds from steps first old counts notes none_counted none_noted = record {
  begins = omega arith;
  within = omega arith;
  machine = λ origin is. is;
  early = omega arith;
  counted = λ origin is. rw none_counted (counts_start origin from kinds.counts (from - from) (omega arith));
  remembers = λ asked origin is orderly. rw none_noted (remembers_at_start origin from);
  left = λ origin is orderly new ok puts.
      subst (λ (l : List Line). Puts K.stands_for old new ok (text_of_lines l)) (all_left kinds origin from steps) puts;
  count = omega arith;
}

-- the same after plain steps that have been passed, if there were any
module _ {O : Type 0} {K : sinks.Ghosts O} {kinds : Kinds} {from steps n made : ℕ} {first m after : Machine} {old now : O} {counts : List CountLine} {notes : List Note}
    (there : IsLoggedTo K kinds from steps first old n m counts notes now) (has : HasPassedPlain kinds m (from + steps - n) made after) where
  here : IsLoggedTo K kinds from steps first old (n + made) after counts notes now
  here = passed K kinds from steps first old n made m after counts notes now there has

  pub all_put_here : from + steps ≤ n + made → AllPut K kinds from steps first old now true
  all_put_here = all_put K kinds from steps first old (n + made) after counts notes now here

  pub idle_counted_here : after.platform.status ≢ Running → AllCounted K kinds from steps first old counts
  idle_counted_here = idle_counted K kinds from steps first old (n + made) after counts notes now here

  pub idle_put_here : after.platform.status ≢ Running → AllPut K kinds from steps first old now true
  idle_put_here = idle_put K kinds from steps first old (n + made) after counts notes now here

  module _ (before : n + made < from + steps) (running : after.platform.status ≡ Running) (kept : Before) (is_kept : kept ≡ before_of (n + made) after) (new : O) where
    -- by the number that is kept of the step
    abbrev PutsKept : ℕ → Bool → Type 0
    PutsKept k ok = (origin : Machine) (from : ℕ) → (kinds.stale ≡ true → TellUses origin from (seen_from k after) (notes ++ fill_notes k after))
        → Puts K.stands_for now new ok (text_of_lines (lines_of_step kinds origin from (seen_from k after)))

    puts_here : (ok : Bool) → PutsKept kept.number ok → PutsKept (n + made) ok
    puts_here ok = subst (λ (b : Before). PutsKept b.number ok) is_kept

    pub step_stopped_here : PutsKept kept.number false → AllPut K kinds from steps first old new false
    step_stopped_here puts = step_stopped K kinds from steps first old (n + made) after counts notes now here before running new (puts_here false puts)

    pub step_front_here : PutsKept kept.number true → AllPut K kinds from steps first old new false
    step_front_here puts = step_front K kinds from steps first old (n + made) after counts notes now here before running new (puts_here true puts)
