-- What the notes of the steps of a run tell.
use Rattle.std.specs.List.{All}
use Rattle.std.specs.Option.{option_or}
use Rattle.std.proofs.Common.{arith, ◌≡◌, refl, sym, ap, ◌∙◌, subst, true≢false, ℕ, zero, suc, ◌+◌, ◌≤◌, Bool, true, false, cond, List, [], ◌∷◌, ◌++◌, Option, Some, None, get_or, map}
use Rattle.std.proofs.lemmas.Bool.{le-leb, lt-leb}
use Rattle.std.proofs.lemmas.List.Elements.{All-head, All-tail, All-weaker}
use Rattle.arch_defs.specs.declared.cached.Entry.{Entry}
use Rattle.arch_defs.specs.declared.first.FirstEntry.{FirstEntry}
use Rattle.arch_defs.specs.declared.roots.GuestRoot.{GuestRoot}
use Rattle.arch_defs.specs.Spaces.{Space, front}
use Rattle.guest_settings.specs.declared.statuses.Status.TheVariants.{Running}
use Rattle.machine_defs.specs.Fills.{after_fill, after_fills, fill, missing_entry, most_fills, ready}
use Rattle.machine_defs.specs.Freshness.{found_by_status, found_if_ended, next_found}
use Rattle.machine_defs.specs.Machine.{Machine, Platform}
use Rattle.machine_defs.specs.Runs.{left_after, run}
use Rattle.machine_defs.specs.Tries.{found_by_try, stages_of, try}
use Rattle.instruction_laws.specs.FrontSpaces.{FrontIs}
use Rattle.instruction_laws.proofs.Cached.{lacked}
use Rattle.instruction_laws.proofs.FirstTries.{tried_keeps_first}
use Rattle.fill_laws.specs.EachEntry.{EachEntry}
use Rattle.fill_laws.specs.Keeping.{IsOrderly}
use Rattle.fill_laws.proofs.EachEntry.{front_each, front_has, tried_each}
use Rattle.fill_laws.proofs.Filling.{only_spaces}
use Rattle.fill_laws.proofs.Orderly.{fill_stays_orderly, filled_orderly, stays_orderly}
use Rattle.fill_laws.proofs.Running.{next_run, step_running}
use Rattle.run_log.specs.declared.uses.Use.{Use}
use Rattle.run_log.specs.Fills.{filled_by_status, filled_then, filled_within, next_filled}
use Rattle.run_log.specs.Stale.{since_of}
use Rattle.run_log.specs.Uses.{uses}
use Rattle.caching_steps.specs.declared.notes.CachedName.{CachedName}
use Rattle.caching_steps.specs.declared.notes.Note.{Note}
use Rattle.caching_steps.specs.Noting.{first_name, used_name, noted_step, second_name, step_if}
use Rattle.caching_steps.specs.Remembering.{Remembers, RemembersAlike, RemembersAtStart, RemembersOn, TellsSince, TellsStep, cached_last, caches_name, fill_notes, found_notes, notes_of}
use Rattle.caching_steps.proofs.Matching.{are_noted, first_in, first_is_no_second, first_matches, noted_with, second_in, second_is_no_first, second_matches}
use Rattle.caching_steps.proofs.UsedOnes.{FirstHave, SecondHave, used_have}

-- the last of one step more
cached_next : (origin : Machine) (from n : ℕ) (name : CachedName) (caches : Bool) → from ≤ n → caches_name name (run origin n) ≡ caches
    → cached_last origin from (suc n) name ≡ option_or (step_if caches n) (cached_last origin from n name)
cached_next origin from n name caches after is = rw (le-leb from n after, is) (by caches)
  where
    by : (b : Bool) → cond b (Some n) (cached_last origin from n name) ≡ option_or (step_if b n) (cached_last origin from n name)
    by true = refl
    by false = refl

-- the notes of a step tell of it, and of what it does not cache as those before it
told_next : (origin : Machine) (from n : ℕ) (notes : List Note) (names : List CachedName) (name : CachedName) → from ≤ n
    → are_noted names name ≡ caches_name name (run origin n) → (caches_name name (run origin n) ≡ false → TellsStep origin from n notes name)
    → TellsStep origin from (suc n) (notes ++ notes_of n names) name
told_next origin from n notes names name after same before = by (caches_name name (run origin n)) refl
  where
    by : (b : Bool) → caches_name name (run origin n) ≡ b → TellsStep origin from (suc n) (notes ++ notes_of n names) name
    by true is = noted_with notes n names name true (same ∙ is) ∙ sym (cached_next origin from n name true after is)
    by false is = noted_with notes n names name false (same ∙ is) ∙ before is ∙ sym (cached_next origin from n name false after is)

told_beside : (notes : List Note) (n : ℕ) (names : List CachedName) (name : CachedName) → are_noted names name ≡ false
    → noted_step (notes ++ notes_of n names) name ≡ noted_step notes name
told_beside notes n names name other = noted_with notes n names name false other

-- what holds of the translations before fills and of the filled ones holds of those after them
filled_each : (P : GuestRoot → Entry → Type 0) (n : ℕ) (m : Machine) → IsOrderly m → All (P m.platform.virt.csrs.hgatp) (filled_within n m)
    → EachEntry P m.spaces → EachEntry P (after_fills n m).spaces
unfolding after_fills filled_within
filled_each P zero m is filled all = all
filled_each P (suc n) m is filled all = by (missing_entry m) refl (λ t. filled_each P n t) filled
  where
    by : (there : Option Entry) → missing_entry m ≡ there
        → ((t : Machine) → IsOrderly t → All (P t.platform.virt.csrs.hgatp) (filled_within n t) → EachEntry P t.spaces → EachEntry P (after_fills n t).spaces)
        → All (P m.platform.virt.csrs.hgatp) (filled_then (filled_within n) m there) → EachEntry P (after_fill (after_fills n) m there).spaces
    by None none deeper filled = all
    by (Some e) lacks deeper filled = let hgatp = m.platform.virt.csrs.hgatp in
        deeper (fill m e) (fill_stays_orderly m e is lacks) (All-tail (P hgatp) e (filled_within n (fill m e)) filled)
        (front_each P m.entry_room m.spaces e all
        (front_has (λ key. P key e) hgatp m.spaces (is.front (lacked m e lacks).0) (All-head (P hgatp) e (filled_within n (fill m e)) filled)))

each_weaker : (P Q : GuestRoot → Entry → Type 0) → ((key : GuestRoot) (e : Entry) → P key e → Q key e) → (spaces : List Space) → EachEntry P spaces → EachEntry Q spaces
each_weaker P Q f spaces all i s inside k e within = f (get_or spaces i s).key (get_or (get_or spaces i s).entries k e) (all i s inside k e within)

-- a machine that goes on
fills_are : (m : Machine) → m.platform.status ≡ Running → next_filled m ≡ filled_within (most_fills m) m
unfolding next_filled
fills_are m running = ap (filled_by_status m) running

found_are : (m : Machine) → m.platform.status ≡ Running
    → next_found m ≡ found_if_ended (found_by_try (stages_of (ready m)) (ready m)) (try (ready m))
unfolding next_found
found_are m running = ap (found_by_status (ready m)) running

ready_platform : (m : Machine) → (ready m).platform ≡ m.platform
ready_platform m = ap (λ (t : Machine). t.platform) (only_spaces m (most_fills m))

module _ (origin : Machine) (from n : ℕ) (notes : List Note) (is : IsOrderly origin) (after : from ≤ n)
    (running : (run origin n).platform.status ≡ Running) (remembers : Remembers origin from n notes) where
  abbrev now : Machine
  now = run origin n

  abbrev hgatp : GuestRoot
  hgatp = now.platform.virt.csrs.hgatp

  abbrev filled : List Note
  filled = notes ++ fill_notes n now

  -- at the last try
  abbrev Told : GuestRoot → Entry → Type 0
  Told key e = TellsStep origin from (suc n) filled (second_name key e)

  second_ready : EachEntry Told (ready now).spaces
  second_ready = filled_each Told (most_fills now) now (stays_orderly origin n is) own before
    where
      own : All (Told hgatp) (filled_within (most_fills now) now)
      own = subst (All (Told hgatp)) (fills_are now running) (λ i d inside. let e = get_or (next_filled now) i d in
          told_next origin from n notes (map (second_name hgatp) (next_filled now)) (second_name hgatp e) after
          (second_matches hgatp hgatp (next_filled now) e) (λ not. absurd (true≢false (sym (second_in hgatp (next_filled now) i d inside) ∙ not))))

      before : EachEntry Told now.spaces
      before i s inside k d within = let key = (get_or now.spaces i s).key in let e = get_or (get_or now.spaces i s).entries k d in
          told_next origin from n notes (map (second_name hgatp) (next_filled now)) (second_name key e) after
          (second_matches hgatp key (next_filled now) e) (λ not. remembers.second i s inside k d within)

  -- and after it
  abbrev all : List Note
  all = filled ++ found_notes n now

  abbrev FirstTold : FirstEntry → Type 0
  FirstTold e = TellsStep origin from (suc n) all (first_name e)

  first_left : All FirstTold (left_after (ready now)).platform.virt.first
  first_left = tried_keeps_first FirstTold (ready now) (stages_of (ready now)) before own
    where
      before : All FirstTold (ready now).platform.virt.first
      before = subst (λ (p : Platform). All FirstTold p.virt.first) (sym (ready_platform now))
          (λ i d inside. let e = get_or now.platform.virt.first i d in
          told_next origin from n filled (map first_name (next_found now)) (first_name e) after (first_matches (next_found now) e)
          (λ not. told_beside notes n (map (second_name hgatp) (next_filled now)) (first_name e) (second_is_no_first hgatp (next_filled now) e)
          ∙ remembers.first i d inside))

      own : All FirstTold (found_if_ended (found_by_try (stages_of (ready now)) (ready now)) (try (ready now)))
      own = subst (All FirstTold) (found_are now running) (λ i d inside. let e = get_or (next_found now) i d in
          told_next origin from n filled (map first_name (next_found now)) (first_name e) after (first_matches (next_found now) e)
          (λ not. absurd (true≢false (sym (first_in (next_found now) i d inside) ∙ not))))

  abbrev SecondTold : GuestRoot → Entry → Type 0
  SecondTold key e = TellsStep origin from (suc n) all (second_name key e)

  second_left : EachEntry SecondTold (left_after (ready now)).spaces
  second_left = tried_each SecondTold (ready now) (stages_of (ready now)) (each_weaker Told SecondTold
      (λ key e told. told_beside filled n (map first_name (next_found now)) (second_name key e) (first_is_no_second (next_found now) key e) ∙ told)
      (ready now).spaces second_ready)

  remembers_next : Remembers origin from (suc n) all
  remembers_next = let same : run origin (suc n) ≡ left_after (ready now) = sym (next_run origin n) ∙ step_running now running in record {
    first = subst (λ (t : Machine). All FirstTold t.platform.virt.first) (sym same) first_left;
    second = subst (λ (t : Machine). EachEntry SecondTold t.spaces) (sym same) second_left;
  }

  -- what is used at the last try is cached then
  abbrev SinceTold : Use → Type 0
  SinceTold used = noted_step filled (used_name hgatp used) ≡ since_of origin from n hgatp used

  first_since : (e : FirstEntry) → TellsStep origin from n notes (first_name e) → FirstHave SinceTold e
  unfolding since_of
  first_since e told va access =
      told_beside notes n (map (second_name hgatp) (next_filled now)) (first_name e) (second_is_no_first hgatp (next_filled now) e) ∙ told

  second_since : (e : Entry) → Told hgatp e → SecondHave SinceTold e
  unfolding since_of
  second_since e told address kind = let next : suc n ≡ n + 1 = omega arith in
      told ∙ ap (λ k. cached_last origin from k (second_name hgatp e)) next

  front_since : (spaces : List Space) → FrontIs hgatp spaces → EachEntry Told spaces → All (SecondHave SinceTold) (front spaces)
  front_since [] there told = absurd there
  front_since (s ∷ ss) there told = All-weaker (Told hgatp) (SecondHave SinceTold) second_since s.entries
      (subst (λ key. All (Told key) s.entries) there (All-head (λ (s : Space). All (Told s.key) s.entries) s ss told))

  since_told : All SinceTold (uses (ready now))
  since_told = used_have SinceTold (ready now)
      (subst (λ (p : Platform). All (FirstHave SinceTold) p.virt.first) (sym (ready_platform now))
      (λ i d inside. first_since (get_or now.platform.virt.first i d) (remembers.first i d inside)))
      (λ folding. front_since (ready now).spaces
      (subst (λ (p : Platform). FrontIs p.virt.csrs.hgatp (ready now).spaces) (ready_platform now)
      ((filled_orderly (most_fills now) now (stays_orderly origin n is)).front folding)) second_ready)

pub remembers_on : RemembersOn
remembers_on origin from n notes is after running remembers = remembers_next origin from n notes is after running remembers

pub tells_since : TellsSince
tells_since origin from n notes is after running remembers = since_told origin from n notes is after running remembers

-- before the first step nothing has been cached
none_cached : (origin : Machine) (from k : ℕ) (name : CachedName) → k ≤ from → None ≡ cached_last origin from k name
none_cached origin from zero name low = refl
none_cached origin from (suc k) name low = rw (lt-leb from k (omega (arith, low))) (none_cached origin from k name (omega (arith, low)))

pub remembers_at_start : RemembersAtStart
unfolding noted_step
remembers_at_start origin from = record {
  first = λ i d inside. none_cached origin from from (first_name (get_or (run origin from).platform.virt.first i d)) (omega arith);
  second = λ i s inside k d within. let there = get_or (run origin from).spaces i s in
      none_cached origin from from (second_name there.key (get_or there.entries k d)) (omega arith);
}

pub remembers_alike : RemembersAlike
remembers_alike origin from n notes others remembers alike = record {
  first = λ i d inside. alike.first i d inside ∙ remembers.first i d inside;
  second = λ i s inside k d within. alike.second i s inside k d within ∙ remembers.second i s inside k d within;
}
