-- A guest alone: its machine after a turn, and after a try.
use Rattle.std.specs.Prelude.{Ok, Err, Result}
use Rattle.std.proofs.Common.{arith, false, ◌≡◌, ◌∙◌, ℕ, ◌+◌, ◌-◌, ◌<◌, ◌≤◌, List, [], ◌∷◌, ◌++◌, Option, Some, None, length, get_or, refl, ap, sym, subst}
use Rattle.arch_defs.specs.declared.cached.Entry.{Entry}
use Rattle.std.proofs.Math.Seq.{get_or-append_seam}
use Rattle.std.proofs.lemmas.List.{length-append}
use Rattle.arch_defs.specs.Spaces.{Space, front}
use Rattle.guest_settings.specs.declared.statuses.Status.TheVariants.{Running}
use Rattle.machine_defs.specs.declared.events.Event.{Event}
use Rattle.machine_defs.specs.Fills.{fill, missing_entry, needed}
use Rattle.machine_defs.specs.Machine.{Machine}
use Rattle.machine_defs.specs.Runs.{left_after, run, step}
use Rattle.guest_turns.specs.declared.trying.Made.{Made}
use Rattle.guest_turns.specs.declared.trying.Made.TheVariants as made
use Rattle.guest_turns.specs.Hosted.{Hosted, KeepsShares, is_set, machine_at, no_machine}
use Rattle.guest_turns.specs.Tries.{FillsAreLast, HasTried, LastTryIsStep}
use Rattle.guest_turns.specs.TurnLists.{RunsMakeAtMost, updated}
use Rattle.guest_turns.proofs.Updating.{length_updated, updated_same}
use Rattle.step_logs.specs.Tries.{IsOneTry}
use Rattle.guest_logs.specs.HostTries.{IsAlone, IsAnswerTo}

-- a host of one machine
pub booted_alone : (host : Hosted) (m : Machine) → host.machines ≡ m ∷ [] → ((g : ℕ) → is_set host.retired g ≡ false) → IsAlone host
booted_alone host m is active = record { one = ap (λ (machines : List Machine). length machines) is; active = active }

-- its machine has changed so
pub changed_one : (machines after : List Machine) (change : Machine → Machine) → length machines ≡ 1 → after ≡ updated 0 change machines
    → machine_at after 0 ≡ change (machine_at machines 0)
changed_one machines after change one is =
    ap (λ (machines : List Machine). machine_at machines 0) is ∙ updated_same 0 change machines no_machine (omega (arith, one))

pub still_alone : (host after : Hosted) (change : Machine → Machine) → IsAlone host → after.machines ≡ updated 0 change host.machines → after.retired ≡ host.retired
    → IsAlone after
still_alone host after change alone is shares = record {
  one = ap (λ (machines : List Machine). length machines) is ∙ length_updated 0 change host.machines ∙ alone.one;
  active = λ g. ap (λ flags. is_set flags g) shares ∙ alone.active g;
}

-- after a try
pub tried_alone : (result : Made) (host after : Hosted) → IsAlone host → HasTried result 0 host.machines after.machines → KeepsShares host after → IsAlone after
tried_alone made.Filled host after alone (e, missing, is) shares = still_alone host after (λ m. fill m e) alone is shares.retired
tried_alone (made.Stepped event) host after alone (ready, made, is) shares = still_alone host after left_after alone is shares.retired
tried_alone made.Waits host after alone (ready, waits, is) shares = still_alone host after left_after alone is shares.retired

-- what it has filled is behind the other entries of the front space
some_behind : (others : List Entry) (e : Entry) → 0 < length (others ++ e ∷ [])
some_behind [] e = omega arith
some_behind (x ∷ others) e = omega arith

pub filled_behind : (m : Machine) (old new : List Machine) → m ≡ machine_at old 0 → length old ≡ 1 → FillsAreLast → needed ≤ m.entry_room → HasTried made.Filled 0 old new
    → 0 < length (front (machine_at new 0).spaces)
filled_behind m old new same one last room (e, missing, is) =
    let found = last (machine_at old 0) e (rw same at room) missing in
    rw (changed_one old new (λ m. fill m e) one is, found.1) (some_behind found.0 e)

pub tried_is : (made : Made) (m : Machine) (old new : List Machine) (answer : Result (Option Event) Entry) → m ≡ machine_at old 0 → length old ≡ 1 → FillsAreLast
    → needed ≤ m.entry_room → HasTried made 0 old new → IsAnswerTo made (front (machine_at new 0).spaces) answer → IsOneTry m answer (machine_at new 0)
tried_is made.Filled m old new answer same one last room (e, missing, is) answered =
    let found = last (machine_at old 0) e (rw same at room) missing in
    let after = changed_one old new (λ m. fill m e) one is in
    let answer_is : answer ≡ Err e = answered found.0 e (ap (λ (m : Machine). front m.spaces) after ∙ found.1) in
    rw (answer_is, same) (missing, after)
tried_is (made.Stepped event) m old new answer same one last room (ready, told, is) answered =
    rw (answered, same) (ready, told, changed_one old new left_after one is)
tried_is made.Waits m old new answer same one last room (ready, waits, is) answered =
    rw (answered, same) (ready, waits, changed_one old new left_after one is)

-- the entries of the front space are counted, and the last of them is there
pub some_counted : (m : Machine) (n : ℕ) → ((d : Space) → n ≡ length (get_or m.spaces 0 d).entries) → 0 < length (front m.spaces) → 1 ≤ n
some_counted m n counted some = by m.spaces counted some
  where
    by : (spaces : List Space) → ((d : Space) → n ≡ length (get_or spaces 0 d).entries) → 0 < length (front spaces) → 1 ≤ n
    by [] counted some = absurd (omega (arith, some))
    by (s ∷ ss) counted some = omega (arith, counted s, some)

pub last_is : (m : Machine) (n : ℕ) (entry : Entry) → ((d : Space) → n ≡ length (get_or m.spaces 0 d).entries)
    → ((d : Space) → entry ≡ get_or (get_or m.spaces 0 d).entries (n - 1) entry) → (others : List Entry) (e : Entry) → front m.spaces ≡ others ++ e ∷ [] → entry ≡ e
last_is m n entry counted there others e is = by m.spaces counted there is
  where
    by : (spaces : List Space) → ((d : Space) → n ≡ length (get_or spaces 0 d).entries)
        → ((d : Space) → entry ≡ get_or (get_or spaces 0 d).entries (n - 1) entry) → front spaces ≡ others ++ e ∷ [] → entry ≡ e
    by [] counted there is = absurd (omega (arith, ap (λ (entries : List Entry). length entries) is, some_behind others e))
    by (s ∷ ss) counted there is =
        let place : n - 1 ≡ length others = omega (arith, counted s ∙ ap (λ (entries : List Entry). length entries) is ∙ length-append others (e ∷ [])) in
        there s ∙ ap (λ (entries : List Entry). get_or entries (n - 1) entry) is ∙ ap (λ i. get_or (others ++ e ∷ []) i entry) place
        ∙ get_or-append_seam others e [] entry

-- how many steps it has made then
left_most : (m : Machine) → RunsMakeAtMost → LastTryIsStep → m.platform.status ≡ Running → missing_entry m ≡ None
    → (left_after m).platform.steps ≤ m.platform.steps + 1
unfolding run
left_most m most last running ready = subst (λ (n : Machine). n.platform.steps ≤ m.platform.steps + 1) (last m running ready).step (most m 1)

pub try_most : (result : Made) (m : Machine) (old new : List Machine) → m ≡ machine_at old 0 → length old ≡ 1 → RunsMakeAtMost → LastTryIsStep
    → m.platform.status ≡ Running → HasTried result 0 old new → (machine_at new 0).platform.steps ≤ m.platform.steps + 1
try_most made.Filled m old new same one most last running (e, missing, is) =
    omega (arith, ap (λ (m : Machine). m.platform.steps) (changed_one old new (λ m. fill m e) one is), ap (λ (m : Machine). m.platform.steps) same)
try_most (made.Stepped event) m old new same one most last running (ready, told, is) =
    rw (changed_one old new left_after one is, sym same) (left_most m most last running (rw same ready))
try_most made.Waits m old new same one most last running (ready, waits, is) =
    rw (changed_one old new left_after one is, sym same) (left_most m most last running (rw same ready))
