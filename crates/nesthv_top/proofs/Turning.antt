-- Turns, one after the other, by what is left of them.
use Rattle.std.proofs.Common.{◌≡◌, ◌≢◌, ℕ, suc, ◌+◌, ◌*◌, ◌%◌, ◌^◌, ◌<◌, ◌≤◌, ◌==◌, ◌⊎◌, inl, inr, true, false, List, [], ◌∷◌, ◌++◌, length, drop, get_or, refl, ap, sym, ◌∙◌, arith, drop-cons, add-one}
use Rattle.std.specs.List.{All}
use Rattle.std.proofs.lemmas.Bool.{cases_Bool, cases_lt, eqb-true, eq-eqb, both_ways}
use Rattle.std.proofs.lemmas.List.{drop_all, get_or_past}
use Rattle.std.proofs.lemmas.Nat.{mul-le}
use Rattle.std.proofs.lemmas.List.Sums.{sum_by-cons}
use Rattle.machine_defs.specs.Fills.{most_tries}
use Rattle.machine_defs.specs.Machine.{Machine}
use Rattle.machine_defs.specs.Runs.{events, plain_count, run, trace_of}
use Rattle.guest_turns.specs.Account.{Accounted, IsTurn}
use Rattle.guest_turns.specs.Hosted.{machine_at, no_machine}
use Rattle.guest_turns.specs.TurnLists.{entries_for, turn_entries, turn_events, with_turn, with_turns}
use Rattle.guest_turns.proofs.Turns.{plain_then, trace_then}
use Rattle.guest_turns.proofs.Updating.{length_updated, updated_other}
use Rattle.run_config.specs.Configurations.{IsTurnWithin}
use Rattle.rv64_hart.specs.Counts.{Counts, IsRaisedBy}
use Rattle.nesthv_top.specs.Plans.{turn_steps}
use Rattle.nesthv_top.specs.Runnings.{CountsTurnsOf}

-- after the first i of these turns
pub record TurnsLeft (turns : List (ℕ × ℕ)) (first : List Machine) (began : Counts) (i : ℕ) (ms : List Machine) (tally : Counts) : Type 0 where
  pub machines : with_turns (drop i turns) ms ≡ with_turns turns first
  pub count : length ms ≡ length first
  pub steps : (g : ℕ) → g < length ms → (machine_at ms g).platform.steps + turn_steps (drop i turns) ≤ 2 ^ 60 + turn_steps turns
  pub entries_grow : began.entries ≤ tally.entries
  pub rooms : (g : ℕ) → (machine_at ms g).entry_room ≡ (machine_at first g).entry_room
  pub entries_most : tally.entries + entries_for first (drop i turns) ≤ began.entries + entries_for first turns
  pub taken_most : tally.taken + turn_steps (drop i turns) ≤ began.taken + turn_steps turns
  pub taken_least : began.taken + plain_count (turn_events turns first) ≤ tally.taken + plain_count (turn_events (drop i turns) ms)
  pub trace : (tally.trace + trace_of (turn_events (drop i turns) ms)) % 2 ^ 64 ≡ (began.trace + trace_of (turn_events turns first)) % 2 ^ 64

steps_more : (g k : ℕ) (turns : List (ℕ × ℕ)) → turn_steps ((g, k) ∷ turns) ≡ k + turn_steps turns
steps_more g k turns = sum_by-cons (λ turn. turn.1) (g, k) turns

entries_more : (ms : List Machine) (g k : ℕ) (turns : List (ℕ × ℕ))
    → entries_for ms ((g, k) ∷ turns) ≡ turn_entries (machine_at ms g).entry_room k + entries_for ms turns
entries_more ms g k turns = sum_by-cons (λ turn. turn_entries (machine_at ms turn.0).entry_room turn.1) (g, k) turns

pub left_is : (turns : List (ℕ × ℕ)) (i g k : ℕ) (d : ℕ × ℕ) → i < length turns → get_or turns i d ≡ (g, k) → drop i turns ≡ (g, k) ∷ drop (i + 1) turns
left_is turns i g k d inside is = drop-cons turns i d inside ∙ rw (is, add-one i) refl

events_more : (g k : ℕ) (turns : List (ℕ × ℕ)) (ms : List Machine)
    → turn_events ((g, k) ∷ turns) ms ≡ events (machine_at ms g) k ++ turn_events turns (with_turn g k ms)
events_more g k turns ms = refl

plain_more : (g k : ℕ) (turns : List (ℕ × ℕ)) (ms : List Machine)
    → plain_count (turn_events ((g, k) ∷ turns) ms) ≡ plain_count (events (machine_at ms g) k) + plain_count (turn_events turns (with_turn g k ms))
plain_more g k turns ms = rw (events_more g k turns ms) (plain_then (events (machine_at ms g) k) (turn_events turns (with_turn g k ms)))

trace_more : (g k : ℕ) (turns : List (ℕ × ℕ)) (ms : List Machine)
    → trace_of (turn_events ((g, k) ∷ turns) ms) ≡ trace_of (events (machine_at ms g) k) + trace_of (turn_events turns (with_turn g k ms))
trace_more g k turns ms = rw (events_more g k turns ms) (trace_then (events (machine_at ms g) k) (turn_events turns (with_turn g k ms)))

-- the steps of the other machines stay
steps_after : (g k taken j left all : ℕ) (ms after : List Machine) → after ≡ with_turn g k ms
    → (machine_at ms g).platform.steps + taken ≡ (machine_at after g).platform.steps → taken ≤ k
    → (machine_at ms j).platform.steps + (k + left) ≤ all → (machine_at after j).platform.steps + left ≤ all
steps_after g k taken j left all ms after is made most before = by (cases_Bool (g == j))
  where
    by : ((g == j) ≡ true) ⊎ ((g == j) ≡ false) → (machine_at after j).platform.steps + left ≤ all
    by (inl same) =
        let e : g ≡ j = eqb-true g j same in
        let made_here : (machine_at ms j).platform.steps + taken ≡ (machine_at after j).platform.steps = rw e at made in
        omega (arith, made_here, most, before)
    by (inr other) =
        let apart : g ≢ j = λ e. both_ways (g == j) other (rw e (eq-eqb j j refl)) in
        let stays : machine_at after j ≡ machine_at ms j = ap (λ ms. machine_at ms j) is ∙ updated_other g j (λ m. run m k) ms no_machine apart in
        let kept : (machine_at after j).platform.steps ≡ (machine_at ms j).platform.steps = ap (λ m. m.platform.steps) stays in
        omega (arith, kept, before)

-- the rooms of all machines stay
rooms_after : (g k j : ℕ) (ms after : List Machine) → after ≡ with_turn g k ms → (machine_at after g).entry_room ≡ (machine_at ms g).entry_room
    → (machine_at after j).entry_room ≡ (machine_at ms j).entry_room
rooms_after g k j ms after is own = by (cases_Bool (g == j))
  where
    by : ((g == j) ≡ true) ⊎ ((g == j) ≡ false) → (machine_at after j).entry_room ≡ (machine_at ms j).entry_room
    by (inl same) = let e : g ≡ j = eqb-true g j same in rw e at own
    by (inr other) =
        let apart : g ≢ j = λ e. both_ways (g == j) other (rw e (eq-eqb j j refl)) in
        ap (λ ms. (machine_at ms j).entry_room) is ∙ ap (λ m. m.entry_room) (updated_other g j (λ m. run m k) ms no_machine apart)

-- one turn more
pub left_next : (turns : List (ℕ × ℕ)) (first : List Machine) (began : Counts) (i g k taken : ℕ) (d : ℕ × ℕ) (ms : List Machine) (tally : Counts)
    (after : List Machine) (later : Counts) → i < length turns → get_or turns i d ≡ (g, k) → TurnsLeft turns first began i ms tally
    → after ≡ with_turn g k ms → IsTurn (machine_at ms g) k (machine_at after g) taken → Accounted (machine_at ms g) k taken tally later
    → TurnsLeft turns first began (i + 1) after later
left_next turns first began i g k taken d ms tally after later inside is before machines made account =
    let left = drop (i + 1) turns in
    let e : drop i turns ≡ (g, k) ∷ left = left_is turns i g k d inside is in
    let all : turn_steps (drop i turns) ≡ k + turn_steps left = ap turn_steps e ∙ steps_more g k left in
    let entries : entries_for first (drop i turns) ≡ turn_entries (machine_at first g).entry_room k + entries_for first left =
    ap (entries_for first) e ∙ entries_more first g k left in
    let room : turn_entries (machine_at ms g).entry_room k ≡ turn_entries (machine_at first g).entry_room k = ap (λ room. turn_entries room k) (before.rooms g) in
    let plain : plain_count (turn_events (drop i turns) ms) ≡ plain_count (events (machine_at ms g) k) + plain_count (turn_events left after) =
    rw (e, machines) (plain_more g k left ms) in
    let trace : trace_of (turn_events (drop i turns) ms) ≡ trace_of (events (machine_at ms g) k) + trace_of (turn_events left after) =
    rw (e, machines) (trace_more g k left ms) in
    record {
      machines = ap (with_turns left) machines ∙ ap (λ turns. with_turns turns ms) (sym e) ∙ before.machines;
      count = ap length machines ∙ length_updated g (λ m. run m k) ms ∙ before.count;
      steps = λ j h.
          let there : j < length ms = rw (machines, length_updated g (λ m. run m k) ms) at h in
          steps_after g k taken j (turn_steps left) (2 ^ 60 + turn_steps turns) ms after machines made.steps made.most (rw all at (before.steps j there));
      entries_grow = omega (arith, before.entries_grow, account.entries_grow);
      rooms = λ j. rooms_after g k j ms after machines made.room ∙ before.rooms j;
      entries_most = omega (arith, entries, room, before.entries_most, account.entries_most);
      taken_most = omega (arith, all, before.taken_most, account.taken_most, made.most);
      taken_least = omega (arith, plain, before.taken_least, account.taken_least);
      trace = omega (arith, trace, before.trace, account.trace);
    }

-- the room of the machine of a guest that there is not
none_has_room : no_machine.entry_room ≤ 256
unfolding no_machine
none_has_room = omega arith

-- few turns of short lengths are not many steps
steps_below : (turns : List (ℕ × ℕ)) → ((i : ℕ) (d : ℕ × ℕ) → i < length turns → (get_or turns i d).1 ≤ 2 ^ 32) → turn_steps turns ≤ length turns * 2 ^ 32
steps_below [] short = omega arith
steps_below ((g, k) ∷ turns) short =
    let one : k ≤ 2 ^ 32 = short 0 (g, k) (omega arith) in
    let rest = steps_below turns (λ i d inside. short (suc i) d (omega (arith, inside))) in
    omega (arith, steps_more g k turns, one, rest)

pub few_steps : (count : ℕ) (turns : List (ℕ × ℕ)) → length turns ≤ 2 ^ 20 → All (IsTurnWithin count) turns → turn_steps turns ≤ 2 ^ 52
few_steps count turns few within =
    let most = steps_below turns (λ i d inside. (within i d inside).steps) in
    omega (arith, few, most)

-- and take few entries of the hart
room_below : (ms : List Machine) (g : ℕ) → All (λ m. m.entry_room ≤ 256) ms → (machine_at ms g).entry_room ≤ 256
room_below ms g rooms = by (cases_lt g (length ms))
  where
    by : (g < length ms) ⊎ (length ms ≤ g) → (machine_at ms g).entry_room ≤ 256
    by (inl inside) = rooms g no_machine inside
    by (inr past) = rw (get_or_past ms g no_machine past) none_has_room

entries_below : (ms : List Machine) (turns : List (ℕ × ℕ)) → All (λ m. m.entry_room ≤ 256) ms
    → ((i : ℕ) (d : ℕ × ℕ) → i < length turns → (get_or turns i d).1 ≤ 2 ^ 32) → entries_for ms turns ≤ length turns * (2 ^ 32 + 1) * most_tries 256
entries_below ms [] rooms short = omega arith
entries_below ms ((g, k) ∷ turns) rooms short =
    let one : k ≤ 2 ^ 32 = short 0 (g, k) (omega arith) in
    let room = room_below ms g rooms in
    let most : (k + 1) * most_tries (machine_at ms g).entry_room ≤ (2 ^ 32 + 1) * most_tries 256 =
    mul-le (k + 1) (most_tries (machine_at ms g).entry_room) (2 ^ 32 + 1) (most_tries 256) (omega (arith, one)) (omega (arith, room)) in
    let rest = entries_below ms turns rooms (λ i d inside. short (suc i) d (omega (arith, inside))) in
    omega (arith, entries_more ms g k turns, most, rest)

pub few_entries : (count : ℕ) (turns : List (ℕ × ℕ)) (ms : List Machine) → length turns ≤ 2 ^ 20 → All (IsTurnWithin count) turns
    → All (λ m. m.entry_room ≤ 256) ms → entries_for ms turns ≤ 2 ^ 61
few_entries count turns ms few within rooms =
    let most = entries_below ms turns rooms (λ i d inside. (within i d inside).steps) in
    omega (arith, few, most)

-- the bound on the entries of the turns that are left
pub entries_left : (count : ℕ) (turns : List (ℕ × ℕ)) (first : List Machine) (began : Counts) (i : ℕ) (d : ℕ × ℕ) (ms : List Machine) (tally : Counts)
    → length turns ≤ 2 ^ 20 → All (IsTurnWithin count) turns → All (λ m. m.entry_room ≤ 256) first → i < length turns → TurnsLeft turns first began i ms tally
    → began.entries ≤ 2 ^ 61 → tally.entries + turn_entries (machine_at ms (get_or turns i d).0).entry_room (get_or turns i d).1 ≤ 2 ^ 62
entries_left count turns first began i d ms tally few within rooms inside left start =
    let turn = get_or turns i d in
    let most = few_entries count turns first few within rooms in
    let rest = ap (entries_for first) (left_is turns i turn.0 turn.1 d inside refl) ∙ entries_more first turn.0 turn.1 (drop (i + 1) turns) in
    let room = ap (λ room. turn_entries room turn.1) (left.rooms turn.0) in
    omega (arith, start, most, rest, room, left.entries_most)

pub bounded : (count : ℕ) (turns : List (ℕ × ℕ)) (first : List Machine) (began : Counts) (i : ℕ) (d : ℕ × ℕ) (ms : List Machine) (tally : Counts)
    → length turns ≤ 2 ^ 20 → All (IsTurnWithin count) turns → i < length turns → TurnsLeft turns first began i ms tally
    → (turn_steps turns ≤ 2 ^ 52) × (turn_steps (drop i turns) ≡ (get_or turns i d).1 + turn_steps (drop (i + 1) turns))
bounded count turns first began i d ms tally few within inside left =
    let turn = get_or turns i d in
    (few_steps count turns few within, ap turn_steps (left_is turns i turn.0 turn.1 d inside refl) ∙ steps_more turn.0 turn.1 (drop (i + 1) turns))

-- no turn is left
taken_in_all : (turns : List (ℕ × ℕ)) (first : List Machine) (began : Counts) (i : ℕ) (ms : List Machine) (tally : Counts) → length turns ≤ i
    → TurnsLeft turns first began i ms tally → began.taken + plain_count (turn_events turns first) ≤ tally.taken
taken_in_all turns first began i ms tally end left =
    let all = rw (drop_all i turns end) at left.taken_least in omega (arith, all)

traced_in_all : (turns : List (ℕ × ℕ)) (first : List Machine) (began : Counts) (i : ℕ) (ms : List Machine) (tally : Counts) → length turns ≤ i
    → TurnsLeft turns first began i ms tally → IsRaisedBy (trace_of (turn_events turns first)) began.trace tally.trace
traced_in_all turns first began i ms tally end left =
    let all = rw (drop_all i turns end) at left.trace in omega (arith, all)

pub counted_turns : (turns : List (ℕ × ℕ)) (first : List Machine) (began : Counts) (i : ℕ) (ms : List Machine) (tally : Counts) → length turns ≤ i
    → TurnsLeft turns first began i ms tally → CountsTurnsOf first turns began tally
counted_turns turns first began i ms tally end left = record {
  entries_grow = left.entries_grow;
  entries_most = omega (arith, left.entries_most);
  taken_most = omega (arith, left.taken_most);
  taken_least = taken_in_all turns first began i ms tally end left;
  trace = traced_in_all turns first began i ms tally end left;
}
