-- Runs of plain steps: the log has nothing of them, where no kind is asked for that tells of one.
use Rattle.std.specs.List.{flat_map}
use Rattle.std.proofs.Common.{arith, ◌≡◌, ◌∙◌, refl, subst, ap, ap₂, ℕ, zero, suc, ◌+◌, ◌-◌, ◌<◌, ◌≤◌, cond, Bool, true, false, ◌||◌, List, [], ◌∷◌, ◌++◌, drop, length, map, take}
use Rattle.std.proofs.Math.Seq.{drop-length}
use Rattle.std.proofs.lemmas.List.Sums.{count_by-le-length, sum_by-append}
use Rattle.arch_defs.specs.declared.modes.Mode.{Mode}
use Rattle.arch_defs.specs.Consoles.{ConsoleState}
use Rattle.arch_defs.specs.Traps.{is_virtual}
use Rattle.guest_settings.specs.declared.statuses.Status.{Status}
use Rattle.guest_settings.specs.declared.statuses.Status.TheVariants.{Running, Waiting, Stopped}
use Rattle.log_lines.specs.declared.kinds.Kinds.{Kinds}
use Rattle.log_lines.specs.declared.lines.Line.{Line}
use Rattle.log_lines.specs.declared.lines.Line.TheVariants as line
use Rattle.machine_defs.specs.declared.events.Event.{Event}
use Rattle.machine_defs.specs.declared.events.Event.TheVariants.{Plain, Trap, System}
use Rattle.machine_defs.specs.Fills.{most_fills, ready}
use Rattle.machine_defs.specs.Machine.{Ended, Machine, Tried, WaitsForGood}
use Rattle.machine_defs.specs.Runs.{event_in, events, events_by, is_plain_step, plain_count, run, step}
use Rattle.machine_defs.specs.Tries.{try}
use Rattle.fill_laws.proofs.Filling.{only_spaces}
use Rattle.fill_laws.proofs.Running.{next_run}
use Rattle.run_log.specs.Calls.{bytes_put, call_lines, inputs_read}
use Rattle.run_log.specs.Fences.{fence_lines}
use Rattle.run_log.specs.Fills.{fill_lines}
use Rattle.run_log.specs.Log.{if_asked, lines_of_step}
use Rattle.run_log.specs.Seen.{Seen, head_of, seen_from, step_outcome}
use Rattle.run_log.specs.Stale.{stale_lines}
use Rattle.run_log.specs.Steps.{step_lines}
use Rattle.run_log.specs.Traps.{trap_lines, trap_lines_by, world_lines, world_lines_by}
use Rattle.log_writer.specs.PlainRuns.{HasPassedPlain, tells_plain_steps}
use Rattle.log_writer.proofs.Idle.{lines_left, own_then}
use Rattle.log_writer.proofs.PlainSteps.{IsLeftByPlain, plain_leaves}

-- a plain step has no lines
same_world : (s : Seen) (virtual : Bool) → world_lines_by s virtual virtual ≡ []
same_world s true = refl
same_world s false = refl

none_taken : (taken : List (ℕ × ℕ)) → take (length taken - length taken) taken ≡ []
none_taken taken = let none : length taken - length taken ≡ 0 = omega arith in ap (λ k. take k taken) none

both_none : (a b : List Line) → a ≡ [] → b ≡ [] → a ++ b ≡ []
both_none a b first second = ap₂ (λ (a b : List Line). a ++ b) first second

if_none : (asked : Bool) (lines : List Line) → lines ≡ [] → if_asked asked lines ≡ []
if_none true lines none = none
if_none false lines none = refl

unasked : (asked : Bool) (lines : List Line) → asked ≡ false → if_asked asked lines ≡ []
unasked asked lines is = ap (λ b. if_asked b lines) is

neither : (a b : Bool) → (a || b) ≡ false → (a ≡ false) × (b ≡ false)
neither true b is = absurd cc
neither false b is = (refl, is)

untold : (kinds : Kinds) → tells_plain_steps kinds ≡ false
    → (kinds.fills ≡ false) × (kinds.stale ≡ false) × (kinds.steps ≡ false) × (kinds.counts ≡ false)
untold kinds is =
    let counts = neither (kinds.fills || kinds.stale || kinds.steps) kinds.counts is in
    let steps = neither (kinds.fills || kinds.stale) kinds.steps counts.0 in
    let (fills, stale) = neither kinds.fills kinds.stale steps.0 in
    (fills, stale, steps.1, counts.1)

pub untold_stale : (kinds : Kinds) → tells_plain_steps kinds ≡ false → kinds.stale ≡ false
untold_stale kinds is = (untold kinds is).1

pub untold_counts : (kinds : Kinds) → tells_plain_steps kinds ≡ false → kinds.counts ≡ false
untold_counts kinds is = (untold kinds is).3

module _ (n : ℕ) (m : Machine) (pc word : ℕ) (is : events_by m m.platform.status ≡ Plain pc word ∷ []) where
  abbrev s : Seen
  s = seen_from n m

  leaves : IsLeftByPlain (ready m) (step m) (step_outcome (ready m))
  leaves = plain_leaves m pc word is

  mode : (step m).platform.virt.mode ≡ m.platform.virt.mode
  mode = leaves.mode ∙ ap (λ (t : Machine). t.platform.virt.mode) (only_spaces m (most_fills m))

  console : (step m).platform.console ≡ m.platform.console
  console = leaves.console ∙ ap (λ (t : Machine). t.platform.console) (only_spaces m (most_fills m))

  no_trap : trap_lines s ≡ []
  unfolding trap_lines
  no_trap = ap (flat_map (trap_lines_by s)) is

  no_crossing : world_lines s ≡ []
  unfolding world_lines
  no_crossing = let virtual = is_virtual m.platform.virt.mode in
      ap (λ (after : Mode). world_lines_by s virtual (is_virtual after)) mode ∙ same_world s virtual

  no_bytes : bytes_put m (step m) ≡ []
  no_bytes = let bytes = m.platform.console.bytes in
      ap (λ (c : ConsoleState). drop (length bytes) c.bytes) console ∙ drop-length bytes

  no_inputs : inputs_read m (step m) ≡ []
  no_inputs = let inputs = m.platform.console.inputs in
      ap (λ (c : ConsoleState). take (length inputs - length c.inputs) inputs) console ∙ none_taken inputs

  no_call : call_lines s ≡ []
  unfolding call_lines
  no_call = both_none _ _
      (both_none _ _ (leaves.calls s) (ap (map (λ byte. line.Put (head_of s) byte)) no_bytes))
      (ap (map (λ (input : ℕ × ℕ). line.Got (head_of s) input.1)) no_inputs)

  no_fence : fence_lines s ≡ []
  unfolding fence_lines
  no_fence = leaves.fences s

  no_lines : (kinds : Kinds) (origin : Machine) (from : ℕ) → tells_plain_steps kinds ≡ false → lines_of_step kinds origin from s ≡ []
  no_lines kinds origin from is = let (fills, stale, steps, counts) = untold kinds is in
      both_none _ _ (both_none _ _ (both_none _ _ (both_none _ _ (both_none _ _ (both_none _ _
      (unasked kinds.fills (fill_lines s) fills)
      (unasked kinds.stale (stale_lines origin from s) stale))
      (unasked kinds.steps (step_lines s) steps))
      (if_none kinds.calls (call_lines s) no_call))
      (if_none kinds.fences (fence_lines s) no_fence))
      (if_none kinds.traps (trap_lines s) no_trap))
      (if_none kinds.worlds (world_lines s) no_crossing)

-- a run of k steps with k plain events begins with a plain step, and goes on so
abbrev IsPlainFirst : List Event → Type 0
IsPlainFirst events = (pc : ℕ) × (word : ℕ) × events ≡ Plain pc word ∷ []

one_by : (t : Tried) → length (event_in t) ≤ 1
one_by (Ended after event) = omega arith
one_by WaitsForGood = omega arith

one_at_most : (m : Machine) (status : Status) → length (events_by m status) ≤ 1
one_at_most m Running = one_by (try (ready m))
one_at_most m Waiting = omega arith
one_at_most m Stopped = omega arith

first_by : (t : Tried) → 0 < plain_count (event_in t) → IsPlainFirst (event_in t)
first_by (Ended after (Plain pc word)) some = (pc, word, refl)
first_by (Ended after (Trap level interrupt)) some = absurd (omega (arith, some))
first_by (Ended after System) some = absurd (omega (arith, some))
first_by WaitsForGood some = absurd (omega (arith, some))

is_first : (m : Machine) (status : Status) → 0 < plain_count (events_by m status) → IsPlainFirst (events_by m status)
is_first m Running some = first_by (try (ready m)) some
is_first m Waiting some = absurd (omega (arith, some))
is_first m Stopped some = absurd (omega (arith, some))

runs_on : (m : Machine) (status : Status) → IsPlainFirst (events_by m status) → status ≡ Running
runs_on m Running first = refl
runs_on m Waiting (pc, word, first) = absurd cc
runs_on m Stopped (pc, word, first) = absurd cc

abbrev plain_number : Event → ℕ
plain_number event = cond (is_plain_step event) 1 0

count_more : (m : Machine) (k : ℕ)
    → plain_count (events m (suc k)) ≡ plain_count (events_by m m.platform.status) + plain_count (events (step m) k)
unfolding events
count_more m k = sum_by-append plain_number (events_by m m.platform.status) (events (step m) k)

few : (m : Machine) → plain_count (events_by m m.platform.status) ≤ 1
few m = omega (arith, count_by-le-length is_plain_step (events_by m m.platform.status), one_at_most m m.platform.status)

within : (m : Machine) (k : ℕ) → plain_count (events m k) ≤ k
unfolding events
within m zero = omega arith
within m (suc k) = omega (arith, count_more m k, few m, within (step m) k)

-- so the lines that are left before it are those that are left after it
pub lines_passed : (kinds : Kinds) (origin : Machine) (from : ℕ) → tells_plain_steps kinds ≡ false → (n k left : ℕ)
    → plain_count (events (run origin n) k) ≡ k → lines_left kinds origin from n (k + left) ≡ lines_left kinds origin from (n + k) left
lines_passed kinds origin from quick n zero left all =
    let here : n ≡ n + zero = omega arith in
    let none : zero + left ≡ left = omega arith in
    ap₂ (λ (n left : ℕ). lines_left kinds origin from n left) here none
lines_passed kinds origin from quick n (suc k) left all =
    let m = run origin n in
    let more : suc k + left ≡ suc (k + left) = omega arith in
    let next : n + 1 + k ≡ n + suc k = omega arith in
    let one : suc n ≡ n + 1 = omega arith in
    let after : step m ≡ run origin (n + 1) = next_run origin n ∙ ap (run origin) one in
    let some : 0 < plain_count (events_by m m.platform.status) = omega (arith, all, count_more m k, within (step m) k) in
    let others : plain_count (events (step m) k) ≡ k = omega (arith, all, count_more m k, few m, within (step m) k) in
    let first = is_first m m.platform.status some in
    ap (lines_left kinds origin from n) more
    ∙ own_then kinds origin from n (k + left) (runs_on m m.platform.status first)
    ∙ ap (λ (l : List Line). l ++ lines_left kinds origin from (n + 1) (k + left)) (no_lines n m first.0 first.1 first.2 kinds origin from quick)
    ∙ lines_passed kinds origin from quick (n + 1) k left (subst (λ (m : Machine). plain_count (events m k) ≡ k) after others)
    ∙ ap (λ (n : ℕ). lines_left kinds origin from n left) next

-- none has been made
pub none_passed : (kinds : Kinds) (m : Machine) (most : ℕ) → HasPassedPlain kinds m most 0 m
unfolding run events
none_passed kinds m most = record { machine = refl; plain = refl; within = omega arith; told = λ told. refl; steps = omega arith }
