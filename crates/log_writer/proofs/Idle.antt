-- Steps that a machine does not make: it does not go on.
use Rattle.std.proofs.Common.{arith, ◌≡◌, ◌≢◌, ◌∙◌, refl, sym, subst, ap, ap₂, ℕ, zero, suc, ◌+◌, ◌-◌, ◌<◌, ◌≤◌, Bool, true, false, Option, List, [], ◌++◌}
use Rattle.std.specs.Option.{option_to_list}
use Rattle.std.specs.List.{flat_map, list_any, range_with_len}
use Rattle.guest_settings.specs.declared.statuses.Status.{Status}
use Rattle.guest_settings.specs.declared.statuses.Status.TheVariants.{Running, Waiting, Stopped}
use Rattle.log_lines.specs.declared.kinds.Kinds.{Kinds}
use Rattle.log_lines.specs.declared.lines.CountLine.{CountLine}
use Rattle.log_lines.specs.declared.lines.Line.{Line}
use Rattle.machine_defs.specs.declared.events.Event.{Event}
use Rattle.machine_defs.specs.Machine.{Machine}
use Rattle.machine_defs.specs.Runs.{events_by, is_instruction, run, step}
use Rattle.fill_laws.proofs.Running.{next_run, step_idle}
use Rattle.run_log.specs.Counts.{AreCounts}
use Rattle.run_log.specs.Log.{AreCountsIf, lines_at, lines_from, lines_by, lines_of_step}
use Rattle.run_log.specs.Seen.{Seen, seen, seen_from}
use Rattle.run_log.specs.Traps.{step_events}
use Rattle.step_logs.specs.Befores.{before_of}
use Rattle.step_logs.specs.declared.befores.Before.{Before}
use Rattle.log_writer.proofs.Counting.{counts_stay}

abbrev pub IsIdle : Machine → ℕ → Type 0
IsIdle origin n = (run origin n).platform.status ≢ Running

idle_next : (origin : Machine) (n : ℕ) → IsIdle origin n → IsIdle origin (suc n)
idle_next origin n idle = subst (λ (m : Machine). m.platform.status ≢ Running) (sym (step_idle (run origin n) idle) ∙ next_run origin n) idle

-- no lines
none_by : (kinds : Kinds) (origin : Machine) (from : ℕ) (s : Seen) (status : Status) → status ≢ Running → lines_by kinds origin from s status ≡ []
none_by kinds origin from s Running idle = absurd (idle refl)
none_by kinds origin from s Waiting idle = refl
none_by kinds origin from s Stopped idle = refl

none_at : (kinds : Kinds) (origin : Machine) (from n : ℕ) → IsIdle origin n → lines_at kinds origin from n ≡ []
unfolding lines_at
none_at kinds origin from n idle = none_by kinds origin from (seen origin n) (run origin n).platform.status idle

abbrev pub lines_left : Kinds → Machine → ℕ → ℕ → ℕ → List Line
lines_left kinds origin from n left = flat_map (lines_at kinds origin from) (range_with_len n left)

pub none_left : (kinds : Kinds) (origin : Machine) (from n left : ℕ) → IsIdle origin n → lines_left kinds origin from n left ≡ []
none_left kinds origin from n zero idle = refl
none_left kinds origin from n (suc left) idle =
    let next : suc n ≡ n + 1 = omega arith in
    ap₂ (λ (a b : List Line). a ++ b) (none_at kinds origin from n idle)
    (none_left kinds origin from (n + 1) left (subst (IsIdle origin) next (idle_next origin n idle)))

-- a step that is made has its own
own_by : (kinds : Kinds) (origin : Machine) (from : ℕ) (s : Seen) (status : Status) → status ≡ Running
    → lines_by kinds origin from s status ≡ lines_of_step kinds origin from s
own_by kinds origin from s Running is = refl
own_by kinds origin from s Waiting is = absurd cc
own_by kinds origin from s Stopped is = absurd cc

own_at : (kinds : Kinds) (origin : Machine) (from n : ℕ) → (run origin n).platform.status ≡ Running
    → lines_at kinds origin from n ≡ lines_of_step kinds origin from (seen origin n)
unfolding lines_at
own_at kinds origin from n running = own_by kinds origin from (seen origin n) (run origin n).platform.status running

pub own_then : (kinds : Kinds) (origin : Machine) (from n left : ℕ) → (run origin n).platform.status ≡ Running
    → lines_left kinds origin from n (suc left) ≡ lines_of_step kinds origin from (seen origin n) ++ lines_left kinds origin from (n + 1) left
own_then kinds origin from n left running =
    ap (λ (l : List Line). l ++ lines_left kinds origin from (n + 1) left) (own_at kinds origin from n running)

-- all lines, and those that are left after a step
pub all_left : (kinds : Kinds) (origin : Machine) (from steps : ℕ) → lines_left kinds origin from from (from + steps - from) ≡ lines_from kinds origin from steps
unfolding lines_from
all_left kinds origin from steps = let same : from + steps - from ≡ steps = omega arith in ap (lines_left kinds origin from from) same

pub step_left : (kinds : Kinds) (origin : Machine) (from n last : ℕ) → n < last → (run origin n).platform.status ≡ Running
    → lines_left kinds origin from n (last - n) ≡ lines_of_step kinds origin from (seen origin n) ++ lines_left kinds origin from (n + 1) (last - (n + 1))
step_left kinds origin from n last before running = let one : last - n ≡ suc (last - (n + 1)) = omega (arith, before) in
    ap (lines_left kinds origin from n) one ∙ own_then kinds origin from n (last - (n + 1)) running

pub nothing_left : (kinds : Kinds) (origin : Machine) (from n last : ℕ) → last ≤ n → lines_left kinds origin from n (last - n) ≡ []
nothing_left kinds origin from n last behind = let none : last - n ≡ 0 = omega (arith, behind) in ap (lines_left kinds origin from n) none

-- nor is anything counted
quiet_by : (s : Seen) (status : Status) → status ≢ Running → list_any is_instruction (events_by s.before status) ≡ false
quiet_by s Running idle = absurd (idle refl)
quiet_by s Waiting idle = refl
quiet_by s Stopped idle = refl

counts_left : (origin : Machine) (from steps left : ℕ) (lines : List CountLine) → IsIdle origin (from + steps)
    → AreCounts origin from steps lines → AreCounts origin from (steps + left) lines
counts_left origin from steps zero lines idle are = let same : steps ≡ steps + 0 = omega arith in
    subst (λ (n : ℕ). AreCounts origin from n lines) same are
counts_left origin from steps (suc left) lines idle are =
    let same : suc steps + left ≡ steps + suc left = omega arith in
    let next : suc (from + steps) ≡ from + suc steps = omega arith in
    subst (λ (n : ℕ). AreCounts origin from n lines) same
    (counts_left origin from (suc steps) left lines (subst (IsIdle origin) next (idle_next origin (from + steps) idle))
    (counts_stay origin from steps lines
    (quiet_by (seen origin (from + steps)) (run origin (from + steps)).platform.status idle) are))

counts_left_if : (asked : Bool) (origin : Machine) (from steps left : ℕ) (lines : List CountLine) → IsIdle origin (from + steps)
    → AreCountsIf asked origin from steps lines → AreCountsIf asked origin from (steps + left) lines
counts_left_if true origin from steps left lines idle are = counts_left origin from steps left lines idle are
counts_left_if false origin from steps left lines idle are = are

-- up to a step from another on, of which a number of steps is to be counted
pub counts_idle : (asked : Bool) (origin : Machine) (from steps n : ℕ) (lines : List CountLine) → from ≤ n → n ≤ from + steps → IsIdle origin n
    → AreCountsIf asked origin from (n - from) lines → AreCountsIf asked origin from steps lines
counts_idle asked origin from steps n lines begins ends idle are =
    let at : n ≡ from + (n - from) = omega (arith, begins) in
    let all : (n - from) + (from + steps - n) ≡ steps = omega (arith, begins, ends) in
    subst (λ (k : ℕ). AreCountsIf asked origin from k lines) all
    (counts_left_if asked origin from (n - from) (from + steps - n) lines (subst (IsIdle origin) at idle) are)

-- after a step that has been made
pub made_now : (origin m new : Machine) (n : ℕ) → m ≡ run origin n → new ≡ step m → new ≡ run origin (n + 1)
made_now origin m new n is made = let next : suc n ≡ n + 1 = omega arith in
    made ∙ ap (λ (m : Machine). step m) is ∙ next_run origin n ∙ ap (run origin) next

pub counted_now : (asked : Bool) (origin m : Machine) (from n : ℕ) (old new : List CountLine) (kept : Before) (event : Option Event) → from ≤ n
    → m ≡ run origin n → kept ≡ before_of n m → step_events (seen_from n m) ≡ option_to_list event
    → (kept ≡ before_of (from + (n - from)) (run origin (from + (n - from)))
    → step_events (seen origin (from + (n - from))) ≡ option_to_list event
    → AreCountsIf asked origin from (n - from) old → AreCountsIf asked origin from (n - from + 1) new)
    → AreCountsIf asked origin from (n - from) old → AreCountsIf asked origin from (n + 1 - from) new
counted_now asked origin m from n old new kept event begins is before events counts are =
    let at : n ≡ from + (n - from) = omega (arith, begins) in
    let next : n - from + 1 ≡ n + 1 - from = omega (arith, begins) in
    subst (λ (k : ℕ). AreCountsIf asked origin from k new) next
    (counts (subst (λ (k : ℕ). kept ≡ before_of k (run origin k)) at (before ∙ ap (before_of n) is))
    (subst (λ (k : ℕ). step_events (seen origin k) ≡ option_to_list event) at
    (subst (λ (m : Machine). step_events (seen_from n m) ≡ option_to_list event) is events)) are)
