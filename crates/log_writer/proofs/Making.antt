-- How tries make a step of the log.
use Rattle.std.proofs.Common.{arith, ◌≡◌, ◌∙◌, ◌<◌, ◌≤◌, refl, sym, subst, ap, ℕ, List, [], ◌∷◌, ◌++◌, Bool, true, false, Option, Some, None, map}
use Rattle.std.specs.Prelude.{Err, Ok}
use Rattle.std.proofs.lemmas.List.{append_assoc}
use Rattle.std.specs.Option.{option_to_list}
use Rattle.arch_defs.specs.declared.cached.Entry.{Entry}
use Rattle.guest_settings.specs.declared.statuses.Status.TheVariants.{Running}
use Rattle.log_lines.specs.declared.kinds.Kinds.{Kinds}
use Rattle.log_lines.specs.declared.lines.Line.{Line}
use Rattle.machine_defs.specs.declared.events.Event.{Event}
use Rattle.machine_defs.specs.Fills.{fill, fills, missing_entry, most_fills, needed, ready}
use Rattle.machine_defs.specs.Freshness.{next_found}
use Rattle.machine_defs.specs.Machine.{Machine, Platform, Tried as TryEnd, WaitsForGood}
use Rattle.machine_defs.specs.Runs.{event_in, left_after, step}
use Rattle.machine_defs.specs.Tries.{try}
use Rattle.fill_laws.proofs.Filling.{fills_go_on, no_fills}
use Rattle.fill_laws.proofs.Running.{events_running, step_running}
use Rattle.run_log.specs.Calls.{call_lines}
use Rattle.run_log.specs.Fences.{fence_lines}
use Rattle.run_log.specs.Fills.{fill_line, fill_lines, first_translation, next_filled, second_translation}
use Rattle.run_log.specs.Log.{if_asked, lines_of_step}
use Rattle.run_log.specs.Seen.{Seen, seen_from}
use Rattle.run_log.specs.Stale.{stale_lines}
use Rattle.run_log.specs.Steps.{step_lines}
use Rattle.run_log.specs.Traps.{trap_lines, world_lines}
use Rattle.step_logs.specs.Befores.{before_of}
use Rattle.step_logs.specs.StepTexts.{IsOfStep, IsReadOf}
use Rattle.step_logs.specs.Tries.{IsOneTry, IsTry}
use Rattle.step_logs.specs.declared.befores.Before.{Before}
use Rattle.step_logs.specs.declared.tries.Try.{Try}
use Rattle.step_logs.proofs.Inputs.{try_reads_one}
use Rattle.log_writer.specs.Steps.{lines_from_first, lines_from_stale, second_lines}
use Rattle.log_writer.proofs.NextFills.{next_is, next_none}

-- what fills leave of a step: they change the spaces alone, and its last try is the same
pub record IsFilled (before now : Machine) : Type 0 where
  pub platform : now.platform ≡ before.platform
  pub ready : ready now ≡ ready before

pub more_filled : (before now : Machine) (e : Entry) → IsFilled before now → needed ≤ now.entry_room → missing_entry now ≡ Some e
    → IsFilled before (fill now e)
more_filled before now e filled room lacks = record {
  platform = filled.platform;
  ready = (fills_go_on now e room lacks).same ∙ filled.ready;
}

pub now_running : (before now : Machine) → IsFilled before now → before.platform.status ≡ Running → now.platform.status ≡ Running
now_running before now filled running = ap (λ (p : Platform). p.status) filled.platform ∙ running

-- the last try makes the step
no_event : (t : TryEnd) → t ≡ WaitsForGood → event_in t ≡ []
no_event t is = ap event_in is

module _ (kinds : Kinds) (kept : Before) (before now after : Machine) (tried : Try) (is : kept ≡ before_of kept.number before)
    (running : before.platform.status ≡ Running) (filled : IsFilled before now) (shows : IsTry kinds now tried) where
  made_by : (event : Option Event) → missing_entry now ≡ None → event_in (try now) ≡ option_to_list event → after ≡ left_after now
      → IsOfStep kinds (seen_from kept.number before) kept (record { tried = tried; event = event }) after
  made_by event none events leaves =
      let at : now ≡ ready before = sym (no_fills (most_fills now) now none) ∙ filled.ready in
      let stepped : after ≡ step before = leaves ∙ ap left_after at ∙ sym (step_running before running) in
      record {
        before = is;
        last = refl;
        tried = subst (λ (m : Machine). IsTry kinds m tried) at shows;
        events = events_running before running ∙ ap (λ (m : Machine). event_in (try m)) (sym at) ∙ events;
        after = stepped;
        reads =
            subst (λ (p : Platform). IsReadOf p.console.inputs (step before).platform.console.inputs) filled.platform
            (subst (λ (m : Machine). IsReadOf now.platform.console.inputs m.platform.console.inputs) (sym leaves ∙ stepped) (try_reads_one now));
      }

  pub step_made : (event : Option Event) → IsOneTry now (Ok event) after
      → IsOfStep kinds (seen_from kept.number before) kept (record { tried = tried; event = event }) after
  step_made None (none, waits, leaves) = made_by None none (no_event (try now) waits) leaves
  step_made (Some event) (none, events, leaves) = made_by (Some event) none events leaves

-- the lines of what it caches of the second stage, one by one
first_line : (asked : Bool) (x : Line) (xs : List Line) → if_asked asked (x ∷ xs) ≡ if_asked asked (x ∷ []) ++ if_asked asked xs
first_line true x xs = refl
first_line false x xs = refl

pub second_then : (asked : Bool) (s : Seen) (now : Machine) (e : Entry) → needed ≤ now.entry_room → now.platform.status ≡ Running
    → missing_entry now ≡ Some e
    → second_lines asked s (next_filled now) ≡ second_lines asked s (e ∷ []) ++ second_lines asked s (next_filled (fill now e))
second_then asked s now e room running lacks =
    ap (second_lines asked s) (next_is now e room running lacks)
    ∙ first_line asked (fill_line s (second_translation s.before.platform.virt.csrs.hgatp e))
    (map (λ e. fill_line s (second_translation s.before.platform.virt.csrs.hgatp e)) (next_filled (fill now e)))

none_of : (asked : Bool) → if_asked asked [] ≡ []
none_of true = refl
none_of false = refl

pub lacks_none : (now after : Machine) (event : Option Event) → IsOneTry now (Ok event) after → missing_entry now ≡ None
lacks_none now after None (none, waits, leaves) = none
lacks_none now after (Some event) (none, events, leaves) = none

pub second_none : (asked : Bool) (s : Seen) (now after : Machine) (event : Option Event) → IsOneTry now (Ok event) after
    → second_lines asked s (next_filled now) ≡ []
second_none asked s now after event made = ap (second_lines asked s) (next_none now (lacks_none now after event made)) ∙ none_of asked

-- the last try is that of the machine at which the step lacks nothing
pub at_last : (before now after : Machine) (event : Option Event) → IsFilled before now → IsOneTry now (Ok event) after → now ≡ ready before
at_last before now after event filled made = sym (no_fills (most_fills now) now (lacks_none now after event made)) ∙ filled.ready

-- after a try that has filled an entry
pub filled_try : (before now after : Machine) (e : Entry) → IsFilled before now → needed ≤ now.entry_room → IsOneTry now (Err e) after
    → IsFilled before after
filled_try before now after e filled room (lacks, fills) = subst (IsFilled before) (sym fills) (more_filled before now e filled room lacks)

pub second_try : (asked : Bool) (s : Seen) (now after : Machine) (e : Entry) → needed ≤ now.entry_room → now.platform.status ≡ Running
    → IsOneTry now (Err e) after
    → second_lines asked s (next_filled now) ≡ second_lines asked s (e ∷ []) ++ second_lines asked s (next_filled after)
second_try asked s now after e room running (lacks, fills) =
    second_then asked s now e room running lacks
    ∙ ap (λ (m : Machine). second_lines asked s (e ∷ []) ++ second_lines asked s (next_filled m)) (sym fills)

pub fewer_try : (now after : Machine) (e : Entry) → needed ≤ now.entry_room → IsOneTry now (Err e) after
    → fills (most_fills after) after < fills (most_fills now) now
fewer_try now after e room (lacks, leaves) =
    let same = ap (λ (m : Machine). fills (most_fills m) m) leaves in
    let fewer = (fills_go_on now e room lacks).fewer in
    omega (arith, same, fewer)

-- all lines of a step
fills_apart : (asked : Bool) (a b others : List Line) → if_asked asked (a ++ b) ++ others ≡ if_asked asked a ++ (if_asked asked b ++ others)
fills_apart true a b others = append_assoc a b others
fills_apart false a b others = refl

nested : (a b c d e f g : List Line) → ((((((a ++ b) ++ c) ++ d) ++ e) ++ f) ++ g) ≡ a ++ (b ++ (c ++ (d ++ (e ++ (f ++ g)))))
nested a b c d e f g =
    append_assoc ((((a ++ b) ++ c) ++ d) ++ e) f g
    ∙ append_assoc (((a ++ b) ++ c) ++ d) e (f ++ g)
    ∙ append_assoc ((a ++ b) ++ c) d (e ++ (f ++ g))
    ∙ append_assoc (a ++ b) c (d ++ (e ++ (f ++ g)))
    ∙ append_assoc a b (c ++ (d ++ (e ++ (f ++ g))))

pub step_lines_are : (kinds : Kinds) (origin : Machine) (from : ℕ) (s : Seen)
    → lines_of_step kinds origin from s ≡ second_lines kinds.fills s (next_filled s.before) ++ lines_from_first kinds origin from s
unfolding fill_lines
step_lines_are kinds origin from s =
    nested (if_asked kinds.fills (fill_lines s)) (if_asked kinds.stale (stale_lines origin from s)) (if_asked kinds.steps (step_lines s))
    (if_asked kinds.calls (call_lines s)) (if_asked kinds.fences (fence_lines s)) (if_asked kinds.traps (trap_lines s))
    (if_asked kinds.worlds (world_lines s))
    ∙ fills_apart kinds.fills
    (map (λ e. fill_line s (second_translation s.before.platform.virt.csrs.hgatp e)) (next_filled s.before))
    (map (λ e. fill_line s (first_translation e)) (next_found s.before)) (lines_from_stale kinds origin from s)
