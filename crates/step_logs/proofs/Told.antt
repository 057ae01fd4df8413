-- The lines that are told of a step are those of the log.
use Rattle.std.proofs.Common.{◌≡◌, ◌∙◌, refl, sym, ap, drop, ℕ, List, [], ◌∷◌, ◌++◌, Bool, true, false, Option, Some, None, map}
use Rattle.std.proofs.lemmas.List.{append_assoc}
use Rattle.std.specs.Option.{option_to_list}
use Rattle.arch_defs.specs.declared.first.FirstEntry.{FirstEntry}
use Rattle.arch_defs.specs.declared.registers.Csrs.{Csrs}
use Rattle.arch_defs.specs.declared.registers.Regs.{Regs}
use Rattle.arch_defs.specs.declared.registers.Virtual.{Virtual}
use Rattle.arch_defs.specs.Traps.{is_virtual}
use Rattle.log_lines.specs.declared.lines.Line.{Line}
use Rattle.log_lines.specs.declared.lines.Line.TheVariants as line
use Rattle.log_lines.specs.declared.steps.MemoryValue.{MemoryValue}
use Rattle.log_lines.specs.declared.traps.Crossing.TheVariants.{Enters, Leaves}
use Rattle.machine_defs.specs.declared.events.Event.{Event}
use Rattle.machine_defs.specs.declared.events.Event.TheVariants as event
use Rattle.guest_settings.specs.declared.statuses.Status.{Status}
use Rattle.guest_settings.specs.declared.statuses.Status.TheVariants.{Running}
use Rattle.machine_defs.specs.Fills.{ready}
use Rattle.machine_defs.specs.Freshness.{found_by_status, found_if_ended, next_found}
use Rattle.machine_defs.specs.Machine.{Ended, Machine, Tried, WaitsForGood}
use Rattle.machine_defs.specs.Runs.{event_in, events_by}
use Rattle.machine_defs.specs.Outcomes.{Outcome, Done, Trapped, Missed, Called, Waits, Fenced, FirstFenced, Accesses}
use Rattle.machine_defs.specs.Tries.{found_by_try, stages_of, try}
use Rattle.run_log.specs.Calls.{bytes_put, call_lines, call_lines_by, inputs_read}
use Rattle.run_log.specs.Log.{if_asked}
use Rattle.run_log.specs.Fences.{fence_lines, fence_lines_by}
use Rattle.run_log.specs.Fills.{fill_line, first_translation}
use Rattle.run_log.specs.Seen.{Seen, head_of, step_outcome}
use Rattle.run_log.specs.Steps.{access_made, memory_read, memory_stored, step_line_for, step_lines, step_word}
use Rattle.run_log.specs.Traps.{cause_in, step_events, trap_lines, trap_lines_by, world_line, world_lines, world_lines_by}
use Rattle.std.specs.List.{flat_map}
use Rattle.rv64_hart.specs.declared.leaves.Leaves.{Leaves as FoundLeaves}
use Rattle.rv64_hart.specs.Leaves.{leaves_list}
use Rattle.step_lines.specs.Acts.{act_in}
use Rattle.step_lines.specs.StepLines.{call_line_of, fence_line_of, step_line_of, trap_line_of}
use Rattle.step_lines.specs.declared.acts.Act.{Act}
use Rattle.step_lines.specs.declared.fences.Held.{Held}
use Rattle.step_logs.specs.Befores.{before_of, head_before}
use Rattle.step_logs.specs.declared.befores.Before.{Before}
use Rattle.step_logs.specs.StepTexts.{console_lines, found_lines}
use Rattle.step_logs.specs.Tries.{IsHeldBeforeFence, held_of}

-- ways into V = 1 and out of it
world_by : (s : Seen) (x y : Bool) → is_virtual s.before.platform.virt.mode ≡ x → is_virtual s.after.platform.virt.mode ≡ y
    → world_lines s ≡ world_lines_by s x y
unfolding world_lines
world_by s x y before after =
    ap (λ (x : Bool). world_lines_by s x (is_virtual s.after.platform.virt.mode)) before ∙ ap (world_lines_by s x) after

module _ (s : Seen) (b : Before) (virt : Virtual) (is : b ≡ before_of s.number s.before) (same : virt ≡ s.after.platform.virt) where
  now_virtual : (y : Bool) → y ≡ is_virtual virt.mode → is_virtual s.after.platform.virt.mode ≡ y
  now_virtual y shown = sym (shown ∙ ap (λ (v : Virtual). is_virtual v.mode) same)

  was_virtual : (x : Bool) → x ≡ is_virtual b.mode → is_virtual s.before.platform.virt.mode ≡ x
  was_virtual x shown = sym (shown ∙ ap (λ (b : Before). is_virtual b.mode) is)

  pub entered : (told : Line) → told ≡ line.World (world_line (record { step = b.number; mode = virt.mode; pc = virt.regs.pc }) virt.csrs Enters)
      → false ≡ is_virtual b.mode → true ≡ is_virtual virt.mode → told ∷ [] ≡ world_lines s
  entered told tells was now =
      rw (tells, is, same) refl ∙ sym (world_by s false true (was_virtual false was) (now_virtual true now))

  pub left : (told : Line) → told ≡ line.World (world_line (head_before b) b.csrs (Leaves (cause_in virt.csrs.hs)))
      → true ≡ is_virtual b.mode → false ≡ is_virtual virt.mode → told ∷ [] ≡ world_lines s
  left told tells was now =
      rw (tells, is, same) refl ∙ sym (world_by s true false (was_virtual true was) (now_virtual false now))

  pub stayed : (x : Bool) → x ≡ is_virtual b.mode → x ≡ is_virtual virt.mode → [] ≡ world_lines s
  stayed true was now = sym (world_by s true true (was_virtual true was) (now_virtual true now))
  stayed false was now = sym (world_by s false false (was_virtual false was) (now_virtual false now))

-- traps
trap_by : (s : Seen) (e : Event) → option_to_list (trap_line_of (head_of s) e s.after.platform.virt.csrs) ≡ flat_map (trap_lines_by s) (e ∷ [])
trap_by s (event.Plain pc word) = refl
trap_by s (event.Trap into interrupt) = refl
trap_by s event.System = refl

pub trap_told : (s : Seen) (b : Before) (csrs : Csrs) (e : Event) (told : Option Line) → told ≡ trap_line_of (head_before b) e csrs → b ≡ before_of s.number s.before
    → csrs ≡ s.after.platform.virt.csrs → step_events s ≡ e ∷ [] → option_to_list told ≡ trap_lines s
unfolding trap_lines
trap_told s b csrs e told tells is same events =
    ap option_to_list (tells ∙ ap (λ (b : Before). trap_line_of (head_before b) e csrs) is ∙ ap (trap_line_of (head_of s) e) same)
    ∙ trap_by s e ∙ sym (ap (flat_map (trap_lines_by s)) events)

pub no_trap_told : (s : Seen) → step_events s ≡ [] → [] ≡ trap_lines s
unfolding trap_lines
no_trap_told s events = sym (ap (flat_map (trap_lines_by s)) events)

-- steps
pub step_told : (s : Seen) (b : Before) (word : Option ℕ) (regs : Regs) (read stored : Option MemoryValue) (e : Event) (told : Line)
    → told ≡ step_line_of (head_before b) word b.regs regs read stored → b ≡ before_of s.number s.before → word ≡ step_word s.tried
    → regs ≡ s.after.platform.virt.regs → read ≡ memory_read s.tried (access_made s.tried) → stored ≡ memory_stored s.tried s.after.ram (access_made s.tried)
    → step_events s ≡ e ∷ [] → told ∷ [] ≡ step_lines s
unfolding step_lines
step_told s b word regs read stored e told tells is words same reads stores events =
    rw (tells, is, words, same, reads, stores) refl ∙ sym (ap (flat_map (step_line_for s)) events)

pub no_step_told : (s : Seen) → step_events s ≡ [] → [] ≡ step_lines s
unfolding step_lines
no_step_told s events = sym (ap (flat_map (step_line_for s)) events)

-- fences
fence_by : (s : Seen) (o : Option Outcome) (held : Held) → IsHeldBeforeFence (act_in o) s.tried held
    → option_to_list (fence_line_of (head_of s) (act_in o) held (held_of s.after)) ≡ fence_lines_by s o
fence_by s None held has = refl
fence_by s (Some (Done virt stored event)) held has = refl
fence_by s (Some (Trapped trap)) held has = refl
fence_by s (Some (Missed missing wanted)) held has = refl
fence_by s (Some Called) held has = refl
fence_by s (Some (Waits virt)) held has = refl
fence_by s (Some (Fenced virt named)) held has = rw has refl
fence_by s (Some (FirstFenced virt tag named)) held has = rw has refl
fence_by s (Some (Accesses wanted)) held has = refl

pub fence_told : (s : Seen) (b : Before) (a : Act) (held after : Held) (m : Machine) (told : Option Line) → told ≡ fence_line_of (head_before b) a held after
    → b ≡ before_of s.number s.before → a ≡ act_in (step_outcome s.tried) → IsHeldBeforeFence a s.tried held → after ≡ held_of m → m ≡ s.after
    → option_to_list told ≡ fence_lines s
unfolding fence_lines
fence_told s b a held after m told tells is acts has counts same =
    ap option_to_list (tells ∙ ap (λ (b : Before). fence_line_of (head_before b) a held after) is
    ∙ ap (λ (a : Act). fence_line_of (head_of s) a held after) acts
    ∙ ap (fence_line_of (head_of s) (act_in (step_outcome s.tried)) held) (counts ∙ ap held_of same))
    ∙ fence_by s (step_outcome s.tried) held (rw acts at has)

-- what a try has found
pub found_are : (s : Seen) (found : FoundLeaves) → map (λ e. fill_line s (first_translation e)) (leaves_list found) ≡ found_lines s found
found_are s found = by found.at_pc found.of_data
  where
    by : (a b : Option FirstEntry) → map (λ e. fill_line s (first_translation e)) (leaves_list (record { at_pc = a; of_data = b }))
        ≡ found_lines s (record { at_pc = a; of_data = b })
    by None b = more b
      where
        more : (b : Option FirstEntry) → map (λ e. fill_line s (first_translation e)) (leaves_list (record { at_pc = None; of_data = b }))
            ≡ found_lines s (record { at_pc = None; of_data = b })
        more None = refl
        more (Some e) = refl
    by (Some first) b = more b
      where
        more : (b : Option FirstEntry) → map (λ e. fill_line s (first_translation e)) (leaves_list (record { at_pc = Some first; of_data = b }))
            ≡ found_lines s (record { at_pc = Some first; of_data = b })
        more None = refl
        more (Some e) = refl

-- calls, waits and the bytes of the console
call_by : (s : Seen) (o : Option Outcome)
    → option_to_list (call_line_of (head_of s) (act_in o) s.before.platform.virt.regs s.after.platform.virt.regs s.after.platform.status s.after.platform.clock.time)
    ≡ call_lines_by s o
call_by s None = refl
call_by s (Some (Done virt stored event)) = refl
call_by s (Some (Trapped trap)) = refl
call_by s (Some (Missed missing wanted)) = refl
call_by s (Some Called) = refl
call_by s (Some (Waits virt)) = refl
call_by s (Some (Fenced virt named)) = refl
call_by s (Some (FirstFenced virt tag named)) = refl
call_by s (Some (Accesses wanted)) = refl

pub calls_told : (s : Seen) (b : Before) (a : Act) (regs : Regs) (status : Status) (time : ℕ) (m : Machine) (told : Option Line)
    → told ≡ call_line_of (head_before b) a b.regs regs status time → b ≡ before_of s.number s.before → a ≡ act_in (step_outcome s.tried)
    → regs ≡ m.platform.virt.regs → status ≡ m.platform.status → time ≡ m.platform.clock.time → m ≡ s.after
    → call_lines s ≡ option_to_list told ++ console_lines s
unfolding call_lines
calls_told s b a regs status time m told tells is acts shows stands ticks same =
    let alike : call_line_of (head_before b) a b.regs regs status time
    ≡ call_line_of (head_of s) (act_in (step_outcome s.tried)) s.before.platform.virt.regs s.after.platform.virt.regs s.after.platform.status s.after.platform.clock.time
    = rw (is, acts, shows, stands, ticks, same) refl in
    let one : option_to_list told ≡ call_lines_by s (step_outcome s.tried) = ap option_to_list (tells ∙ alike) ∙ call_by s (step_outcome s.tried) in
    append_assoc (call_lines_by s (step_outcome s.tried)) (map (λ byte. line.Put (head_of s) byte) (bytes_put s.before s.after))
    (map (λ input. line.Got (head_of s) input.1) (inputs_read s.before s.after))
    ∙ ap (λ (l : List Line). l ++ console_lines s) (sym one)

pub bytes_told : (s : Seen) (b : Before) (m : Machine) (shown console : List ℕ) → b ≡ before_of s.number s.before → shown ≡ drop b.bytes console
    → console ≡ m.platform.console.bytes → m ≡ s.after
    → map (λ byte. line.Put (head_before b) byte) shown ≡ map (λ byte. line.Put (head_of s) byte) (bytes_put s.before s.after)
bytes_told s b m shown console is shows has same = rw (shows, is, has, same) refl

-- what a step finds of the first stage, unless it waits for good
module _ (s : Seen) where
  events_are : s.before.platform.status ≡ Running → step_events s ≡ event_in (try (ready s.before))
  events_are running = ap (events_by s.before) running

  found_is : s.before.platform.status ≡ Running
      → next_found s.before ≡ found_if_ended (found_by_try (stages_of (ready s.before)) (ready s.before)) (try (ready s.before))
  unfolding next_found
  found_is running = ap (found_by_status (ready s.before)) running

  if_made : (found : List FirstEntry) (t : Tried) (e : Event) → event_in t ≡ e ∷ [] → found_if_ended found t ≡ found
  if_made found (Ended after event) e is = refl
  if_made found WaitsForGood e is = absurd cc

  if_not : (found : List FirstEntry) (t : Tried) → event_in t ≡ [] → found_if_ended found t ≡ []
  if_not found (Ended after event) is = absurd cc
  if_not found WaitsForGood is = refl

  pub found_of_step : (e : Event) (found : FoundLeaves) → s.tried ≡ ready s.before → s.before.platform.status ≡ Running → step_events s ≡ e ∷ []
      → leaves_list found ≡ found_by_try (stages_of s.tried) s.tried → leaves_list found ≡ next_found s.before
  found_of_step e found last running events finds =
      finds ∙ ap (λ (m : Machine). found_by_try (stages_of m) m) last
      ∙ sym (found_is running ∙ if_made _ (try (ready s.before)) e (sym (events_are running) ∙ events))

  pub none_of_step : s.before.platform.status ≡ Running → step_events s ≡ [] → next_found s.before ≡ []
  none_of_step running events = found_is running ∙ if_not _ (try (ready s.before)) (sym (events_are running) ∙ events)

  pub first_told : (e : Event) (found : FoundLeaves) → s.tried ≡ ready s.before → s.before.platform.status ≡ Running → step_events s ≡ e ∷ []
      → leaves_list found ≡ found_by_try (stages_of s.tried) s.tried
      → found_lines s found ≡ map (λ e. fill_line s (first_translation e)) (next_found s.before)
  first_told e found last running events finds = sym (found_are s found)
      ∙ ap (λ (l : List FirstEntry). map (λ e. fill_line s (first_translation e)) l) (found_of_step e found last running events finds)

  none_if : (asked : Bool) (l : List Line) → l ≡ [] → if_asked asked l ≡ []
  none_if true l is = is
  none_if false l is = refl

  pub none_told : (asked : Bool) → s.before.platform.status ≡ Running → step_events s ≡ []
      → if_asked asked (map (λ e. fill_line s (first_translation e)) (next_found s.before)) ≡ []
  none_told asked running events =
      none_if asked _ (ap (λ (l : List FirstEntry). map (λ e. fill_line s (first_translation e)) l) (none_of_step running events))
