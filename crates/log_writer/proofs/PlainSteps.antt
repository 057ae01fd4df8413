-- A plain step: its instruction completes, and V, the console and its inputs stay.
use Rattle.std.proofs.Common.{◌≡◌, refl, sym, subst, ap, ℕ, cond, Bool, true, false, [], ◌∷◌, Option, Some, None, Result, Ok, Err}
use Rattle.arch_defs.specs.declared.csr_names.CsrEnd.{CsrEnd}
use Rattle.arch_defs.specs.declared.modes.Mode.{Mode}
use Rattle.arch_defs.specs.declared.modes.Mode.TheVariants.{HS, U, VS, VU}
use Rattle.arch_defs.specs.declared.registers.Csrs.{Csrs}
use Rattle.arch_defs.specs.declared.registers.Virtual.{Virtual}
use Rattle.arch_defs.specs.declared.walks.MissingPlace.{MissingPlace}
use Rattle.arch_defs.specs.CsrAccess.{read_csr}
use Rattle.arch_defs.specs.Inputs.{next_input}
use Rattle.arch_defs.specs.Interrupts.{due}
use Rattle.arch_defs.specs.Memory.{Mmu, ram_memory}
use Rattle.arch_defs.specs.SecondStage.{OnDevice, is_implicit}
use Rattle.arch_defs.specs.Traps.{missing_place_fault}
use Rattle.arch_defs.specs.Waits.{wake_moment}
use Rattle.guest_settings.specs.declared.statuses.Status.{Status}
use Rattle.guest_settings.specs.declared.statuses.Status.TheVariants.{Running, Waiting, Stopped}
use Rattle.op_defs.specs.declared.ops.DataAccess.{DataAccess}
use Rattle.op_defs.specs.declared.ops.Effect.{Effect}
use Rattle.op_defs.specs.declared.ops.Effect.TheVariants as effect
use Rattle.op_defs.specs.declared.ops.Op.{Op}
use Rattle.op_defs.specs.declared.ops.Privileged.{Privileged}
use Rattle.op_defs.specs.declared.ops.Privileged.TheVariants as privileged_op
use Rattle.op_defs.specs.Meaning.{meaning}
use Rattle.op_defs.specs.Table.{op_of}
use Rattle.machine_defs.specs.declared.events.Event.TheVariants.{Plain, Trap, System}
use Rattle.machine_defs.specs.Core.{called_from, core, data_place, decoded, executed, fetch_place, word_at}
use Rattle.machine_defs.specs.DeviceSteps.{DeviceCompletion, device_wanted, served}
use Rattle.machine_defs.specs.Fills.{ready}
use Rattle.machine_defs.specs.HlvAccesses.{Completes, Device, HlvEnd, Traps, hlv_outcome}
use Rattle.machine_defs.specs.Machine.{Ended, Machine, Tried, WaitsForGood, has_enabled_interrupt, stepped_to, trapped, waited, waited_until, with_registers}
use Rattle.machine_defs.specs.Outcomes.{Accesses, Called, Done, Fenced, FirstFenced, Missed, Outcome, Trapped, Waits}
use Rattle.machine_defs.specs.Privileges.{csr_changed, csr_shown, decided, performed, privileged, refusal}
use Rattle.machine_defs.specs.Runs.{event_in, events_by, is_plain_step, left_by, step}
use Rattle.machine_defs.specs.Tries.{apply_outcome, hlv_committed, mmu_of, outcome_under, stages_of, tried_with, try, try_under, unplaced, with_found}
use Rattle.instruction_laws.proofs.Completions.{at_each, completed_same}
use Rattle.fill_laws.proofs.Running.{step_running}
use Rattle.run_log.specs.Calls.{call_lines_by}
use Rattle.run_log.specs.Fences.{fence_lines_by}
use Rattle.run_log.specs.Seen.{Seen, step_outcome, step_outcome_with}

-- an instruction whose step is plain keeps the mode
abbrev KeepsMode : Virtual → Outcome → Type 0
KeepsMode s (Done virt stored event) = is_plain_step event ≡ true → virt.mode ≡ s.mode
KeepsMode s (Trapped trap) = Unit {0}
KeepsMode s (Missed missing wanted) = Unit {0}
KeepsMode s Called = Unit {0}
KeepsMode s (Waits virt) = Unit {0}
KeepsMode s (Fenced virt fence) = Unit {0}
KeepsMode s (FirstFenced virt named fence) = Unit {0}
KeepsMode s (Accesses wanted) = Unit {0}

module _ (s : Virtual) (word : ℕ) where
  shown_keeps : (rd : ℕ) (read : Result ℕ CsrEnd) → KeepsMode s (csr_shown s word rd read)
  shown_keeps rd (Ok value) = λ plain. absurd cc
  shown_keeps rd (Err end) = tt

  changed_keeps : (rd value : ℕ) (written : Result Csrs CsrEnd) → KeepsMode s (csr_changed s word rd value written)
  changed_keeps rd value (Ok csrs) = λ plain. absurd cc
  changed_keeps rd value (Err end) = tt

  performed_keeps : (effect : Privileged) → KeepsMode s (performed s word effect)
  performed_keeps (privileged_op.Csr op number operand true rd) = changed_keeps rd _ _
  performed_keeps (privileged_op.Csr op number operand false rd) = shown_keeps rd (read_csr s.csrs s.mode number)
  performed_keeps privileged_op.Sret = λ plain. absurd cc
  performed_keeps privileged_op.Wfi = tt
  performed_keeps (privileged_op.SfenceVma fence) = tt
  performed_keeps (privileged_op.HfenceVvma fence) = tt
  performed_keeps (privileged_op.HfenceGvma fence) = tt
  performed_keeps (privileged_op.HlvAccess wanted) = tt

  decided_keeps : (effect : Privileged) (end : Option CsrEnd) → KeepsMode s (decided s word effect end)
  decided_keeps effect (Some end) = tt
  decided_keeps effect None = performed_keeps effect

  privileged_keeps : (effect : Privileged) → KeepsMode s (privileged s word effect)
  unfolding privileged
  privileged_keeps effect = decided_keeps effect (refusal effect s.csrs.hstatus s.mode)

  called_keeps : (mode : Mode) → KeepsMode s (called_from mode)
  called_keeps HS = tt
  called_keeps U = tt
  called_keeps VS = tt
  called_keeps VU = tt

  executed_keeps : (through : Mmu) (e : Effect) → KeepsMode s (executed through s word e)
  executed_keeps through (effect.Sets rd value next) = λ plain. refl
  executed_keeps through (effect.Raises cause tval) = tt
  executed_keeps through (effect.Data wanted) =
      at_each (KeepsMode s) (Some wanted) _ (λ trap. tt) (λ missing. tt)
      (λ place plain. ap (λ (v : Virtual). v.mode) (completed_same through.reading s wanted.width wanted.purpose place))
      (data_place through s.csrs s.mode wanted)
  executed_keeps through effect.Calls = called_keeps s.mode
  executed_keeps through (effect.Privileged e) = privileged_keeps e

  decoded_keeps : (through : Mmu) (op : Option Op) → KeepsMode s (decoded through s word op)
  decoded_keeps through (Some op) = executed_keeps through (meaning op s.regs)
  decoded_keeps through None = tt

core_keeps : (through : Mmu) (s : Virtual) → KeepsMode s (core through s)
unfolding core
core_keeps through s = at_each (KeepsMode s) None _ (λ trap. tt) (λ missing. tt)
    (λ place. let word = word_at through.reading place in decoded_keeps s word through (op_of word)) (fetch_place through s)

-- what a plain step leaves as it was, and that its instruction has no line of calls or fences
pub record IsLeftByPlain (m after : Machine) (outcome : Option Outcome) : Type 0 where
  pub mode : after.platform.virt.mode ≡ m.platform.virt.mode
  pub console : after.platform.console ≡ m.platform.console
  pub calls : (s : Seen) → call_lines_by s outcome ≡ []
  pub fences : (s : Seen) → fence_lines_by s outcome ≡ []

abbrev IfPlain : Machine → Option Outcome → Tried → Type 0
IfPlain m outcome (Ended after (Plain pc word)) = IsLeftByPlain m after outcome
IfPlain m outcome (Ended after (Trap level interrupt)) = Unit {0}
IfPlain m outcome (Ended after System) = Unit {0}
IfPlain m outcome WaitsForGood = Unit {0}

-- an access without a place, a wait, and an HLV, HLVX or HSV are not plain
module _ (m t : Machine) (o : Option Outcome) where
  served_other : (missing : MissingPlace) (completion : Option DeviceCompletion) → IfPlain m o (served t missing completion)
  served_other missing None = tt
  served_other missing (Some completion) = tt

  wanted_other : (missing : MissingPlace) (wanted : Option DataAccess) → IfPlain m o (device_wanted t missing wanted)
  wanted_other missing None = tt
  wanted_other missing (Some wanted) = served_other missing _

  unplaced_other : (missing : MissingPlace) (wanted : Option DataAccess) (on : Bool) → IfPlain m o (unplaced t missing wanted on)
  unplaced_other missing wanted false = tt
  unplaced_other missing wanted true =
      elim (is_implicit missing.kind) as (λ b. IfPlain m o (cond b (trapped t (missing_place_fault missing)) (device_wanted t missing wanted)))
      [ true ↦ tt | false ↦ wanted_other missing wanted ]

  until_other : (virt : Virtual) (moment : Option ℕ) → IfPlain m o (waited_until t virt moment)
  until_other virt (Some moment) = tt
  until_other virt None = tt

  waited_other : (virt : Virtual) → IfPlain m o (waited t virt)
  waited_other virt =
      let p = t.platform in
      let moment = wake_moment p.virt.csrs.sie p.clock.timer (next_input p.console.inputs) in
      elim (has_enabled_interrupt p.virt.csrs) as (λ b. IfPlain m o (cond b (stepped_to t (with_registers p virt) System) (waited_until t virt moment)))
      [ true ↦ tt | false ↦ until_other virt moment ]

  hlv_other : (wanted : DataAccess) (end : HlvEnd) → IfPlain m o (hlv_committed t wanted end)
  hlv_other wanted (Completes completion) = tt
  hlv_other wanted (Device missing) = served_other missing _
  hlv_other wanted (Traps trap) = tt

module _ (m : Machine) where
  abbrev found : Machine
  found = with_found (stages_of m) m

  applied : (device : OnDevice) (o : Outcome) → KeepsMode m.platform.virt o → IfPlain m (Some o) (apply_outcome device found o)
  applied device (Done virt stored (Plain pc word)) keeps =
      record { mode = keeps refl; console = refl; calls = λ s. refl; fences = λ s. refl }
  applied device (Done virt stored (Trap level interrupt)) keeps = tt
  applied device (Done virt stored System) keeps = tt
  applied device (Trapped trap) keeps = tt
  applied device (Missed missing wanted) keeps = unplaced_other m found _ missing wanted (device missing.address missing.kind)
  applied device Called keeps = tt
  applied device (Waits virt) keeps = waited_other m found _ virt
  applied device (Fenced virt fence) keeps = tt
  applied device (FirstFenced virt named fence) keeps = tt
  applied device (Accesses wanted) keeps =
      hlv_other m found _ wanted (hlv_outcome found.device (ram_memory found.ram) found.platform.virt wanted)

  tried : (code : Option ℕ) → IfPlain m (step_outcome_with m code) (tried_with (stages_of m) m code)
  tried (Some code) = tt
  tried None = applied (stages_of m).device (outcome_under (stages_of m) m) (core_keeps (mmu_of m) m.platform.virt)

  by_try : IfPlain m (step_outcome m) (try m)
  unfolding step_outcome try_under
  by_try = tried (due m.platform.virt.csrs m.platform.virt.mode)

-- the step of this event
ended : (m : Machine) (o : Option Outcome) (pc word : ℕ) (t : Tried) → IfPlain m o t → event_in t ≡ Plain pc word ∷ [] → IsLeftByPlain m (left_by m t) o
ended m o pc word (Ended after (Plain at of)) left is = left
ended m o pc word (Ended after (Trap level interrupt)) left is = absurd cc
ended m o pc word (Ended after System) left is = absurd cc
ended m o pc word WaitsForGood left is = absurd cc

pub plain_leaves : (m : Machine) (pc word : ℕ) → events_by m m.platform.status ≡ Plain pc word ∷ []
    → IsLeftByPlain (ready m) (step m) (step_outcome (ready m))
plain_leaves m pc word is = by m.platform.status refl is
  where
    by : (status : Status) → m.platform.status ≡ status → events_by m status ≡ Plain pc word ∷ [] → IsLeftByPlain (ready m) (step m) (step_outcome (ready m))
    by Running running is =
        subst (λ (after : Machine). IsLeftByPlain (ready m) after (step_outcome (ready m))) (sym (step_running m running))
        (ended (ready m) (step_outcome (ready m)) pc word (try (ready m)) (by_try (ready m)) is)
    by Waiting waits is = absurd cc
    by Stopped stopped is = absurd cc
