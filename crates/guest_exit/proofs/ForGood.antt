-- Which tries wait for good: those that leave the status so.
use Rattle.std.specs.Prelude.{◌≢◌, ◌↔◌, ◌==◌}
use Rattle.std.proofs.Common.{◌≡◌, Bool, true, false, List, Option, refl, sym, ap, ◌∙◌}
use Rattle.arch_defs.specs.declared.modes.Trap.{Trap}
use Rattle.arch_defs.specs.declared.cached.Fence.{Fence}
use Rattle.arch_defs.specs.declared.first.FirstEntry.{FirstEntry}
use Rattle.arch_defs.specs.Registers.{a7, read}
use Rattle.machine_defs.specs.declared.events.Event.TheVariants.{System}
use Rattle.guest_settings.specs.declared.statuses.Status.TheVariants.{Running, Waiting}
use Rattle.machine_defs.specs.Machine.{Machine, Platform, Tried, Ended, WaitsForGood, stepped_to, stopped_if, trapped, with_first}
use Rattle.machine_defs.specs.Runs.{left_after, left_by}
use Rattle.machine_defs.specs.Tries.{try}
use Rattle.instruction_laws.proofs.TryEnds.{Calls, Fences, Halts, Makes, Passes, Serves, Takes}
use Rattle.guest_exit.specs.declared.hart_exit.Handled.{Handled}
use Rattle.guest_exit.specs.declared.hart_exit.Handled.TheVariants as handled
use Rattle.guest_exit.specs.HartExit.{status_after}
use Rattle.guest_exit.proofs.SomeEnds.{SomeEnd, some_end}

-- a step leaves another status
abbrev LeavesOther : Tried → Type 0
LeavesOther (Ended after event) = after.platform.status ≢ Waiting
LeavesOther WaitsForGood = Unit {0}

runs : (m : Machine) → m.platform.status ≡ Running → m.platform.status ≢ Waiting
runs m running = λ e. let never : Running ≡ Waiting = sym running ∙ e in absurd (cc)

stops_if : (m : Machine) (first : List FirstEntry) → m.platform.status ≡ Running → (stops : Bool) (p : Platform) → p.status ≡ m.platform.status
    → LeavesOther (stepped_to (with_first m first) (stopped_if stops p) System)
stops_if m first running true p same = λ e. absurd (cc)
stops_if m first running false p same = rw same (runs m running)

ended_by : (m : Machine) → m.platform.status ≡ Running → (tried : Tried) (fence : Option Fence) → SomeEnd m tried fence → LeavesOther tried
ended_by m running tried fence (Takes first trap) = runs m running
ended_by m running tried fence (Makes first completion event any) = runs m running
ended_by m running tried fence (Serves first rd value console leaves) = runs m running
ended_by m running tried fence (Calls first) = stops_if m first running (read m.platform.virt.regs a7 == 8) _ refl
ended_by m running tried fence (Passes first virt moment any) = runs m running
ended_by m running tried fence Halts = tt
ended_by m running tried fence (Fences first virt named any) = runs m running

leaves_other : (m : Machine) → m.platform.status ≡ Running → LeavesOther (try m)
leaves_other m running = ended_by m running (try m) _ (some_end m)

-- so a status that is so tells of a wait
told : (m : Machine) (tried : Tried) → LeavesOther tried → (left_by m tried).platform.status ≡ Waiting → tried ≡ WaitsForGood
told m (Ended after event) other e = absurd (other e)
told m WaitsForGood other e = refl

answer_of : (result : Handled) → status_after result ≡ Waiting → result ≡ handled.Waits
answer_of handled.Stepped e = absurd (cc)
answer_of (handled.Trapped into interrupt) e = absurd (cc)
answer_of handled.Waits e = refl
answer_of handled.Stopped e = absurd (cc)
answer_of handled.Retry e = absurd (cc)

-- and so does the answer
pub waits_exactly : (m after : Machine) (result : Handled) → m.platform.status ≡ Running → after ≡ left_after m
    → after.platform.status ≡ status_after result → (result ≡ handled.Waits) ↔ (try m ≡ WaitsForGood)
waits_exactly m after result running step status =
    let is : (left_by m (try m)).platform.status ≡ status_after result = ap (λ m. m.platform.status) (sym step) ∙ status in (
      λ e. told m (try m) (leaves_other m running) (is ∙ ap status_after e),
      λ e. let waiting : (left_by m (try m)).platform.status ≡ Waiting = ap (λ tried. (left_by m tried).platform.status) e in answer_of result (sym is ∙ waiting),
    )

-- a trap is not a wait
pub never_waits : (m other : Machine) (trap : Trap) (result : Handled) → result ≢ handled.Waits → try m ≡ trapped other trap → (result ≡ handled.Waits) ↔ (try m ≡ WaitsForGood)
never_waits m other trap result goes is = (λ e. absurd (goes e), λ e. let never : WaitsForGood ≡ trapped other trap = sym e ∙ is in absurd (cc))
