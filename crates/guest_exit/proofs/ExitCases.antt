-- Which exit a trap of the hart is, and what is known of a step by it.
use Rattle.std.specs.Prelude.{◌↔◌}
use Rattle.std.proofs.Common.{cond, ◌≡◌, Bool, true, false, List, Option, Some, None, refl, ap, sym, ◌∙◌}
use Rattle.arch_defs.specs.declared.cached.Entry.{Entry}
use Rattle.arch_defs.specs.declared.first.FirstEntry.{FirstEntry}
use Rattle.arch_defs.specs.declared.modes.Trap.{Trap}
use Rattle.arch_defs.specs.declared.walks.MissingPlace.{MissingPlace}
use Rattle.arch_defs.specs.CachedEntries.{device_by_entries}
use Rattle.arch_defs.specs.Spaces.{front}
use Rattle.arch_defs.specs.WalkedEntries.{entry_by_walk, folds}
use Rattle.guest_settings.specs.declared.statuses.Status.TheVariants.{Running}
use Rattle.machine_defs.specs.Fills.{missing_entry, missing_entry_at}
use Rattle.machine_defs.specs.Machine.{Machine, WaitsForGood, trapped}
use Rattle.machine_defs.specs.Runs.{left_by}
use Rattle.machine_defs.specs.Outcomes.{Missed}
use Rattle.machine_defs.specs.Tries.{device_of, try, unplaced}
use Rattle.guest_exit.specs.declared.hart_exit.Handled.{Handled}
use Rattle.guest_exit.specs.declared.hart_exit.Handled.TheVariants as handled
use Rattle.hosted_steps.specs.ExitCases.{Exit, Instruction, Missing, Call, Own, IsLeft, data_wanted, entry_for, entry_for_exit, found_next, having_found, try_at}
use Rattle.guest_exit.specs.HartExit.{IsHandled, IsMadeOf, status_after}
use Rattle.guest_exit.proofs.ForGood.{never_waits, waits_exactly}
use Rattle.hosted_steps.proofs.ExitCases.{and_false}

-- what is made of the exit is made of the machine's next step
pub handled_by : (m after : Machine) (left : Exit) (result : Handled) → IsLeft m (found_next m) (try m) (missing_entry m) left → IsMadeOf left result m after → IsHandled result m after
handled_by m after left result is made = record {
  step = λ went. record { ready = is.fills ∙ made.ready went; step = made.step went ∙ ap (left_by m) (sym is.step) };
  fill = λ retry. let filled = made.fill retry in (filled.0, is.fills ∙ filled.1, filled.2);
}

pub record IsFilled (m : Machine) (missing : MissingPlace) (e : Entry) : Type 0 where
  pub off : device_of m missing.address missing.kind ≡ false
  pub walked : entry_by_walk m.device m.platform.virt.csrs m.ram missing.address missing.kind ≡ Some e

pub filled_by : (m : Machine) (missing : MissingPlace) (e : Entry) → entry_for m missing ≡ Some e → IsFilled m missing e
filled_by m missing e some = by (folds m.platform.virt) refl some
  where
    on : Bool
    on = device_by_entries (front m.spaces) m.platform.virt.csrs.hs.status.mxr missing.address missing.kind

    walked : Option Entry
    walked = entry_by_walk m.device m.platform.virt.csrs m.ram missing.address missing.kind

    off : (b : Bool) → on ≡ b → cond b None walked ≡ Some e → folds m.platform.virt ≡ true → IsFilled m missing e
    off true is some folding = absurd (cc)
    off false is some folding = record { off = rw (folding, is) (and_false m.device); walked = some }

    by : (folding : Bool) → folds m.platform.virt ≡ folding → cond folding (missing_entry_at m.device m.platform.virt.csrs m.ram (front m.spaces) (Missed missing None)) None ≡ Some e
        → IsFilled m missing e
    by true folding some = off on refl some folding
    by false flat some = absurd (cc)

-- so the try is a trap
filled_traps : (m : Machine) (found : List FirstEntry) (left : Exit) (e : Entry) → entry_for_exit m left ≡ Some e → (trap : Trap) × (try_at found m left ≡ trapped (having_found found m) trap)
filled_traps m found (Missing missing) e some = (_, ap (unplaced (having_found found m) missing (data_wanted m)) (filled_by m missing e some).off)
filled_traps m found (Instruction o) e some = absurd (cc)
filled_traps m found Call e some = absurd (cc)
filled_traps m found (Own trap) e some = absurd (cc)

-- the answer tells of a wait for good
pub handled_waits : (m after : Machine) (left : Exit) (result : Handled) → m.platform.status ≡ Running → IsLeft m (found_next m) (try m) (missing_entry m) left → IsMadeOf left result m after
    → after.platform.status ≡ status_after result → (result ≡ handled.Waits) ↔ (try m ≡ WaitsForGood)
handled_waits m after left handled.Retry running is made status =
    let filled = made.fill refl in
    let trap = filled_traps m (found_next m) left filled.0 filled.1 in
    never_waits m (having_found (found_next m) m) trap.0 handled.Retry (λ e. absurd (cc)) (is.step ∙ trap.1)
handled_waits m after left handled.Stepped running is made status =
    waits_exactly m after handled.Stepped running (((handled_by m after left handled.Stepped is made).step (λ e. absurd (cc))).step) status
handled_waits m after left (handled.Trapped into interrupt) running is made status =
    waits_exactly m after (handled.Trapped into interrupt) running (((handled_by m after left (handled.Trapped into interrupt) is made).step (λ e. absurd (cc))).step) status
handled_waits m after left handled.Waits running is made status =
    waits_exactly m after handled.Waits running (((handled_by m after left handled.Waits is made).step (λ e. absurd (cc))).step) status
handled_waits m after left handled.Stopped running is made status =
    waits_exactly m after handled.Stopped running (((handled_by m after left handled.Stopped is made).step (λ e. absurd (cc))).step) status
