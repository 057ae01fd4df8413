-- What a try leaves of first-stage translations: some of those before it and of those that it finds, and none
-- that it names as a fence.
use Rattle.std.specs.Prelude.{not, filter, get_or, unwrap_or}
use Rattle.std.specs.List.{All}
use Rattle.std.proofs.Common.{cond, ◌≡◌, ℕ, ◌-◌, ◌%◌, ◌==◌, Bool, true, false, List, [], ◌∷◌, ◌++◌, length, Option, Some, None, refl}
use Rattle.std.proofs.lemmas.List.Elements.{All-cons, All-drop, All-filter, All-head, All-nil, All-push, All-tail}
use Rattle.arch_defs.specs.declared.first.FirstEntry.{FirstEntry}
use Rattle.arch_defs.specs.declared.registers.Virtual.{Virtual}
use Rattle.arch_defs.specs.declared.walks.MissingPlace.{MissingPlace}
use Rattle.arch_defs.specs.declared.widths.Width.{Width}
use Rattle.arch_defs.specs.FirstEntries.{all_filled, first_filled, first_room, names_first, names_first_of_guest, unnamed_first, without_first}
use Rattle.arch_defs.specs.Inputs.{next_input}
use Rattle.arch_defs.specs.Interrupts.{due}
use Rattle.arch_defs.specs.Memory.{ram_memory}
use Rattle.arch_defs.specs.Registers.{a7, read}
use Rattle.arch_defs.specs.SecondStage.{OnDevice, is_implicit}
use Rattle.arch_defs.specs.Traps.{missing_place_fault}
use Rattle.arch_defs.specs.Waits.{wake_moment}
use Rattle.op_defs.specs.declared.ops.DataAccess.{DataAccess}
use Rattle.op_defs.specs.declared.ops.Purpose.{Purpose}
use Rattle.machine_defs.specs.declared.events.Event.TheVariants.{System}
use Rattle.machine_defs.specs.DeviceSteps.{DeviceCompletion, device_completed, device_step, device_wanted, served}
use Rattle.machine_defs.specs.FirstLeaves.{tag_of}
use Rattle.machine_defs.specs.Freshness.{found_if_ended}
use Rattle.machine_defs.specs.HlvAccesses.{Completes, Device, HlvEnd, Traps, hlv_outcome}
use Rattle.machine_defs.specs.Machine.{Ended, Machine, Platform, Tried, WaitsForGood, has_enabled_interrupt, stepped_to, trapped, waited, waited_until, with_registers}
use Rattle.machine_defs.specs.Outcomes.{Outcome, Done, Trapped, Missed, Called, Waits, Fenced, FirstFenced, Accesses}
use Rattle.machine_defs.specs.Runs.{left_by}
use Rattle.machine_defs.specs.Tries.{Stages, apply_outcome, found_by_try, found_with_code, hlv_committed, named_by_try, named_with_code, outcome_names, outcome_under, tried_with, try_under, unplaced, with_found}
use Rattle.instruction_laws.proofs.Cached.{either}

-- what holds of each translation holds after fills
pub filled_first : (P : FirstEntry → Type 0) (entries : List FirstEntry) (e : FirstEntry) → All P entries → P e → All P (first_filled entries e)
unfolding first_filled
filled_first P entries e all one = All-drop P (length (without_first e entries ++ e ∷ []) - first_room) (without_first e entries ++ e ∷ [])
    (All-push P (without_first e entries) e (All-filter _ P entries all) one)

pub all_filled_first : (P : FirstEntry → Type 0) (entries found : List FirstEntry) → All P entries → All P found → All P (all_filled entries found)
unfolding all_filled
all_filled_first P entries [] all of_found = all
all_filled_first P entries (e ∷ es) all of_found = all_filled_first P (first_filled entries e) es (filled_first P entries e all (All-head P e es of_found)) (All-tail P e es of_found)

-- those that a fence leaves, it does not name
passing : (named : FirstEntry → Bool) (b : Bool) (e : FirstEntry) (es : List FirstEntry) → named e ≡ b → All (λ x. named x ≡ false) es
    → All (λ x. named x ≡ false) (cond (not b) (e ∷ es) es)
passing named true e es is all = all
passing named false e es is all = All-cons (λ x. named x ≡ false) e es is all

pub unnamed_passes : (named : FirstEntry → Bool) (entries : List FirstEntry) → All (λ e. named e ≡ false) (unnamed_first named entries)
unfolding unnamed_first
unnamed_passes named [] = All-nil (λ e. named e ≡ false)
unnamed_passes named (e ∷ es) = passing named (named e) e (filter (λ x. not (named x)) es) refl (unnamed_passes named es)

-- all of these translations, or those that are not named
data IsPart (before : List FirstEntry) : List FirstEntry → Type 0 where
  Whole : IsPart before before
  Part : (named : FirstEntry → Bool) → IsPart before (unnamed_first named before)

part_keeps : (P : FirstEntry → Type 0) (before after : List FirstEntry) → IsPart before after → All P before → All P after
unfolding unnamed_first
part_keeps P before _ Whole all = all
part_keeps P before _ (Part named) all = All-filter _ P before all

-- what a try leaves of them, where it names such; a wait for good is not a fence
abbrev Leaves : List FirstEntry → (FirstEntry → Bool) → Tried → Type 0
Leaves before named (Ended after event) = IsPart before after.platform.virt.first × All (λ e. named e ≡ false) after.platform.virt.first
Leaves before named WaitsForGood = (e : FirstEntry) → named e ≡ false

abbrev names_none : FirstEntry → Bool
names_none e = false

none_is_named : (first : List FirstEntry) → All (λ e. names_none e ≡ false) first
none_is_named first i e inside = refl

-- all of them, where it is not a fence
stepped_leaves : (m : Machine) → IsPart m.platform.virt.first m.platform.virt.first × All (λ e. names_none e ≡ false) m.platform.virt.first
stepped_leaves m = (Whole, none_is_named m.platform.virt.first)

until_leaves : (m : Machine) (virt : Virtual) (moment : Option ℕ) → Leaves m.platform.virt.first names_none (waited_until m virt moment)
until_leaves m virt (Some moment) = stepped_leaves m
until_leaves m virt None = λ e. refl

waited_leaves : (m : Machine) (virt : Virtual) → Leaves m.platform.virt.first names_none (waited m virt)
waited_leaves m virt = by (has_enabled_interrupt m.platform.virt.csrs)
    (wake_moment m.platform.virt.csrs.sie m.platform.clock.timer (next_input m.platform.console.inputs))
  where
    by : (b : Bool) (moment : Option ℕ) → Leaves m.platform.virt.first names_none (cond b (stepped_to m (with_registers m.platform virt) System) (waited_until m virt moment))
    by true moment = stepped_leaves m
    by false moment = until_leaves m virt moment

served_leaves : (m : Machine) (missing : MissingPlace) (completion : Option DeviceCompletion) → Leaves m.platform.virt.first names_none (served m missing completion)
served_leaves m missing (Some completion) = stepped_leaves m
served_leaves m missing None = stepped_leaves m

device_leaves : (m : Machine) (missing : MissingPlace) (width : Width) (purpose : Purpose) → Leaves m.platform.virt.first names_none (device_step m missing width purpose)
device_leaves m missing width purpose = let p = m.platform in
    served_leaves m missing (device_completed p.virt p.console p.clock.time (missing.address % 4096) width purpose)

wanted_leaves : (m : Machine) (missing : MissingPlace) (wanted : Option DataAccess) → Leaves m.platform.virt.first names_none (device_wanted m missing wanted)
wanted_leaves m missing (Some wanted) = device_leaves m missing wanted.width wanted.purpose
wanted_leaves m missing None = stepped_leaves m

unplaced_leaves : (m : Machine) (missing : MissingPlace) (wanted : Option DataAccess) (on : Bool) → Leaves m.platform.virt.first names_none (unplaced m missing wanted on)
unplaced_leaves m missing wanted false = stepped_leaves m
unplaced_leaves m missing wanted true = by (is_implicit missing.kind)
  where
    by : (implicit : Bool) → Leaves m.platform.virt.first names_none (cond implicit (trapped m (missing_place_fault missing)) (device_wanted m missing wanted))
    by true = stepped_leaves m
    by false = wanted_leaves m missing wanted

hlv_leaves : (m : Machine) (wanted : DataAccess) (end : HlvEnd) → Leaves m.platform.virt.first names_none (hlv_committed m wanted end)
hlv_leaves m wanted (Completes completion) = stepped_leaves m
hlv_leaves m wanted (Device missing) = device_leaves m missing wanted.width wanted.purpose
hlv_leaves m wanted (Traps trap) = stepped_leaves m

-- and else those that it does not name
fenced_leaves : (first : List FirstEntry) (named : FirstEntry → Bool) → IsPart first (unnamed_first named first) × All (λ e. named e ≡ false) (unnamed_first named first)
fenced_leaves first named = (Part named, unnamed_passes named first)

concluded_leaves : (m : Machine) (device : OnDevice) (o : Outcome) → Leaves m.platform.virt.first (outcome_names (tag_of m.platform.virt) o) (apply_outcome device m o)
concluded_leaves m device (Done virt stored event) = stepped_leaves m
concluded_leaves m device (Trapped trap) = stepped_leaves m
concluded_leaves m device (Missed missing wanted) = unplaced_leaves m missing wanted (device missing.address missing.kind)
concluded_leaves m device Called =
    either (λ (p : Platform). IsPart m.platform.virt.first p.virt.first × All (λ e. names_none e ≡ false) p.virt.first) (read m.platform.virt.regs a7 == 8) _ _
    (stepped_leaves m) (stepped_leaves m)
concluded_leaves m device (Waits virt) = waited_leaves m virt
concluded_leaves m device (Fenced virt fence) = fenced_leaves m.platform.virt.first (names_first_of_guest fence)
concluded_leaves m device (FirstFenced virt named fence) = fenced_leaves m.platform.virt.first (names_first (unwrap_or named (tag_of m.platform.virt)) fence)
concluded_leaves m device (Accesses wanted) = hlv_leaves m wanted (hlv_outcome m.device (ram_memory m.ram) m.platform.virt wanted)

tried_leaves : (m : Machine) (stages : Stages) → Leaves (all_filled m.platform.virt.first (found_by_try stages m)) (named_by_try stages m) (try_under stages m)
unfolding try_under found_by_try named_by_try all_filled
tried_leaves m stages = by (due m.platform.virt.csrs m.platform.virt.mode)
  where
    by : (code : Option ℕ) → Leaves (all_filled m.platform.virt.first (found_with_code stages m code)) (named_with_code stages m code) (tried_with stages m code)
    by (Some code) = stepped_leaves m
    by None = concluded_leaves (with_found stages m) stages.device (outcome_under stages m)

-- so what holds of those before a try and of those that it finds holds of those after it
pub tried_keeps_first : (P : FirstEntry → Type 0) (m : Machine) (stages : Stages) → All P m.platform.virt.first → All P (found_if_ended (found_by_try stages m) (try_under stages m))
    → All P (left_by m (try_under stages m)).platform.virt.first
tried_keeps_first P m stages all of_found = by (try_under stages m) (tried_leaves m stages) of_found
  where
    by : (t : Tried) → Leaves (all_filled m.platform.virt.first (found_by_try stages m)) (named_by_try stages m) t → All P (found_if_ended (found_by_try stages m) t) → All P (left_by m t).platform.virt.first
    by (Ended after event) leaves found = part_keeps P (all_filled m.platform.virt.first (found_by_try stages m)) after.platform.virt.first leaves.0
        (all_filled_first P m.platform.virt.first (found_by_try stages m) all found)
    by WaitsForGood leaves found = all

-- and so does what holds of lists, if fences keep it
pub tried_keeps_list : (Q : List FirstEntry → Type 0) → ((named : FirstEntry → Bool) (entries : List FirstEntry) → Q entries → Q (unnamed_first named entries))
    → (m : Machine) (stages : Stages) → Q m.platform.virt.first → Q (all_filled m.platform.virt.first (found_by_try stages m)) → Q (left_by m (try_under stages m)).platform.virt.first
tried_keeps_list Q fences m stages before filled = by (try_under stages m) (tried_leaves m stages)
  where
    part : (entries after : List FirstEntry) → IsPart entries after → Q entries → Q after
    part entries _ Whole has = has
    part entries _ (Part named) has = fences named entries has

    by : (t : Tried) → Leaves (all_filled m.platform.virt.first (found_by_try stages m)) (named_by_try stages m) t → Q (left_by m t).platform.virt.first
    by (Ended after event) leaves = part (all_filled m.platform.virt.first (found_by_try stages m)) after.platform.virt.first leaves.0 filled
    by WaitsForGood leaves = before

-- and it names none of these
pub tried_unnamed_first : (m : Machine) (stages : Stages) → All (λ e. named_by_try stages m e ≡ false) (left_by m (try_under stages m)).platform.virt.first
tried_unnamed_first m stages = by (try_under stages m) (tried_leaves m stages)
  where
    by : (t : Tried) → Leaves (all_filled m.platform.virt.first (found_by_try stages m)) (named_by_try stages m) t → All (λ e. named_by_try stages m e ≡ false) (left_by m t).platform.virt.first
    by (Ended after event) leaves = leaves.1
    by WaitsForGood leaves = λ i e inside. leaves (get_or m.platform.virt.first i e)

-- what holds of all that it finds, if it ends, holds of all that it finds
pub found_if_ends : (P : FirstEntry → Type 0) (found : List FirstEntry) (t : Tried) → All P found → All P (found_if_ended found t)
found_if_ends P found (Ended after event) all = all
found_if_ends P found WaitsForGood all = All-nil P
