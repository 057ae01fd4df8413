-- What the host makes of a step, as the step of the machine.
use Rattle.std.specs.Prelude.{◌↔◌, ◌&&◌, not}
use Rattle.std.proofs.Common.{cond, ◌≡◌, ℕ, List, Option, Some, None, Bool, true, false, refl, ap, sym, subst, ◌∙◌}
use Rattle.arch_defs.specs.declared.cached.Fence.{Fence}
use Rattle.arch_defs.specs.declared.first.FirstEntry.{FirstEntry}
use Rattle.arch_defs.specs.declared.registers.Virtual.{Virtual}
use Rattle.arch_defs.specs.Frames.{Only, in_blocks}
use Rattle.arch_defs.specs.FirstEntries.{names_first_of_guest, unnamed_first}
use Rattle.arch_defs.specs.Inputs.{next_input}
use Rattle.arch_defs.specs.Ram.{ram_of}
use Rattle.arch_defs.specs.Spaces.{Space, entered, fenced}
use Rattle.arch_defs.specs.WalkedEntries.{folds}
use Rattle.arch_defs.specs.Waits.{wake_moment}
use Rattle.arch_defs.proofs.FrameSets.{left_within, only_more}
use Rattle.machine_defs.specs.declared.events.Event.{Event}
use Rattle.machine_defs.specs.declared.events.Event.TheVariants.{System}
use Rattle.machine_defs.specs.Fills.{missing_entry}
use Rattle.machine_defs.specs.Machine.{Machine, Platform, has_enabled_interrupt, stepped_to, ticked, waited, waited_until, with_registers}
use Rattle.arch_defs.specs.Registers.{passed}
use Rattle.machine_defs.specs.Outcomes.{Outcome, Fenced, Waits}
use Rattle.machine_defs.specs.Runs.{event_in, left_by}
use Rattle.machine_defs.specs.Tries.{apply_outcome, committed, device_of, enters}
use Rattle.shadow_pool.specs.Slots.{KeepsPool, pool_frames, room_of, spaces_of}
use Rattle.guest_exit.specs.declared.guests.Guest.{Guest}
use Rattle.guest_exit.specs.declared.hart_exit.Handled.{Handled}
use Rattle.guest_exit.specs.declared.hart_exit.Handled.TheVariants as handled
use Rattle.hosted_steps.specs.ExitCases.{having_found}
use Rattle.guest_exit.specs.HartExit.{HoldsTables, IsFinished, IsHandled, KeepsOutside, KeepsPart, with_pc, with_state}
use Rattle.guest_exit.specs.Steps.{IsMiss, IsNotPlain, Makes}
use Rattle.guest_exit.specs.View.{IsPlaced, KeepsLayout, KeepsSpaces, changed_by, machine_of, platform_of}
use Rattle.guest_exit.proofs.Placed.{placed_by_fill, placed_by_step}
use Rattle.guest_exit.proofs.Pools.{ram_by_pool, tidy_by_blocks}

-- the machine of a guest, by what has changed
pub machine_as : (old new : Guest) (memory changed ram : List ℕ) (p : Platform) (spaces : List Space) → new.part ≡ old.part → new.device ≡ old.device → platform_of new ≡ p
    → ram_of old.part.blocks changed ≡ ram → spaces_of new.pool ≡ spaces → room_of new.pool ≡ room_of old.pool → new.pool.most ≡ old.pool.most
    → machine_of new changed ≡ record (machine_of old memory) { platform = p; ram = ram; spaces = spaces }
machine_as old new memory changed ram p spaces part device e rams are room most =
    rw (part, device, rams, are, room, most) (ap (λ p. record (machine_of old memory) { platform = p; ram = ram; spaces = spaces }) e)

pub machine_is : (old new : Guest) (p : Platform) (memory : List ℕ) → KeepsSpaces old new → platform_of new ≡ p
    → machine_of new memory ≡ record (machine_of old memory) { platform = p }
machine_is old new p memory fixed e =
    rw (fixed.part, fixed.device, fixed.pool) (ap (λ p. record (machine_of old memory) { platform = p }) e)

-- what leaves the spaces leaves all that no step changes
pub stays_by : (old new : Guest) → KeepsSpaces old new → KeepsLayout old new
stays_by old new keeps = record { part = keeps.part; device = keeps.device; pool = rw keeps.pool refl; entry_room = rw keeps.pool refl; space_room = rw keeps.pool refl }

pub only_of_blocks : (guest : Guest) (memory changed : List ℕ) → Only (in_blocks guest.part.blocks) memory changed → Only (changed_by guest) memory changed
only_of_blocks guest memory changed only =
    only_more (in_blocks guest.part.blocks) (changed_by guest) memory changed (left_within (in_blocks guest.part.blocks) (pool_frames guest.pool)) only

pub blocks_changed : (old new : Guest) (memory changed : List ℕ) → IsPlaced old memory → KeepsSpaces old new → Only (in_blocks old.part.blocks) memory changed → KeepsOutside old memory new changed
blocks_changed old new memory changed at keeps only = record {
  only = only_of_blocks old memory changed only;
  tidy = rw keeps.pool (tidy_by_blocks old.part old.pool memory changed at.once at.own at.tidy only);
  keeps = stays_by old new keeps;
}

pub holds_with : (guest : Guest) (virt : Virtual) (memory : List ℕ) → HoldsTables guest memory → HoldsTables (with_state guest virt) memory
holds_with guest virt memory at = record { once = at.once; held = at.held; own = at.own; tidy = at.tidy }

-- an instruction that leaves this state, where it enters no space, and where it enters one
pub made_stays : (old new : Guest) (memory : List ℕ) (virt : Virtual) → enters old.virt virt ≡ false → KeepsSpaces old new → platform_of new ≡ ticked (with_registers (platform_of old) virt)
    → machine_of new memory ≡ left_by (machine_of old memory) (committed (machine_of old memory) virt None System)
made_stays old new memory virt off keeps e = rw off (machine_is old new _ memory keeps e)

pub made_enters : (old new : Guest) (memory changed : List ℕ) (virt : Virtual) → enters old.virt virt ≡ true → HoldsTables old memory → new.part ≡ old.part → new.device ≡ old.device → KeepsPool old.pool memory new.pool changed
    → platform_of new ≡ ticked (with_registers (platform_of old) virt) → spaces_of new.pool ≡ entered (room_of old.pool) virt.csrs.hgatp (spaces_of old.pool)
    → machine_of new changed ≡ left_by (machine_of old memory) (committed (machine_of old memory) virt None System)
made_enters old new memory changed virt on at part device keeps e are =
    rw on (machine_as old new memory changed _ _ _ part device e (ram_by_pool old.part old.pool memory changed at.once at.own at.tidy at.held keeps.only) are keeps.room keeps.most)

-- a fence
pub fence_made : (old new : Guest) (memory changed : List ℕ) (virt : Virtual) (fence : Fence) → HoldsTables old memory → new.part ≡ old.part → new.device ≡ old.device
    → KeepsPool old.pool memory new.pool changed
    → platform_of new ≡ ticked (record (platform_of old) { virt = record virt { first = unnamed_first (names_first_of_guest fence) old.virt.first } }) → spaces_of new.pool ≡ fenced fence (spaces_of old.pool)
    → machine_of new changed ≡ left_by (machine_of old memory) (apply_outcome (device_of (machine_of old memory)) (machine_of old memory) (Fenced virt fence))
fence_made old new memory changed virt fence at part device keeps e are =
    machine_as old new memory changed _ _ _ part device e (ram_by_pool old.part old.pool memory changed at.once at.own at.tidy at.held keeps.only) are keeps.room keeps.most

-- an instruction that has left the guest its state enters a space where it sets V and the state folds
pub sets_v : (nested folding : Bool) → (not nested && folding) ≡ true → nested ≡ false
sets_v false folding e = refl
sets_v true folding e = cc

pub folds_then : (nested folding : Bool) → (not nested && folding) ≡ true → folding ≡ true
folds_then false folding e = e
folds_then true folding e = cc

-- with the first-stage translations that it has
pub caches_same : (guest : Guest) (first : List FirstEntry) → first ≡ guest.virt.first
    → ticked (platform_of guest) ≡ ticked (record (platform_of guest) { virt = record guest.virt { first = first } })
caches_same guest first same = ap (λ first. ticked (record (platform_of guest) { virt = record guest.virt { first = first } })) (sym same)

pub finish_stays : (guest new : Guest) (memory : List ℕ) (nested : Bool) → (not nested && folds guest.virt) ≡ false → KeepsSpaces guest new
    → platform_of new ≡ ticked (platform_of guest) → IsFinished nested guest memory new memory
finish_stays guest new memory nested off keeps e = λ before own same.
    made_stays (with_state guest before) new memory guest.virt (rw own off) (record { part = keeps.part; device = keeps.device; pool = keeps.pool })
    (e ∙ caches_same guest before.first same)

-- a WFI, after which the guest had this state
pub wait_made : (old new : Guest) (virt : Virtual) (found : List FirstEntry) (memory : List ℕ) (end : Outcome) → virt ≡ passed old.virt → end ≡ Waits virt
    → Makes (with_pc (with_state old virt) old.virt.regs.pc) new (λ m. waited (having_found found m) virt)
    → machine_of new memory ≡ left_by (machine_of old memory) (apply_outcome (device_of (machine_of old memory)) (having_found found (machine_of old memory)) end)
wait_made old new virt found memory end passes is made = rw is
    (subst (λ virt. Makes (with_pc (with_state old virt) old.virt.regs.pc) new (λ m. waited (having_found found m) virt)
    → machine_of new memory ≡ left_by (machine_of old memory) (apply_outcome (device_of (machine_of old memory)) (having_found found (machine_of old memory)) (Waits virt)))
    (sym passes) (λ made. made memory) made)

pub wait_told : (old : Guest) (virt : Virtual) (found : List FirstEntry) (memory : List ℕ) (end : Outcome) (es : List Event) → virt ≡ passed old.virt → end ≡ Waits virt
    → ((memory : List ℕ) → event_in (waited (having_found found (machine_of (with_pc (with_state old virt) old.virt.regs.pc) memory)) virt) ≡ es)
    → event_in (apply_outcome (device_of (machine_of old memory)) (having_found found (machine_of old memory)) end) ≡ es
wait_told old virt found memory end es passes is told = rw is
    (subst (λ virt. ((memory : List ℕ) → event_in (waited (having_found found (machine_of (with_pc (with_state old virt) old.virt.regs.pc) memory)) virt) ≡ es)
    → event_in (apply_outcome (device_of (machine_of old memory)) (having_found found (machine_of old memory)) (Waits virt)) ≡ es)
    (sym passes) (λ told. told memory) told)

-- the answer tells whether a fill was made
never_both : (m : Machine) → IsMiss m → missing_entry m ≡ None → ⊥
never_both m (e, some) none = let both : Some e ≡ None = sym some ∙ none in absurd (cc)

pub retries_exactly : (m after : Machine) (result : Handled) → IsHandled result m after → (result ≡ handled.Retry) ↔ IsMiss m
retries_exactly m after handled.Retry is = let filled = is.fill refl in (λ e. (filled.0, filled.1), λ miss. refl)
retries_exactly m after handled.Stepped is = (λ e. absurd (cc), λ miss. absurd (never_both m miss (is.step (λ e. absurd (cc))).ready))
retries_exactly m after (handled.Trapped into interrupt) is = (λ e. absurd (cc), λ miss. absurd (never_both m miss (is.step (λ e. absurd (cc))).ready))
retries_exactly m after handled.Waits is = (λ e. absurd (cc), λ miss. absurd (never_both m miss (is.step (λ e. absurd (cc))).ready))
retries_exactly m after handled.Stopped is = (λ e. absurd (cc), λ miss. absurd (never_both m miss (is.step (λ e. absurd (cc))).ready))

-- and memory holds the guest's part after either
placed_by : (old new : Guest) (memory changed : List ℕ) (result : Handled) → IsPlaced old memory → KeepsOutside old memory new changed
    → IsHandled result (machine_of old memory) (machine_of new changed) → IsPlaced new changed
placed_by old new memory changed handled.Retry at within is = placed_by_fill old new memory changed at within.keeps within.only within.tidy (is.fill refl)
placed_by old new memory changed handled.Stepped at within is = placed_by_step old new memory changed at within.keeps within.only within.tidy (is.step (λ e. absurd (cc)))
placed_by old new memory changed (handled.Trapped into interrupt) at within is = placed_by_step old new memory changed at within.keeps within.only within.tidy (is.step (λ e. absurd (cc)))
placed_by old new memory changed handled.Waits at within is = placed_by_step old new memory changed at within.keeps within.only within.tidy (is.step (λ e. absurd (cc)))
placed_by old new memory changed handled.Stopped at within is = placed_by_step old new memory changed at within.keeps within.only within.tidy (is.step (λ e. absurd (cc)))

pub part_kept : (old new : Guest) (memory changed : List ℕ) (result : Handled) → IsPlaced old memory → KeepsOutside old memory new changed
    → IsHandled result (machine_of old memory) (machine_of new changed) → KeepsPart old memory new changed
part_kept old new memory changed result at within is =
    record { only = within.only; placed = placed_by old new memory changed result at within is; keeps = within.keeps }

-- a wait is not a plain step
until_is_quiet : (m : Machine) (virt : Virtual) (moment : Option ℕ) → IsNotPlain (waited_until m virt moment)
until_is_quiet m virt (Some moment) = record { trace = refl; plain = refl }
until_is_quiet m virt None = record { trace = refl; plain = refl }

waited_by : (m : Machine) (virt : Virtual) (pending : Bool) (moment : Option ℕ)
    → IsNotPlain (cond pending (stepped_to m (with_registers m.platform virt) System) (waited_until m virt moment))
waited_by m virt true moment = record { trace = refl; plain = refl }
waited_by m virt false moment = until_is_quiet m virt moment

pub waited_is_quiet : (m : Machine) (virt : Virtual) → IsNotPlain (waited m virt)
waited_is_quiet m virt = let p = m.platform in
    waited_by m virt (has_enabled_interrupt p.virt.csrs) (wake_moment p.virt.csrs.sie p.clock.timer (next_input p.console.inputs))
