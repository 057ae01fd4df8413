-- An entry of the hart for one step, which watches whatever the guest's V is.
use Rattle.std.specs.Prelude.{◌&&◌}
use Rattle.std.proofs.Common.{arith, ◌≡◌, ℕ, ◌<◌, ◌≤◌, ◌∙◌, Bool, true, false, List, Some, ap, subst, sym}
use Rattle.arch_defs.specs.declared.hart_states.HartState.{HartState}
use Rattle.arch_defs.specs.declared.modes.Trap.{Trap}
use Rattle.arch_defs.specs.declared.registers.Virtual.{Virtual}
use Rattle.rv64_hart.specs.declared.harts.Why.TheVariants.{Exit}
use Rattle.rv64_hart.specs.Counts.{Counts}
use Rattle.rv64_hart.specs.Steps.{Exits, Progress, hart_step, hart_steps, progress}
use Rattle.world_switch.specs.Hosting.{loaded_in, root_at}
use Rattle.hosted_steps.specs.HartSteps.{root_frame_for}
use Rattle.guest_exit.specs.declared.guests.Guest.{Guest}
use Rattle.guest_exit.specs.HartEntry.{CanEnter, Hands, HasEntered, is_watched, moved}
use Rattle.guest_exit.specs.Steps.{MakesSteps}
use Rattle.guest_exit.specs.View.{loaded_for, machine_of, platform_of}
use Rattle.guest_exit.proofs.Entries.{steps_from, stopped}
use Rattle.guest_exit.proofs.EntryResults.{CountsEntry, TakesBack, entered}
use Rattle.guest_exit.proofs.StepEvents.{IsShown, back_alike, never_watched, one_taken, shown, unwatched}

-- the hart has made that many steps of it
pub record MakesOnce (guest : Guest) (memory : List ℕ) (t n : ℕ) (q : Progress) : Type 0 where
  pub few : n ≤ 1
  pub steps :
      hart_steps true n (progress (loaded_in guest.part (root_at guest.part (root_frame_for guest.part guest.pool guest.virt)) guest.virt) memory t false) ≡ Some q

loaded_once : (guest : Guest) (memory : List ℕ) (t n : ℕ) (q : Progress) → MakesOnce guest memory t n q
    → hart_steps true n (progress (loaded_for guest) memory t false) ≡ Some q
loaded_once guest memory t n q made = steps_from true guest.part guest.pool guest.virt memory t n q made.steps

-- it made one, where its last step was a trap into VS
pub one_once : (guest : Guest) (memory : List ℕ) (t n : ℕ) (q : Progress) → MakesOnce guest memory t n q → q.trapped ≡ true → n ≡ 1
one_once guest memory t n q made trapped = one_taken n (loaded_for guest) memory t q made.few (loaded_once guest memory t n q made) trapped

-- what it leaves of a guest, where it made k of them
pub entered_once : (guest new : Guest) (memory changed : List ℕ) (state : HartState) (n k : ℕ) (trapped : Bool) (old counts : Counts) → CanEnter guest memory 1
    → MakesOnce guest memory old.trace n (progress state changed counts.trace trapped) → n ≡ k → TakesBack n guest new state.virt trapped → CountsEntry n old counts
    → HasEntered k guest memory new changed old counts
entered_once guest new memory changed state n k trapped old counts can made is back account =
    subst (λ n. HasEntered n guest memory new changed old counts) is
    (entered guest new memory changed state 1 n (is_watched guest.virt && trapped) old counts can made.few
    (unwatched (is_watched guest.virt) n (loaded_for guest) memory old.trace (progress state changed counts.trace trapped) made.few (loaded_once guest memory old.trace n _ made))
    (record {
      saves = back.saves ∙ ap (λ (virt : Virtual). moved (platform_of guest) virt n) (back_alike guest.part state.virt guest.virt trapped);
      current = back.current;
      goes = back.goes;
    })
    account)

-- what is told of the step, where it made one
pub shown_once : (guest : Guest) (memory : List ℕ) (t n : ℕ) (q : Progress) → CanEnter guest memory 1 → MakesOnce guest memory t n q → n ≡ 1 → IsShown (machine_of guest memory) t q
shown_once guest memory t n q can made one =
    shown guest.part guest.pool (machine_of guest memory) memory t n q can.lasts.own can.placed one (loaded_once guest memory t n q made)

-- a step that the hart leaves to the host
pub left_once : (guest new : Guest) (memory changed : List ℕ) (state : HartState) (t u n : ℕ) (trap : Trap) → CanEnter guest memory 1
    → MakesOnce guest memory t n (progress state changed u false) → n < 1 → hart_step state changed ≡ Exits trap
    → MakesSteps 0 (machine_of guest memory) (machine_of new changed) → Hands guest.part guest.pool (machine_of new changed) changed trap
left_once guest new memory changed state t u n trap can made none exits run =
    let m = machine_of guest memory in
    let watch = is_watched guest.virt in
    let unmade = unwatched watch n (loaded_for guest) memory t (progress state changed u false) made.few (loaded_once guest memory t n _ made)
    ∙ ap (λ trapped. Some (progress state changed u trapped)) (never_watched watch) in
    let is : 0 ≡ n = omega (arith, none) in
    let run = subst (λ n. MakesSteps n m (machine_of new changed)) is run in
    subst (λ m. Hands guest.part guest.pool m changed trap) (sym run.steps)
    (stopped guest.part guest.pool m memory 1 t state changed u n (Exit trap) can.running can.lasts can.placed made.few unmade (none, exits)).1
