-- What an entry of the hart leaves of a guest.
use Rattle.std.proofs.Common.{◌≡◌, ℕ, ◌+◌, ◌≤◌, Bool, false, List, Some, refl, ap, sym, ◌∙◌}
use Rattle.arch_defs.specs.declared.hart_states.HartState.{HartState}
use Rattle.arch_defs.specs.declared.registers.Virtual.{Virtual}
use Rattle.machine_defs.specs.Machine.{with_pending_lines}
use Rattle.rv64_hart.specs.Counts.{Counts}
use Rattle.rv64_hart.specs.Steps.{hart_steps, progress}
use Rattle.shadow_pool.specs.Slots.{Pooled, room_of, spaces_of}
use Rattle.guest_exit.specs.declared.guests.Guest.{Guest}
use Rattle.guest_exit.specs.HartEntry.{CanEnter, HasEntered, is_watched, moved, taken_back}
use Rattle.guest_exit.specs.Steps.{HasStepped}
use Rattle.guest_exit.specs.View.{KeepsSpaces, loaded_for, machine_of, platform_of}
use Rattle.guest_exit.proofs.Alone.{machine_as}
use Rattle.guest_exit.proofs.Entries.{ran, taken_is}
use Rattle.guest_exit.proofs.Placed.{placed_after}

-- what the guest takes back of the hart
pub record TakesBack (n : ℕ) (guest new : Guest) (hart : Virtual) (trapped : Bool) : Type 0 where
  pub saves : platform_of new ≡ moved (platform_of guest) (taken_back guest.part hart trapped guest.virt) n
  pub current : with_pending_lines (platform_of new) ≡ platform_of new
  pub goes : HasStepped n guest new

-- what the account has of it beside the trace
pub record CountsEntry (n : ℕ) (old counts : Counts) : Type 0 where
  pub entries : counts.entries ≡ old.entries + 1
  pub taken : counts.taken ≡ old.taken + n

pub entered : (guest new : Guest) (memory changed : List ℕ) (state : HartState) (limit n : ℕ) (trapped : Bool) (old counts : Counts) → CanEnter guest memory limit → n ≤ limit
    → hart_steps (is_watched guest.virt) n (progress (loaded_for guest) memory old.trace false) ≡ Some (progress state changed counts.trace trapped)
    → TakesBack n guest new state.virt trapped → CountsEntry n old counts → HasEntered n guest memory new changed old counts
entered guest new memory changed state limit n trapped old counts can within made back account =
    let part = guest.part in
    let pool = guest.pool in
    let m = machine_of guest memory in
    let q = progress state changed counts.trace trapped in
    let is = ran part pool m memory limit old.trace can.running can.lasts can.placed n within q made in
    let goes = back.goes in
    let fixed : KeepsSpaces guest new = record { part = goes.keeps.part; device = goes.keeps.device; pool = goes.keeps.pool } in
    let saves = back.saves ∙ ap (λ (virt : Virtual). moved (platform_of guest) virt n)
    (taken_is part state.virt is.own guest.virt trapped can.placed.once is.held is.stands.state) in
    let steps =
    machine_as guest new memory changed _ _ _ fixed.part fixed.device saves refl
    (ap spaces_of fixed.pool) (ap room_of fixed.pool) (ap (λ (pool : Pooled). pool.most) fixed.pool) ∙ sym is.machine in
    record {
      run = record { ready = is.need; steps = steps };
      goes = record { status = goes.status ∙ can.running; steps = goes.made; clock = goes.clock; current = back.current };
      keeps = record {
        only = is.only;
        placed = placed_after guest new memory changed n can.placed fixed is.only steps;
        keeps = fixed;
      };
      account = record { entries = account.entries; taken = account.taken; trace = is.trace };
    }
