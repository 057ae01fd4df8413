-- An access to which the second stage gives no place: one to the device page, a fill, or the fault of the walk of the guest's own table.
use Rattle.std.proofs.Common.{cond, ◌≡◌, ℕ, ◌<◌, Bool, true, false, List, [], ◌∷◌, length, Option, Some, None, refl, sym, ◌∙◌, arith}
use Rattle.arch_defs.specs.declared.cached.Entry.{Entry}
use Rattle.arch_defs.specs.declared.walks.MissingPlace.{MissingPlace}
use Rattle.arch_defs.specs.CachedEntries.{CanFill}
use Rattle.arch_defs.specs.Ram.{ram_of}
use Rattle.arch_defs.specs.Spaces.{Space, front as spaces_front}
use Rattle.arch_defs.specs.SecondStage.{is_implicit}
use Rattle.arch_defs.specs.Traps.{missing_place_fault}
use Rattle.arch_defs.specs.WalkedEntries.{folds}
use Rattle.op_defs.specs.declared.ops.DataAccess.{DataAccess}
use Rattle.machine_defs.specs.DeviceSteps.{DeviceCompletion, device_wanted, served}
use Rattle.machine_defs.specs.Fills.{fill, filled_front, missing_entry_at}
use Rattle.machine_defs.specs.Machine.{Machine, trapped}
use Rattle.machine_defs.specs.Tries.{device_of, unplaced}
use Rattle.fill_laws.proofs.Leaves.{fills_can_be_made}
use Rattle.instruction_laws.specs.FrontSpaces.{FrontIs}
use Rattle.shadow_pool.specs.Slots.{KeepsPool, space_at, spaces_of}
use Rattle.guest_exit.specs.declared.guests.Guest.{Guest}
use Rattle.hosted_steps.specs.ExitCases.{Missing, entry_for, entry_for_exit}
use Rattle.guest_exit.specs.Steps.{IsNotPlain}
use Rattle.guest_exit.specs.View.{IsPlaced, machine_of, platform_of}
use Rattle.machine_defs.specs.Outcomes.{Missed}
use Rattle.guest_exit.proofs.Alone.{machine_as}
use Rattle.guest_exit.proofs.ExitCases.{filled_by}
use Rattle.guest_exit.proofs.Pools.{ram_by_pool, size_of}

-- what it gives can be filled
pub can_fill : (old : Guest) (memory : List ℕ) (missing : MissingPlace) (e : Entry) → IsPlaced old memory
    → entry_for (machine_of old memory) missing ≡ Some e → CanFill old.pool.part.blocks e
can_fill old memory missing e at some =
    rw at.own (fills_can_be_made old.device old.virt.csrs (ram_of old.part.blocks memory) old.part.blocks missing.address missing.kind e (size_of old.part memory at.held)
    (filled_by (machine_of old memory) missing e some).walked)

-- it is for the front space
pub record HasFront (old : Guest) : Type 0 where
  pub some : 0 < length (spaces_of old.pool)
  pub first : FrontIs (space_at (spaces_of old.pool) 0).key (spaces_of old.pool)

pub folding_front : (old : Guest) (memory : List ℕ) (missing : MissingPlace) (e : Entry) → IsPlaced old memory
    → entry_for (machine_of old memory) missing ≡ Some e → HasFront old
folding_front old memory missing e at some = by (folds old.virt) refl some
  where
    front : (spaces : List Space) → FrontIs old.virt.csrs.hgatp spaces → (0 < length spaces) × FrontIs (space_at spaces 0).key spaces
    front [] is = absurd is
    front (s ∷ others) is = (omega arith, refl)

    by : (folding : Bool) → folds old.virt ≡ folding
        → cond folding (missing_entry_at old.device old.virt.csrs (ram_of old.part.blocks memory) (spaces_front (spaces_of old.pool)) (Missed missing None)) None ≡ Some e
        → HasFront old
    by true folding some = let both = front (spaces_of old.pool) (at.orderly.front folding) in record { some = both.0; first = both.1 }
    by false folding some = absurd cc

-- it is filled into the front space
pub fill_made : (old new : Guest) (memory changed : List ℕ) (missing : MissingPlace) (e : Entry) → IsPlaced old memory
    → entry_for (machine_of old memory) missing ≡ Some e → new.part ≡ old.part → new.device ≡ old.device → KeepsPool old.pool memory new.pool changed
    → platform_of new ≡ platform_of old → spaces_of new.pool ≡ filled_front old.pool.most (spaces_of old.pool) e
    → (e : Entry) × (entry_for_exit (machine_of old memory) (Missing missing) ≡ Some e) × (machine_of new changed ≡ fill (machine_of old memory) e)
fill_made old new memory changed missing e at some part device keeps same are =
    (e, some, machine_as old new memory changed _ _ _ part device same (ram_by_pool old.part old.pool memory changed at.once at.own at.tidy at.held keeps.only) are keeps.room keeps.most)

-- an access that is made on the device page lacks nothing
pub none_on_device : (m : Machine) (missing : MissingPlace) → device_of m missing.address missing.kind ≡ true → entry_for m missing ≡ None
none_on_device m missing on = by (entry_for m missing) refl
  where
    by : (o : Option Entry) → entry_for m missing ≡ o → entry_for m missing ≡ None
    by None none = none
    by (Some e) some = let off = (filled_by m missing e some).off in let never : true ≡ false = sym on ∙ off in absurd (cc)

-- such an access is not a plain step
pub served_is_quiet : (m : Machine) (missing : MissingPlace) (completion : Option DeviceCompletion) → IsNotPlain (served m missing completion)
served_is_quiet m missing None = record { trace = refl; plain = refl }
served_is_quiet m missing (Some completion) = record { trace = refl; plain = refl }

wanted_is_quiet : (m : Machine) (missing : MissingPlace) (wanted : Option DataAccess) → IsNotPlain (device_wanted m missing wanted)
wanted_is_quiet m missing None = record { trace = refl; plain = refl }
wanted_is_quiet m missing (Some wanted) = served_is_quiet m missing _

pub unplaced_is_quiet : (m : Machine) (missing : MissingPlace) (wanted : Option DataAccess) (on : Bool) → IsNotPlain (unplaced m missing wanted on)
unplaced_is_quiet m missing wanted false = record { trace = refl; plain = refl }
unplaced_is_quiet m missing wanted true =
    elim (is_implicit missing.kind) as (λ b. IsNotPlain (cond b (trapped m (missing_place_fault missing)) (device_wanted m missing wanted)))
    [ true ↦ record { trace = refl; plain = refl } | false ↦ wanted_is_quiet m missing wanted ]
