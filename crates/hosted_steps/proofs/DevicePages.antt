-- Cached entries of the device page: a machine that has none caches none.
use Rattle.std.specs.Prelude.{◌||◌, ◌&&◌, nat_le}
use Rattle.std.proofs.Common.{◌≡◌, ℕ, ◌+◌, ◌*◌, ◌/◌, Bool, true, false, List, [], ◌∷◌, Option, Some, length, refl, sym, subst, arith}
use Rattle.std.proofs.lemmas.Bool.{and_parts, leb-true}
use Rattle.arch_defs.specs.declared.cached.Entry.{Entry}
use Rattle.arch_defs.specs.declared.cached.Fence.{Fence}
use Rattle.arch_defs.specs.declared.modes.Access.{Access}
use Rattle.arch_defs.specs.declared.registers.Csrs.{Csrs}
use Rattle.arch_defs.specs.declared.roots.GuestRoot.{GuestRoot}
use Rattle.arch_defs.specs.declared.roots.GuestRoot.TheVariants.{Bare, Table}
use Rattle.arch_defs.specs.declared.walks.LeafPte.{LeafPte}
use Rattle.arch_defs.specs.Devices.{is_on_device}
use Rattle.arch_defs.specs.Memory.{ram_memory}
use Rattle.arch_defs.specs.Roots.{guest_shape}
use Rattle.arch_defs.specs.SecondStage.{has_frame_of}
use Rattle.arch_defs.specs.Spaces.{Space}
use Rattle.arch_defs.specs.Walk.{leaf_address}
use Rattle.arch_defs.specs.WalkedEntries.{entry_by_table, entry_by_walk, entry_under}
use Rattle.machine_defs.specs.Fills.{fill, missing_entry}
use Rattle.machine_defs.specs.Machine.{Machine, Tried}
use Rattle.machine_defs.specs.Runs.{left_after, left_by}
use Rattle.machine_defs.specs.Tries.{stages_of}
use Rattle.fill_laws.specs.EachEntry.{EachEntry, FrontHas}
use Rattle.instruction_laws.proofs.Cached.{given, lacked}
use Rattle.fill_laws.proofs.EachEntry.{front_each, tried_each}
use Rattle.instruction_laws.proofs.KeptByRuns.{IsKept, kept_by_runs}
use Rattle.instruction_laws.proofs.Rooting.{RootEnd, root_end}
use Rattle.instruction_laws.proofs.TryEnds.{Calls, Fences, Halts, Makes, Passes, Serves, Takes}
use Rattle.hosted_steps.specs.DevicePages.{CachesOwnDevice, IsOfDevice, RunKeepsDevice}

-- what a walk gives: a frame in RAM is not that of the device page, and that page is given where there is one
walked_of_device : (device : Bool) (csrs : Csrs) (ram : List ℕ) (address : ℕ) (kind : Access) (e : Entry) → entry_by_walk device csrs ram address kind ≡ Some e
    → IsOfDevice device csrs.hgatp e
unfolding entry_by_walk
walked_of_device device csrs ram address kind e found = by csrs.hgatp found
  where
    above : (place size : ℕ) → (nat_le 2147483648 (place / 4096 * 4096) && nat_le (place / 4096 * 4096 + 4096) (2147483648 + size)) ≡ true → place / 4096 ≡ 65536 → device ≡ true
    above place size is page =
        let low = leb-true 2147483648 (place / 4096 * 4096) (and_parts (nat_le 2147483648 (place / 4096 * 4096)) (nat_le (place / 4096 * 4096 + 4096) (2147483648 + size)) is).0 in
        absurd (omega (arith, low, page))

    placed_by : (leaf : LeafPte) (inside on : Bool) → has_frame_of (ram_memory ram) (leaf_address leaf address) ≡ inside → (inside || (device && on)) ≡ true
        → IsOfDevice device csrs.hgatp (entry_under leaf address)
    placed_by leaf true on in_ram is page = above (leaf_address leaf address) (length ram) in_ram page
    placed_by leaf false on in_ram is page = (and_parts device on is).0

    by : (hgatp : GuestRoot) → entry_by_table device csrs.hs.status.mxr ram address kind hgatp ≡ Some e → IsOfDevice device csrs.hgatp e
    by Bare is = absurd cc
    by (Table mode vmid ppn) is = let g = given device csrs.hs.status.mxr ram (guest_shape mode) ppn address kind e is in
        rw g.1.is (placed_by g.0 (has_frame_of (ram_memory ram) (leaf_address g.0 address)) (is_on_device (leaf_address g.0 address)) refl g.1.inside)

filled_of_device : (m : Machine) (e : Entry) → missing_entry m ≡ Some e → IsOfDevice m.device m.platform.virt.csrs.hgatp e
filled_of_device m e is = let at = (lacked m e is).1 in walked_of_device m.device m.platform.virt.csrs m.ram at.0.address at.0.kind e at.1

-- so it stays after a fill
pub fill_keeps_device : (m : Machine) (e : Entry) → CachesOwnDevice m → missing_entry m ≡ Some e → CachesOwnDevice (fill m e)
fill_keeps_device m e all lacks = front_each (IsOfDevice m.device) m.entry_room m.spaces e all (by m.spaces)
  where
    by : (spaces : List Space) → FrontHas (λ key. IsOfDevice m.device key e) spaces
    by [] = tt
    by (s ∷ ss) = filled_of_device m e lacks

-- and after a try, which leaves whether there is the page
device_left : (m : Machine) {t : Tried} {fence : Option Fence} → RootEnd m t fence → (left_by m t).device ≡ m.device
device_left m (Takes first trap) = refl
device_left m (Makes first completion event keeps) = refl
device_left m (Serves first rd value console leaves) = refl
device_left m (Calls first) = refl
device_left m (Passes first virt moment keeps) = refl
device_left m Halts = refl
device_left m (Fences first virt fence keeps) = refl

pub try_keeps_device : (m : Machine) → CachesOwnDevice m → CachesOwnDevice (left_after m)
try_keeps_device m all =
    subst (λ (device : Bool). EachEntry (IsOfDevice device) (left_after m).spaces) (sym (device_left m (root_end m (stages_of m))))
    (tried_each (IsOfDevice m.device) m (stages_of m) all)

-- and so after each run
device_kept : IsKept CachesOwnDevice
device_kept = record { filled = fill_keeps_device; tried = try_keeps_device }

pub run_keeps_device : RunKeepsDevice
run_keeps_device m n all = kept_by_runs CachesOwnDevice device_kept m n all
