-- One step of the hart that stands for a guest is a try of the guest's lone machine.
use Rattle.std.specs.Prelude.{◌&&◌, ◌^◌, nat_lt, not, unwrap_or, ◌%◌, [], ◌∷◌, ◌*◌, ◌/◌, ◌-◌}
use Rattle.std.proofs.Common.{cond, ◌≡◌, ℕ, ◌∙◌, Bool, List, Option, Some, None, true, false, refl, ap, sym, subst, length, arith, ◌+◌, ◌<◌}
use Rattle.arch_defs.specs.declared.second_walks.SecondWalkEnd.TheVariants.{GuestPageFault}
use Rattle.arch_defs.specs.declared.modes.Access.{Access}
use Rattle.arch_defs.specs.declared.modes.Access.TheVariants.{Fetch, Load, Store, ExecLoad, Implicit}
use Rattle.arch_defs.specs.declared.modes.Mode.{Mode}
use Rattle.arch_defs.specs.declared.modes.Trap.{Trap}
use Rattle.arch_defs.specs.declared.registers.Csrs.{Csrs}
use Rattle.arch_defs.specs.declared.roots.GuestRoot.{GuestRoot}
use Rattle.arch_defs.specs.declared.roots.GuestRoot.TheVariants as root
use Rattle.arch_defs.specs.declared.registers.Virtual.{Virtual}
use Rattle.arch_defs.specs.declared.walks.MissingPlace.{MissingPlace}
use Rattle.arch_defs.specs.Frames.{in_blocks, LieIn}
use Rattle.arch_defs.specs.Layouts.{Layout, in_tables}
use Rattle.arch_defs.specs.Memory.{block_size, machine_memory, mmu, ram_base, ram_memory, reading_of, with_stored, bare, Reading, SecondStage, Stored}
use Rattle.arch_defs.specs.Ram.{SlicesLieIn, host_answer, host_place, ram_of}
use Rattle.arch_defs.specs.Roots.{guest_shape, is_table, folded_mode}
use Rattle.arch_defs.specs.SecondStage.{guest_page_trap, missing_place_by, missing_place_under, second_by_walk, second_walk, missing_place_trap, second_under}
use Rattle.arch_defs.specs.Traps.{exception, is_delegated, is_virtual, faults_of}
use Rattle.arch_defs.proofs.RamBlocks.{blocks_lie_in, ram_length}
use Rattle.arch_defs.proofs.Rooms.{first_lies}
use Rattle.instruction_laws.specs.HostPlaces.{in_ram, memory_place, ram_size}
use Rattle.machine_defs.specs.Machine.{Machine, Tried, stepped_to, trapped, with_registers}
use Rattle.machine_defs.specs.FirstLeaves.{leaves_found, tag_of}
use Rattle.machine_defs.specs.Tries.{apply_outcome, committed, device_of, enters, found_by_outcome, found_by_try, found_with_code, mmu_of, second_of, stages_of, tried_with, try_under, unplaced}
use Rattle.machine_defs.specs.Outcomes.{Outcome, Done, Trapped, Missed, Called, Waits, Fenced, FirstFenced, Accesses}
use Rattle.arch_defs.specs.declared.first.FirstEntry.{FirstEntry}
use Rattle.arch_defs.specs.FirstEntries.{all_filled, names_first, unnamed_first}
use Rattle.arch_defs.proofs.FrameSets.{only_none}
use Rattle.instruction_laws.specs.Renaming.{IsRenamed, KeepsPage, LeavesWithin, Places, outcome_renamed, renamed, GivesWithin}
use Rattle.instruction_laws.proofs.HostPlaces.{only_ram_changes, ram_is_renamed, ram_is_stored, places_are_renamed}
use Rattle.instruction_laws.proofs.RenamedLeaves.{renamed_leaves}
use Rattle.instruction_laws.proofs.Renaming.{renamed_core, stays_held}
use Rattle.world_switch.proofs.FirstStage.{finds_alike, knows_alike}
use Rattle.host_tables.specs.Walks.{IsHeld}
use Rattle.host_tables.proofs.Held.{gives_ram, host_misses}
use Rattle.world_switch.specs.Hosting.{after_hs_trap, guest_state_after, guest_state_of, hart_state_in, hart_state_of, host_root, hosted_csrs, hosted_mode, is_space_root, loaded_in, space_root}
use Rattle.world_switch.proofs.Undone.{saved_v, virtual_mode}
use Rattle.hosted_steps.specs.ExitCases as case
use Rattle.hosted_steps.specs.ExitCases.{Exit, access_fault_for, data_wanted, entry_for_exit, found_next, having_found, is_guest_page_code, missing_place_exit, try_at}
use Rattle.hosted_steps.proofs.ExitCases.{and_false, left_as, page_exit_is}
use Rattle.hosted_steps.proofs.FarPlaces.{far_is}
use Rattle.hosted_steps.specs.HartSteps.{Follows, FollowsTry, IsAt, event_for, host_takes, root_for, KeepsHart}
use Rattle.rv64_hart.specs.MachineMemory.{found_on, mmu_on, reading_of_memory, second_of_memory, wanted_next}
use Rattle.rv64_hart.specs.Steps.{attempt_of, end_by, enters_vs, found_at_exit, found_by_attempt as hart_finds, hart_step, next_attempt, caching_found}
use Rattle.hosted_steps.proofs.Agreement.{core_stands, wanted_alike}
use Rattle.hosted_steps.proofs.Interrupts.{IsDue, due_alike}
use Rattle.hosted_steps.proofs.Delegation.{never_20, never_21, never_23}
use Rattle.hosted_steps.proofs.Stands.{Own, Call, Nested, Left, Stands, Traps, IsTold}
use Rattle.arch_defs.specs.declared.cached.Entry.{Entry}
use Rattle.shadow_pool.specs.Slots.{Pooled, AreSlots, front_root, spaces_of}
use Rattle.arch_defs.specs.CachedEntries.{device_by_entries, second_by}
use Rattle.arch_defs.specs.Devices.{is_on_device}
use Rattle.arch_defs.specs.Spaces.{Space, entered, front}
use Rattle.instruction_laws.specs.FrontSpaces.{FrontIs}
use Rattle.std.specs.Option.{option_map}
use Rattle.std.proofs.lemmas.Bool.{and_parts, le-ltb, lt-ltb, eq-eqb}
use Rattle.machine_defs.specs.declared.events.Event.{Event}
use Rattle.arch_defs.specs.WalkedEntries.{folds}
use Rattle.arch_defs.specs.Interrupts.{due}
use Rattle.arch_defs.specs.Walk.{guest_bits}
use Rattle.arch_defs.specs.declared.widths.Width.TheVariants.{Word}
use Rattle.op_defs.specs.declared.ops.DataAccess.{DataAccess}
use Rattle.machine_defs.specs.Core.{At, Fails, Located, core, fetch_place}
use Rattle.machine_defs.specs.Fills.{missing_entry, missing_entry_at}
use Rattle.run_laws.specs.Reservations.{places_from}
use Rattle.instruction_laws.specs.MissedPlaces.{told_place, wanted_at}
use Rattle.instruction_laws.proofs.MissedPlaces.{missed_is_told, missed_is_wanted}
use Rattle.instruction_laws.proofs.Placed.{LocatedAlike, accessed_alike, cached_keeps_page}
use Rattle.run_laws.proofs.InRam.{gives_ram as gives_own_ram}
use Rattle.fill_laws.proofs.Filling.{flat_misses_nothing, interrupted_misses_nothing}
use Rattle.fill_laws.specs.Keeping.{IsOrderly}
use Rattle.instruction_laws.proofs.Asking.{IsDecided, privileged_decided, stops}
use Rattle.fill_laws.proofs.Ruling.{flat_is_ram, folds_by_front, missing_entries_are_read}
use Rattle.shadow_pool.proofs.Front.{front_far, front_gives, front_misses}
use Rattle.hosted_steps.proofs.Taken.{hosted_here, interrupt_follows, taken, to_host, trap_follows}
use Rattle.shadow_pool.specs.declared.slots.Slot.{Slot}
use Rattle.shadow_space.specs.Shadows.{root_of}

-- what a machine lacks by how its instruction ends under its own second stage
abbrev missing_entry_by : Machine → Outcome → Option Entry
missing_entry_by m o = cond (folds m.platform.virt) (missing_entry_at m.device m.platform.virt.csrs m.ram (front m.spaces) o) None

none_of : (b : Bool) → ◌≡◌ {A = Option Entry} (cond b None None) None
none_of true = refl
none_of false = refl

virtual_of : (v : Virtual) → folds v ≡ true → is_virtual v.mode ≡ true
virtual_of v folding = (and_parts (is_virtual v.mode) (is_table v.csrs.hgatp) folding).0

-- where it does not stop at an access, nothing
decided_ready : (m : Machine) (o : Outcome) → IsDecided o → missing_entry_by m o ≡ None
decided_ready m (Missed missing wanted) is = absurd is
decided_ready m (Done state stored event) is = none_of (folds m.platform.virt)
decided_ready m (Trapped trap) is = none_of (folds m.platform.virt)
decided_ready m Called is = none_of (folds m.platform.virt)
decided_ready m (Waits state) is = none_of (folds m.platform.virt)
decided_ready m (Fenced state fence) is = none_of (folds m.platform.virt)
decided_ready m (FirstFenced state named fence) is = none_of (folds m.platform.virt)
decided_ready m (Accesses access) is = none_of (folds m.platform.virt)

traps_decided : (s : Virtual) (lone : Outcome) (trap : Trap) → Traps s lone trap → IsDecided lone
traps_decided s lone trap (Own cause tval is e good) = rw e tt
traps_decided s lone trap (Call own is e) = rw e tt
traps_decided s lone trap (Nested on is e) = rw e tt
traps_decided s lone trap (Left tval is small p e f) = rw f (privileged_decided s tval p)

-- so an orderly machine lacks it
lacks_by : (m : Machine) → IsOrderly m → due m.platform.virt.csrs m.platform.virt.mode ≡ None
    → missing_entry m ≡ missing_entry_by m (core (mmu_of m) m.platform.virt)
lacks_by m is none = by (folds m.platform.virt) refl
  where
    by : (b : Bool) → folds m.platform.virt ≡ b → missing_entry m ≡ missing_entry_by m (core (mmu_of m) m.platform.virt)
    by true folding = missing_entries_are_read m is folding none ∙ sym (ap (λ b. cond b (missing_entry_at m.device m.platform.virt.csrs m.ram (front m.spaces) (core (mmu_of m) m.platform.virt)) None) folding)
    by false flat = flat_misses_nothing m flat ∙ sym (ap (λ b. cond b (missing_entry_at m.device m.platform.virt.csrs m.ram (front m.spaces) (core (mmu_of m) m.platform.virt)) None) flat)

-- a guest-page fault is the host's
record IsHosts (access : Access) : Type 0 where
  kept : (root : GuestRoot) (virtual : Bool) (csrs : Csrs) → is_delegated (hosted_csrs root virtual csrs) false (faults_of access).guest_page ≡ false
  fault : is_guest_page_code (faults_of access).guest_page ≡ true
  own : access_fault_for (faults_of access).guest_page ≡ (faults_of access).access

kept_20 : (root : GuestRoot) (virtual : Bool) (csrs : Csrs) → is_delegated (hosted_csrs root virtual csrs) false (faults_of Fetch).guest_page ≡ false
kept_20 root false csrs = refl
kept_20 root true csrs = never_20 csrs.hedeleg

kept_21 : (root : GuestRoot) (virtual : Bool) (csrs : Csrs) → is_delegated (hosted_csrs root virtual csrs) false (faults_of Load).guest_page ≡ false
kept_21 root false csrs = refl
kept_21 root true csrs = never_21 csrs.hedeleg

kept_23 : (root : GuestRoot) (virtual : Bool) (csrs : Csrs) → is_delegated (hosted_csrs root virtual csrs) false (faults_of Store).guest_page ≡ false
kept_23 root false csrs = refl
kept_23 root true csrs = never_23 csrs.hedeleg

hosts : (access : Access) → IsHosts access
hosts Fetch = record { kept = kept_20; fault = refl; own = refl }
hosts Load = record { kept = kept_21; fault = refl; own = refl }
hosts Store = record { kept = kept_23; fault = refl; own = refl }
hosts ExecLoad = record { kept = kept_21; fault = refl; own = refl }
hosts Implicit = record { kept = kept_21; fault = refl; own = refl }

guest_page_left : (part : Layout) (root : GuestRoot) (m : Machine) (memory : List ℕ) (found : List FirstEntry) (missing : MissingPlace) (tried : Tried) (lacks : Option Entry) (left : Exit)
    → missing_place_exit m.platform.virt (guest_page_trap missing) (folds m.platform.virt) ≡ left → tried ≡ try_at found m left → lacks ≡ entry_for_exit m left
    → FollowsTry part root m found tried lacks memory (taken part root m (all_filled m.platform.virt.first found) memory (guest_page_trap missing))
guest_page_left part root m memory found missing tried lacks left is step missing_entry =
    let v = m.platform.virt in
    let trap = guest_page_trap missing in
    let h = hosts missing.access in
    rw (to_host (hosted_csrs root (is_virtual v.mode) v.csrs) (hosted_mode v.mode) trap (virtual_mode v.mode) (h.kept root (is_virtual v.mode) v.csrs))
    (left_as m found tried lacks trap left (page_exit_is v trap h.fault ∙ is) step missing_entry)

-- where the machine does not fold, an access without a place is an access fault
flat_fault : (v : Virtual) (ram : List ℕ) (missing : MissingPlace) → folds v ≡ false → missing.mode ≡ v.mode
    → missing_place_trap v.csrs (ram_memory ram) missing ≡ exception v.mode (faults_of missing.access).access missing.va
flat_fault v ram missing flat mode =
    ap (λ mode. missing_place_under (ram_memory ram) v.csrs.hs.status.mxr missing (cond (is_virtual mode) v.csrs.hgatp root.Bare)) mode ∙ by v.csrs.hgatp (is_virtual v.mode) flat
  where
    by : (hgatp : GuestRoot) (virtual : Bool) → (virtual && is_table hgatp) ≡ false
        → missing_place_under (ram_memory ram) v.csrs.hs.status.mxr missing (cond virtual hgatp root.Bare) ≡ exception v.mode (faults_of missing.access).access missing.va
    by (root.Table table vmid ppn) true is = absurd cc
    by (root.Table table vmid ppn) false is = ap (λ mode. exception mode (faults_of missing.access).access missing.va) mode
    by root.Bare true is = ap (λ mode. exception mode (faults_of missing.access).access missing.va) mode
    by root.Bare false is = ap (λ mode. exception mode (faults_of missing.access).access missing.va) mode

-- at an address of more bits than any table translates it is not one to the device page, and nothing is filled
far_told : (address : ℕ) → nat_lt (address / 4) (2 ^ (guest_bits - 2)) ≡ false → nat_lt address (2 ^ guest_bits) ≡ false
far_told address far = grind (arith, far)

far_step : (m : Machine) (found : List FirstEntry) (own : MissingPlace) (wanted : Option DataAccess) (trap : Trap) → device_of m own.address own.kind ≡ false
    → missing_place_trap m.platform.virt.csrs (ram_memory m.ram) own ≡ trap
    → apply_outcome (device_of m) (having_found found m) (Missed own wanted) ≡ trapped (having_found found m) trap
far_step m found own wanted trap off is = ap (unplaced (having_found found m) own wanted) off ∙ ap (trapped (having_found found m)) is

far_off : (address : ℕ) → nat_lt address (2 ^ guest_bits) ≡ false → is_on_device address ≡ false
far_off address far = grind (arith, far)

far_lacks : (part : Layout) (pool : Pooled) (m : Machine) (memory : List ℕ) → IsAt part pool m memory → (address : ℕ) (kind : Access) → nat_lt address (2 ^ guest_bits) ≡ false
    → device_by_entries (front m.spaces) m.platform.virt.csrs.hs.status.mxr address kind ≡ false
far_lacks part pool m memory at address kind far =
    ap (λ spaces. device_by_entries (front spaces) m.platform.virt.csrs.hs.status.mxr address kind) at.spaces
    ∙ front_far pool memory m.platform.virt.csrs.hs.status.mxr address kind at.tidy far

-- the access of a stop of the hart is that of the machine's, in the guest's own mode
abbrev own_of : Machine → MissingPlace → MissingPlace
own_of m missing = record missing { mode = m.platform.virt.mode }

-- a machine's stop, as the hart tells it
pub record StopsThere (m : Machine) (missing : MissingPlace) (wanted : Option DataAccess) : Type 0 where
  pub mode : missing.mode ≡ hosted_mode m.platform.virt.mode
  pub told : told_place m.platform.virt.mode (guest_page_trap missing) ≡ own_of m missing
  pub wants : wanted ≡ data_wanted m
  pub absent : second_of m missing.address missing.kind ≡ None

small_follows : (part : Layout) (root : GuestRoot) (m : Machine) (memory : List ℕ) (found : List FirstEntry) (missing : MissingPlace) (wanted : Option DataAccess) → StopsThere m missing wanted
    → nat_lt (missing.address / 4) (2 ^ (guest_bits - 2)) ≡ true
    → FollowsTry part root m found (apply_outcome (device_of m) (having_found found m) (Missed (own_of m missing) wanted)) (missing_entry_by m (Missed (own_of m missing) wanted)) memory
    (taken part root m (all_filled m.platform.virt.first found) memory (guest_page_trap missing))
small_follows part root m memory found missing wanted stop small =
    guest_page_left part root m memory found missing _ _ (case.Missing (own_of m missing)) (rw small (ap case.Missing stop.told))
    (ap (λ wanted. unplaced (having_found found m) (own_of m missing) wanted (device_of m missing.address missing.kind)) stop.wants) refl

far_folding : (part : Layout) (pool : Pooled) (root : GuestRoot) (m : Machine) (memory : List ℕ) (found : List FirstEntry) (missing : MissingPlace) (wanted : Option DataAccess) → IsAt part pool m memory
    → StopsThere m missing wanted → folds m.platform.virt ≡ true → nat_lt (missing.address / 4) (2 ^ (guest_bits - 2)) ≡ false
    → FollowsTry part root m found (apply_outcome (device_of m) (having_found found m) (Missed (own_of m missing) wanted)) (missing_entry_by m (Missed (own_of m missing) wanted)) memory
    (taken part root m (all_filled m.platform.virt.first found) memory (guest_page_trap missing))
far_folding part pool root m memory found missing wanted at stop folding far =
    let v = m.platform.virt in
    let own = own_of m missing in
    let mode : missing.mode ≡ v.mode = stop.mode ∙ hosted_here v.mode (virtual_of v folding) in
    let is = far_is m.device v m.ram own folding refl (far_told missing.address far) in
    let off : device_by_entries (front m.spaces) v.csrs.hs.status.mxr missing.address missing.kind ≡ false =
    far_lacks part pool m memory at missing.address missing.kind (far_told missing.address far) in
    guest_page_left part root m memory found missing _ _ (case.Own (guest_page_trap missing)) (rw (far, folding) refl)
    (far_step m found own wanted (guest_page_trap missing) (rw (folding, off) (and_false m.device)) (is.faults ∙ ap (λ mode. guest_page_trap (record missing { mode = mode })) (sym mode)))
    (rw (folding, off, is.none) refl)

far_flat : (part : Layout) (root : GuestRoot) (m : Machine) (memory : List ℕ) (found : List FirstEntry) (missing : MissingPlace) (wanted : Option DataAccess)
    → folds m.platform.virt ≡ false → nat_lt (missing.address / 4) (2 ^ (guest_bits - 2)) ≡ false
    → FollowsTry part root m found (apply_outcome (device_of m) (having_found found m) (Missed (own_of m missing) wanted)) (missing_entry_by m (Missed (own_of m missing) wanted)) memory
    (taken part root m (all_filled m.platform.virt.first found) memory (guest_page_trap missing))
far_flat part root m memory found missing wanted flat far =
    let v = m.platform.virt in
    let own = own_of m missing in
    let h = hosts missing.access in
    let fault = exception v.mode (access_fault_for (faults_of missing.access).guest_page) missing.va in
    guest_page_left part root m memory found missing _ _ (case.Own fault) (rw (far, flat) refl)
    (far_step m found own wanted fault (rw (flat, far_off missing.address (far_told missing.address far)) (and_false m.device))
    (flat_fault v m.ram own flat refl ∙ ap (λ cause. exception v.mode cause missing.va) (sym h.own)))
    (rw flat refl)

-- so a guest-page fault of the hart is the machine's stop
stop_follows : (part : Layout) (pool : Pooled) (root : GuestRoot) (m : Machine) (memory : List ℕ) (found : List FirstEntry) (missing : MissingPlace) (wanted : Option DataAccess) → IsAt part pool m memory
    → StopsThere m missing wanted
    → FollowsTry part root m found (apply_outcome (device_of m) (having_found found m) (Missed (own_of m missing) wanted)) (missing_entry_by m (Missed (own_of m missing) wanted)) memory
    (taken part root m (all_filled m.platform.virt.first found) memory (guest_page_trap missing))
stop_follows part pool root m memory found missing wanted at stop = by (nat_lt (missing.address / 4) (2 ^ (guest_bits - 2))) refl (folds m.platform.virt) refl
  where
    by : (small : Bool) → nat_lt (missing.address / 4) (2 ^ (guest_bits - 2)) ≡ small → (folding : Bool) → folds m.platform.virt ≡ folding
        → FollowsTry part root m found (apply_outcome (device_of m) (having_found found m) (Missed (own_of m missing) wanted)) (missing_entry_by m (Missed (own_of m missing) wanted)) memory
        (taken part root m (all_filled m.platform.virt.first found) memory (guest_page_trap missing))
    by true small folding folds_is = small_follows part root m memory found missing wanted stop small
    by false far true folding = far_folding part pool root m memory found missing wanted at stop folding far
    by false far false flat = far_flat part root m memory found missing wanted flat far

-- the table under which the hart runs
root_flat : (part : Layout) (pool : Pooled) (v : Virtual) → folds v ≡ false → root_for part pool v ≡ host_root part
unfolding root_for
root_flat part pool v flat = rw (flat, le-ltb part.first_root part.first_root (omega arith)) refl

-- the front root is a space's
space_is_root : (part : Layout) (frame index : ℕ) → frame ≡ part.first_root + 4 * (1 + index) → index < part.spaces → part.first_root % 4 ≡ 0 → is_space_root part frame ≡ true
space_is_root part frame index is below aligned =
    rw (
      lt-ltb part.first_root frame (omega (arith, is)),
      lt-ltb frame (part.first_root + 4 * (1 + part.spaces)) (omega (arith, is, below)),
      eq-eqb (frame % 4) 0 (omega (arith, is, aligned)),
    ) refl

front_is_root : (part : Layout) (most : ℕ) (slots : List Slot) → AreSlots part most slots → is_space_root part (front_root slots) ≡ true
front_is_root part most [] are = let some = are.some in absurd (omega (arith, some))
front_is_root part most (slot ∷ slots) are =
    let first = are.each 0 slot (omega arith) in
    space_is_root part (root_of slot.space) slot.space.index (ap (λ p. p.first_root + 4 * (1 + slot.space.index)) first.part)
    (omega (arith, first.index, are.own)) are.once.aligned

root_folding : (part : Layout) (pool : Pooled) (m : Machine) (memory : List ℕ) → IsAt part pool m memory → folds m.platform.virt ≡ true
    → root_for part pool m.platform.virt ≡ space_root (front_root pool.slots)
unfolding root_for
root_folding part pool m memory at folding =
    rw (folding, ap (λ p. is_space_root p (front_root pool.slots)) (sym at.own) ∙ front_is_root pool.part pool.most pool.slots at.tidy.slots) refl

host_root_of : (root : GuestRoot) (virtual : Bool) (csrs : Csrs) → (hosted_csrs root virtual csrs).hgatp ≡ root
host_root_of root false csrs = refl
host_root_of root true csrs = refl

own_mxr_of : (root : GuestRoot) (virtual : Bool) (csrs : Csrs) → virtual ≡ true → (hosted_csrs root virtual csrs).hs.status.mxr ≡ csrs.hs.status.mxr
own_mxr_of root virtual csrs on = rw on refl

-- a space in front
fronted : (key : GuestRoot) (spaces : List Space) → FrontIs key spaces → (s : Space) × (others : List Space) × (spaces ≡ s ∷ others)
fronted key [] is = absurd is
fronted key (s ∷ others) is = (s, others, refl)

-- while the machine folds, its second stage is by the entries of the pool's front space
record IsFronted (pool : Pooled) (m : Machine) : Type 0 where
  space : Space
  others : List Space
  are : spaces_of pool ≡ space ∷ others
  second : second_of m ≡ second_by space.entries m.platform.virt.csrs.hs.status.mxr

is_fronted : (part : Layout) (pool : Pooled) (m : Machine) (memory : List ℕ) → IsAt part pool m memory → folds m.platform.virt ≡ true → IsFronted pool m
is_fronted part pool m memory at folding =
    let f = fronted m.platform.virt.csrs.hgatp m.spaces (at.orderly.front folding) in
    record {
      space = f.0;
      others = f.1;
      are = sym at.spaces ∙ f.2;
      second = folds_by_front m folding ∙ ap (λ spaces. second_by (front spaces) m.platform.virt.csrs.hs.status.mxr) f.2;
    }

-- the part's blocks lie in memory
blocks_lie_at : (part : Layout) (memory : List ℕ) → IsHeld part memory → LieIn (in_blocks part.blocks) (length memory)
blocks_lie_at part memory held = first_lies (in_blocks part.blocks) (in_tables part) (length memory) held.lies

pub blocks_held : (part : Layout) (memory : List ℕ) → IsHeld part memory → SlicesLieIn block_size part.blocks (length memory)
blocks_held part memory held = blocks_lie_in part.blocks (length memory) (blocks_lie_at part memory held)

-- what the hart has not cached either is a guest-page fault
trap_under : (csrs : Csrs) (memory : List ℕ) (missing : MissingPlace) (root : GuestRoot) → is_virtual missing.mode ≡ true → csrs.hgatp ≡ root
    → missing_place_trap csrs (machine_memory memory) missing ≡ missing_place_under (machine_memory memory) csrs.hs.status.mxr missing root
trap_under csrs memory missing root on is = rw (on, is) refl

trap_by : (memory : List ℕ) (mxr : Bool) (missing : MissingPlace) (frame : ℕ) → second_walk (machine_memory memory) mxr (guest_shape folded_mode) frame missing.address missing.kind ≡ GuestPageFault
    → missing_place_under (machine_memory memory) mxr missing (space_root frame) ≡ guest_page_trap missing
trap_by memory mxr missing frame is = ap (missing_place_by missing) is

miss_traps : (part : Layout) (pool : Pooled) (m : Machine) (memory : List ℕ) (missing : MissingPlace) → IsAt part pool m memory → folds m.platform.virt ≡ true
    → missing.mode ≡ hosted_mode m.platform.virt.mode → second_of m missing.address missing.kind ≡ None
    → missing_place_trap (hosted_csrs (root_for part pool m.platform.virt) (is_virtual m.platform.virt.mode) m.platform.virt.csrs) (machine_memory memory) missing ≡ guest_page_trap missing
miss_traps part pool m memory missing at folding mode absent =
    let v = m.platform.virt in
    let root = root_for part pool v in
    let csrs = hosted_csrs root (is_virtual v.mode) v.csrs in
    let on : is_virtual missing.mode ≡ true = rw mode (virtual_mode v.mode) in
    let f = is_fronted part pool m memory at folding in
    let none : second_by f.space.entries v.csrs.hs.status.mxr missing.address missing.kind ≡ None =
    sym (ap (λ (second : SecondStage). second missing.address missing.kind) f.second) ∙ absent in
    let lies : LieIn (in_blocks pool.part.blocks) (length memory) = rw at.own (blocks_lie_at part memory at.held) in
    trap_under csrs memory missing root on (host_root_of root (is_virtual v.mode) v.csrs)
    ∙ ap (λ mxr. missing_place_under (machine_memory memory) mxr missing root) (own_mxr_of root (is_virtual v.mode) v.csrs (virtual_of v folding))
    ∙ ap (λ table. missing_place_under (machine_memory memory) v.csrs.hs.status.mxr missing table) (root_folding part pool m memory at folding)
    ∙ trap_by memory v.csrs.hs.status.mxr missing (front_root pool.slots)
    (front_misses pool memory f.space f.others v.csrs.hs.status.mxr missing.address missing.kind at.tidy lies f.are none)

-- nor is there an access fault of the host table
flat_traps : (part : Layout) (pool : Pooled) (m : Machine) (memory : List ℕ) (missing : MissingPlace) → IsAt part pool m memory → folds m.platform.virt ≡ false
    → missing.mode ≡ hosted_mode m.platform.virt.mode → second_of m missing.address missing.kind ≡ None
    → missing_place_trap (hosted_csrs (root_for part pool m.platform.virt) (is_virtual m.platform.virt.mode) m.platform.virt.csrs) (machine_memory memory) missing
    ≡ guest_page_trap missing
flat_traps part pool m memory missing at flat mode absent =
    let v = m.platform.virt in
    let root = root_for part pool v in
    let csrs = hosted_csrs root (is_virtual v.mode) v.csrs in
    let on : is_virtual missing.mode ≡ true = rw mode (virtual_mode v.mode) in
    let is = ram_is_renamed part.blocks memory (blocks_held part memory at.held) at.once.distinct in
    let none : host_answer part.blocks missing.address ≡ None =
    is.places missing.address missing.kind
    ∙ ap (λ ram. option_map (memory_place part.blocks) (bare (ram_memory ram) missing.address missing.kind)) (sym at.ram)
    ∙ ap (λ (second : SecondStage). option_map (memory_place part.blocks) (second missing.address missing.kind)) (sym (flat_is_ram m flat))
    ∙ ap (option_map (memory_place part.blocks)) absent in
    trap_under csrs memory missing root on (host_root_of root (is_virtual v.mode) v.csrs)
    ∙ ap (λ table. missing_place_under (machine_memory memory) csrs.hs.status.mxr missing table) (root_flat part pool v flat)
    ∙ ap (missing_place_by missing) (host_misses part at.once memory csrs.hs.status.mxr missing.address missing.kind at.held none)

-- an access that has no place on the hart either is a guest-page fault there
stuck_traps : (part : Layout) (pool : Pooled) (m : Machine) (memory : List ℕ) (missing : MissingPlace) (wanted : Option DataAccess) → IsAt part pool m memory
    → StopsThere m missing wanted
    → missing_place_trap (hosted_csrs (root_for part pool m.platform.virt) (is_virtual m.platform.virt.mode) m.platform.virt.csrs) (machine_memory memory) missing
    ≡ guest_page_trap missing
stuck_traps part pool m memory missing wanted at stop = by (folds m.platform.virt) refl
  where
    by : (b : Bool) → folds m.platform.virt ≡ b
        → missing_place_trap (hosted_csrs (root_for part pool m.platform.virt) (is_virtual m.platform.virt.mode) m.platform.virt.csrs) (machine_memory memory) missing
        ≡ guest_page_trap missing
    by true folding = miss_traps part pool m memory missing at folding stop.mode stop.absent
    by false flat = flat_traps part pool m memory missing at flat stop.mode stop.absent

-- what the hart gives back has the guest's V, so the instruction has not set V
back_v : (trapped : Bool) (hart before : Virtual) → is_virtual (guest_state_after trapped hart before).mode ≡ is_virtual before.mode
back_v trapped hart before =
    elim (trapped && not (is_virtual before.mode)) as (λ b. is_virtual (cond b (after_hs_trap (guest_state_of hart before)) (guest_state_of hart before)).mode ≡ is_virtual before.mode)
    [ true ↦ saved_v (is_virtual before.mode) hart.mode | false ↦ saved_v (is_virtual before.mode) hart.mode ]

never_set : (before after table : Bool) → after ≡ before → (not before && (after && table)) ≡ false
never_set true after table e = refl
never_set false after table e = rw e refl

-- so it enters no space
made_same : (m : Machine) (virt : Virtual) (stored : Option Stored) (event : Event) → enters m.platform.virt virt ≡ false
    → committed m virt stored event ≡ stepped_to (record m { ram = with_stored ram_base stored m.ram }) (with_registers m.platform virt) event
made_same m virt stored event e =
    ap (λ b. stepped_to (record m { ram = with_stored ram_base stored m.ram; spaces = cond b (entered m.space_room virt.csrs.hgatp m.spaces) m.spaces })
    (with_registers m.platform virt) event) e

-- what is taken back has the hart's first-stage translations
back_first : (trapped : Bool) (hart before : Virtual) (first : List FirstEntry)
    → record (guest_state_after trapped hart before) { first = first } ≡ guest_state_after trapped (record hart { first = first }) before
back_first trapped hart before first =
    elim (trapped && not (is_virtual before.mode))
    as (λ b. record (cond b (after_hs_trap (guest_state_of hart before)) (guest_state_of hart before)) { first = first }
    ≡ cond b (after_hs_trap (guest_state_of (record hart { first = first }) before)) (guest_state_of (record hart { first = first }) before))
    [ true ↦ refl | false ↦ refl ]

keeps_also : (root : GuestRoot) (v hart : Virtual) (first : List FirstEntry) → KeepsHart root v hart → KeepsHart root v (record hart { first = first })
keeps_also root v hart first keeps = record { csrs = keeps.csrs; mode = keeps.mode }

-- where an instruction stops at an access, the second stage has no place for it
absent_at : (m : Machine) (missing : MissingPlace) (wanted : Option DataAccess) → core (mmu_of m) m.platform.virt ≡ Missed missing wanted
    → second_of m missing.address missing.kind ≡ None
absent_at m missing wanted is =
    (stops (second_of m) (second_of m) (record { gives = λ address place kind e. e }) (stages_of m).known (reading_of (ram_memory m.ram)) m.platform.virt missing wanted is).none

-- what its first-stage translations say keeps the offset in a page
pub keeps_page : (m : Machine) → KeepsPage (stages_of m).known
keeps_page m = cached_keeps_page m.platform.virt.first (tag_of m.platform.virt) m.platform.virt

-- the hart's stop is the machine's
stops_there : (m : Machine) (root : GuestRoot) (missing : MissingPlace) (wanted : Option DataAccess) → core (mmu_of m) (hart_state_of root m.platform.virt) ≡ Missed missing wanted
    → core (mmu_of m) m.platform.virt ≡ Missed (own_of m missing) wanted → missing.mode ≡ hosted_mode m.platform.virt.mode → IsTold missing → StopsThere m missing wanted
stops_there m root missing wanted hart lone mode told = record {
  mode = mode;
  told = ap (λ place. own_of m place) (missed_is_told (mmu_of m) (hart_state_of root m.platform.virt) missing wanted (keeps_page m) hart told);
  wants = missed_is_wanted (mmu_of m) m.platform.virt (own_of m missing) wanted lone;
  absent = absent_at m (own_of m missing) wanted lone;
}

-- an instruction's end on the hart
outcome_follows : (part : Layout) (pool : Pooled) (m : Machine) (memory : List ℕ) (found : List FirstEntry) (lone hart : Outcome) → IsAt part pool m memory
    → lone ≡ core (mmu_of m) m.platform.virt → hart ≡ core (mmu_of m) (hart_state_of (root_for part pool m.platform.virt) m.platform.virt)
    → Stands (root_for part pool m.platform.virt) m.platform.virt lone hart → LeavesWithin (in_ram part.blocks) hart
    → FollowsTry part (root_for part pool m.platform.virt) m found (apply_outcome (device_of m) (having_found found m) lone) (missing_entry_by m lone) memory
    (end_by (caching_found (loaded_in part (root_for part pool m.platform.virt) m.platform.virt) found) memory
    (attempt_of (caching_found (loaded_in part (root_for part pool m.platform.virt) m.platform.virt) found) memory (outcome_renamed (memory_place part.blocks) hart)))
outcome_follows part pool m memory found lone (Done hart stored event) at lone_is hart_is (e, keeps) (stores, reserves) =
    let v = m.platform.virt in
    let lie = blocks_held part memory at.held in
    let cached = all_filled v.first found in
    record {
      own = record hart { first = cached };
      stands = record { state = refl; tag = refl };
      step = rw (e, ram_is_stored part.blocks memory stored lie at.once.distinct stores, ← at.ram)
          (made_same (having_found found m) (guest_state_after (enters_vs event) hart v) stored (event_for (is_virtual v.mode) event) (never_set (is_virtual v.mode) _ _ (back_v (enters_vs event) hart v))
          ∙ ap (λ virt. stepped_to (record m { ram = with_stored ram_base stored m.ram }) (record m.platform { virt = virt }) (event_for (is_virtual v.mode) event))
          (back_first (enters_vs event) hart v cached));
      ready = rw e (none_of (folds v));
      keeps = keeps_also (root_for part pool v) v hart cached keeps;
      held = reserves;
      only = only_ram_changes part.blocks memory stored lie stores;
    }
outcome_follows part pool m memory found lone (Trapped trap) at lone_is hart_is traps leaves =
    trap_follows part (root_for part pool m.platform.virt) m memory found (missing_entry_by m lone) lone trap at (decided_ready m lone (traps_decided m.platform.virt lone trap traps)) traps
outcome_follows part pool m memory found lone (Missed missing wanted) at lone_is hart_is (e, mode, told) leaves =
    let stop = stops_there m (root_for part pool m.platform.virt) missing wanted (sym hart_is) (sym lone_is ∙ e) mode told in
    rw (e, stuck_traps part pool m memory missing wanted at stop) (stop_follows part pool (root_for part pool m.platform.virt) m memory found missing wanted at stop)
outcome_follows part pool m memory found lone Called at lone_is hart_is e leaves = absurd e
outcome_follows part pool m memory found lone (Waits hart) at lone_is hart_is e leaves = absurd e
outcome_follows part pool m memory found lone (Fenced hart fence) at lone_is hart_is e leaves = absurd e
outcome_follows part pool m memory found lone (FirstFenced hart named fence) at lone_is hart_is (e, keeps) reserves = let v = m.platform.virt in
    let left = unnamed_first (names_first (unwrap_or named (tag_of v)) fence) (all_filled v.first found) in record {
      own = record hart { first = left };
      stands = record { state = refl; tag = refl };
      step = rw (e, ← at.ram) refl;
      ready = rw e (none_of (folds v));
      keeps = keeps_also (root_for part pool v) v hart left keeps;
      held = reserves;
      only = only_none (in_blocks part.blocks) memory;
    }
outcome_follows part pool m memory found lone (Accesses access) at lone_is hart_is e leaves = absurd e

-- the hart's second stage is the machine's, with places renamed
second_is : (csrs : Csrs) (mode : Mode) (memory : List ℕ) (root : GuestRoot) → is_virtual mode ≡ true → csrs.hgatp ≡ root
    → second_by_walk csrs mode (machine_memory memory) ≡ second_under (machine_memory memory) csrs.hs.status.mxr root
second_is csrs mode memory root on is = rw (on, is) refl

abbrev SecondRenamed : Layout → Pooled → Machine → List ℕ → Type 0
SecondRenamed part pool m memory = (address : ℕ) (access : Access)
    → second_of_memory (hart_state_in part (root_for part pool m.platform.virt) m.platform.virt) memory address access ≡ option_map (memory_place part.blocks) (second_of m address access)

size_of : (part : Layout) (m : Machine) (memory : List ℕ) → IsHeld part memory → m.ram ≡ ram_of part.blocks memory → length m.ram ≡ ram_size part.blocks
size_of part m memory held ram = rw ram (ram_length part.blocks memory (blocks_held part memory held))

flat_renamed : (part : Layout) (pool : Pooled) (m : Machine) (memory : List ℕ) → IsAt part pool m memory → folds m.platform.virt ≡ false → SecondRenamed part pool m memory
flat_renamed part pool m memory at flat address access =
    let v = m.platform.virt in
    let root = root_for part pool v in
    let csrs = hosted_csrs root (is_virtual v.mode) v.csrs in
    let is = ram_is_renamed part.blocks memory (blocks_held part memory at.held) at.once.distinct in
    ap (λ (second : SecondStage). second address access) (second_is csrs (hosted_mode v.mode) memory root (virtual_mode v.mode) (host_root_of root (is_virtual v.mode) v.csrs))
    ∙ ap (λ table. second_under (machine_memory memory) csrs.hs.status.mxr table address access) (root_flat part pool v flat)
    ∙ gives_ram part at.once memory csrs.hs.status.mxr 0 address access at.held
    ∙ is.places address access
    ∙ ap (λ ram. option_map (memory_place part.blocks) (bare (ram_memory ram) address access)) (sym at.ram)
    ∙ ap (λ (second : SecondStage). option_map (memory_place part.blocks) (second address access)) (sym (flat_is_ram m flat))

folding_renamed : (part : Layout) (pool : Pooled) (m : Machine) (memory : List ℕ) → IsAt part pool m memory → folds m.platform.virt ≡ true → SecondRenamed part pool m memory
folding_renamed part pool m memory at folding address access =
    let v = m.platform.virt in
    let root = root_for part pool v in
    let csrs = hosted_csrs root (is_virtual v.mode) v.csrs in
    let mxr = v.csrs.hs.status.mxr in
    let f = is_fronted part pool m memory at folding in
    let lies : LieIn (in_blocks pool.part.blocks) (length memory) = rw at.own (blocks_lie_at part memory at.held) in
    ap (λ (second : SecondStage). second address access) (second_is csrs (hosted_mode v.mode) memory root (virtual_mode v.mode) (host_root_of root (is_virtual v.mode) v.csrs))
    ∙ ap (λ mxr. second_under (machine_memory memory) mxr root address access) (own_mxr_of root (is_virtual v.mode) v.csrs (virtual_of v folding))
    ∙ ap (λ table. second_under (machine_memory memory) mxr table address access) (root_folding part pool m memory at folding)
    ∙ front_gives pool memory f.space f.others mxr 0 address access at.tidy lies f.are
    ∙ ap (λ layout. option_map (λ place. host_place layout.blocks (place - ram_base)) (second_by f.space.entries mxr address access)) at.own
    ∙ ap (λ (second : SecondStage). option_map (memory_place part.blocks) (second address access)) (sym f.second)

pub view : (part : Layout) (pool : Pooled) (m : Machine) (memory : List ℕ) → IsAt part pool m memory
    → IsRenamed (memory_place part.blocks) (in_ram part.blocks) (second_of m) (reading_of (ram_memory m.ram))
    (second_of_memory (hart_state_in part (root_for part pool m.platform.virt) m.platform.virt) memory) (reading_of_memory memory)
view part pool m memory at =
    let gives : GivesWithin (in_ram part.blocks) (second_of m) =
    subst (λ size. GivesWithin (places_from ram_base size) (second_of m)) (size_of part m memory at.held at.ram) (gives_own_ram m at.caches) in
    subst (λ ram. IsRenamed (memory_place part.blocks) (in_ram part.blocks) (second_of m) (reading_of (ram_memory ram))
    (second_of_memory (hart_state_in part (root_for part pool m.platform.virt) m.platform.virt) memory) (reading_of_memory memory)) (sym at.ram)
    (places_are_renamed part.blocks memory (second_of m) _ (blocks_held part memory at.held) at.once.distinct gives (by (folds m.platform.virt) refl))
  where
    by : (b : Bool) → folds m.platform.virt ≡ b → SecondRenamed part pool m memory
    by true folding = folding_renamed part pool m memory at folding
    by false flat = flat_renamed part pool m memory at flat

-- one instruction on the hart, loaded for a guest, is one of a hart with the machine's own memory, with places renamed
core_on_hart : (part : Layout) (pool : Pooled) (m : Machine) (memory : List ℕ) → IsAt part pool m memory
    → core (mmu_on (loaded_in part (root_for part pool m.platform.virt) m.platform.virt) memory) (hart_state_in part (root_for part pool m.platform.virt) m.platform.virt)
    ≡ outcome_renamed (memory_place part.blocks) (core (mmu_of m) (hart_state_of (root_for part pool m.platform.virt) m.platform.virt))
core_on_hart part pool m memory at =
    let root = root_for part pool m.platform.virt in
    let v = hart_state_of root m.platform.virt in
    let s = loaded_in part root m.platform.virt in
    let reading = reading_of (ram_memory m.ram) in
    ap (λ known. core (mmu known (second_of_memory s.virt memory) (reading_of_memory memory)) s.virt) (knows_alike root m.platform.virt m.platform.virt.first (tag_of m.platform.virt))
    ∙ renamed_core (memory_place part.blocks) (in_ram part.blocks) (stages_of m).known (second_of m) reading _ _ v (keeps_page m) (view part pool m memory at) at.reserved

-- and finds the first-stage translations that the machine finds
found_on_hart : (part : Layout) (pool : Pooled) (m : Machine) (memory : List ℕ) → IsAt part pool m memory
    → found_on (loaded_in part (root_for part pool m.platform.virt) m.platform.virt) memory ≡ found_by_outcome (stages_of m) m
unfolding found_on
found_on_hart part pool m memory at =
    let root = root_for part pool m.platform.virt in
    let v = hart_state_of root m.platform.virt in
    let s = loaded_in part root m.platform.virt in
    let tag = tag_of m.platform.virt in
    let reading = reading_of (ram_memory m.ram) in
    ap (λ known. leaves_found tag (mmu known (second_of_memory s.virt memory) (reading_of_memory memory)) s.virt) (knows_alike root m.platform.virt m.platform.virt.first tag)
    ∙ renamed_leaves (memory_place part.blocks) (in_ram part.blocks) tag (stages_of m).known (second_of m) reading _ _ v (keeps_page m) (view part pool m memory at)
    ∙ finds_alike root m.platform.virt tag (mmu_of m)

-- by the interrupt that is due, if any
try_follows : (part : Layout) (pool : Pooled) (m : Machine) (memory : List ℕ) (lone hart : Option ℕ) → due m.platform.virt.csrs m.platform.virt.mode ≡ lone
    → IsDue lone (is_virtual m.platform.virt.mode) m.platform.virt.csrs.hideleg hart → IsAt part pool m memory
    → FollowsTry part (root_for part pool m.platform.virt) m (found_with_code (stages_of m) m lone) (tried_with (stages_of m) m lone) (missing_entry m) memory
    (end_by (caching_found (loaded_in part (root_for part pool m.platform.virt) m.platform.virt)
    (hart_finds (loaded_in part (root_for part pool m.platform.virt) m.platform.virt) memory hart)) memory
    (next_attempt (loaded_in part (root_for part pool m.platform.virt) m.platform.virt) memory hart))
try_follows part pool m memory None hart none e at =
    let root = root_for part pool m.platform.virt in
    let v = hart_state_of root m.platform.virt in
    rw (e, core_on_hart part pool m memory at, found_on_hart part pool m memory at, lacks_by m at.orderly none)
    (outcome_follows part pool m memory (found_by_outcome (stages_of m) m) _ _ at refl refl (core_stands root (mmu_of m) m.platform.virt)
    (stays_held (in_ram part.blocks) (mmu_of m) v (keeps_page m) (view part pool m memory at).inside at.reserved))
try_follows part pool m memory (Some code) hart some is at =
    interrupt_follows part (root_for part pool m.platform.virt) m memory [] (missing_entry m) code hart (is_virtual m.platform.virt.mode) refl is at (interrupted_misses_nothing m code some)

-- one step of the hart is one try
pub followed : (part : Layout) (pool : Pooled) (m : Machine) (memory : List ℕ) → host_takes m.platform.virt ≡ false → IsAt part pool m memory
    → Follows part (root_for part pool m.platform.virt) m memory (hart_step (loaded_in part (root_for part pool m.platform.virt) m.platform.virt) memory)
unfolding try_under found_by_try hart_step found_at_exit
followed part pool m memory free at =
    let v = m.platform.virt in try_follows part pool m memory _ _ refl (due_alike (root_for part pool v) v.csrs v.mode free) at

-- what the hart, loaded for the guest, would find at an exit is what the machine's next step finds
found_by_due : (part : Layout) (pool : Pooled) (m : Machine) (memory : List ℕ) (lone hart : Option ℕ) → IsDue lone (is_virtual m.platform.virt.mode) m.platform.virt.csrs.hideleg hart
    → IsAt part pool m memory
    → hart_finds (loaded_in part (root_for part pool m.platform.virt) m.platform.virt) memory hart ≡ found_with_code (stages_of m) m lone
found_by_due part pool m memory None hart e at = rw e (found_on_hart part pool m memory at)
found_by_due part pool m memory (Some code) hart is at = by (is_virtual m.platform.virt.mode) is
  where
    by : (virtual : Bool) → IsDue (Some code) virtual m.platform.virt.csrs.hideleg hart
        → hart_finds (loaded_in part (root_for part pool m.platform.virt) m.platform.virt) memory hart ≡ []
    by false (e, good) = rw e refl
    by true (e, good) = rw e refl

pub found_is : (part : Layout) (pool : Pooled) (m : Machine) (memory : List ℕ) → host_takes m.platform.virt ≡ false → IsAt part pool m memory
    → found_at_exit (loaded_in part (root_for part pool m.platform.virt) m.platform.virt) memory ≡ found_next m
unfolding found_by_try found_at_exit
found_is part pool m memory free at =
    let v = m.platform.virt in found_by_due part pool m memory _ _ (due_alike (root_for part pool v) v.csrs v.mode free) at

-- what the hart, loaded for the guest, fetches wants what the machine's next instruction wants
renamed_wanted : (h : ℕ → ℕ) (virt : Virtual) (reading other : Reading) (own host : Located) → ((place : ℕ) → own ≡ At place → other (h place) 4 ≡ reading place 4)
    → (held : Places) → LocatedAlike h held 4 own host → wanted_at other (renamed h virt) host ≡ wanted_at reading virt own
renamed_wanted h virt reading other (At place) host same held (e, in_set, fits) = rw (e, same place refl) refl
renamed_wanted h virt reading other (Fails failure) host same held e = rw e refl

pub wanted_is : (part : Layout) (pool : Pooled) (m : Machine) (memory : List ℕ) → IsAt part pool m memory
    → wanted_next (loaded_in part (root_for part pool m.platform.virt) m.platform.virt) memory ≡ data_wanted m
wanted_is part pool m memory at =
    let root = root_for part pool m.platform.virt in
    let v = hart_state_of root m.platform.virt in
    let s = loaded_in part root m.platform.virt in
    let seen = view part pool m memory at in
    let place = fetch_place (mmu_of m) v in
    let alike = accessed_alike seen (stages_of m).known (keeps_page m) v.csrs v.mode v.regs.pc Word Fetch in
    ap (λ known. wanted_at (reading_of_memory memory) s.virt (fetch_place (mmu known (second_of_memory s.virt memory) (reading_of_memory memory)) s.virt))
    (knows_alike root m.platform.virt m.platform.virt.first (tag_of m.platform.virt))
    ∙ renamed_wanted (memory_place part.blocks) v (reading_of (ram_memory m.ram)) (reading_of_memory memory) place _ (read_there place _ alike) (in_ram part.blocks) alike
    ∙ wanted_alike root (mmu_of m) m.platform.virt
  where
    read_there : (own host : Located) → LocatedAlike (memory_place part.blocks) (in_ram part.blocks) 4 own host → (place : ℕ) → own ≡ At place
        → reading_of_memory memory (memory_place part.blocks place) 4 ≡ reading_of (ram_memory m.ram) place 4
    read_there own host alike place is =
        let held = subst (λ own. LocatedAlike (memory_place part.blocks) (in_ram part.blocks) 4 own host) is alike in
        (view part pool m memory at).same place 4 held.1 held.2
