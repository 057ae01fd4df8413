-- A machine caches and reserves in its RAM alone, and its RAM keeps its size.
use Rattle.std.specs.Prelude.{◌==◌, ◌&&◌, ◌||◌, nat_le, nat_lt}
use Rattle.std.specs.List.{All}
use Rattle.std.proofs.Common.{◌≡◌, ℕ, ◌+◌, ◌-◌, ◌*◌, ◌/◌, ◌%◌, ◌<◌, ◌≤◌, ◌∙◌, inl, inr, Bool, true, false, List, [], ◌∷◌, Option, Some, None, length, refl, sym, subst, ap, arith}
use Rattle.std.proofs.lemmas.Bool.{and_parts, both_ways, eq-eqb, eqb-true, leb-true}
use Rattle.std.proofs.lemmas.List.Elements.{All-head, All-nil}
use Rattle.byteorder.specs.Endian.{little_bytes}
use Rattle.byteorder.specs.Numbers.{length-bytes_low_first}
use Rattle.arch_defs.specs.declared.cached.Entry.{Entry}
use Rattle.arch_defs.specs.declared.cached.Fence.{Fence}
use Rattle.arch_defs.specs.declared.levels.Level.{Level}
use Rattle.arch_defs.specs.declared.levels.Level.TheVariants.{HS, VS}
use Rattle.arch_defs.specs.declared.modes.Access.{Access}
use Rattle.arch_defs.specs.declared.modes.Trap.{Trap}
use Rattle.arch_defs.specs.declared.registers.Csrs.{Csrs}
use Rattle.arch_defs.specs.declared.roots.GuestRoot.{GuestRoot}
use Rattle.arch_defs.specs.declared.roots.GuestRoot.TheVariants as root
use Rattle.arch_defs.specs.declared.registers.Virtual.{Virtual}
use Rattle.arch_defs.specs.declared.walks.LeafPte.{LeafPte}
use Rattle.arch_defs.specs.CachedEntries.{entry_at, is_device, leaf_of, place_by, second_by}
use Rattle.arch_defs.specs.Devices.{device_frame, is_on_device}
use Rattle.arch_defs.specs.Memory.{Stored, bare, ram_base, ram_memory, with_stored}
use Rattle.arch_defs.specs.Registers.{read, a7}
use Rattle.arch_defs.specs.Roots.{guest_shape}
use Rattle.arch_defs.specs.SecondStage.{has_frame_of}
use Rattle.arch_defs.specs.Spaces.{Space, front}
use Rattle.arch_defs.specs.Traps.{entered_at, target}
use Rattle.arch_defs.specs.Walk.{leaf_address}
use Rattle.arch_defs.specs.WalkedEntries.{entry_by_table, entry_by_walk, entry_under, folds}
use Rattle.arch_defs.proofs.Pastes.{length_pasted}
use Rattle.machine_defs.specs.Fills.{missing_entry}
use Rattle.machine_defs.specs.FirstLeaves.{tag_of}
use Rattle.machine_defs.specs.Machine.{Machine, Platform, Tried, start, with_first}
use Rattle.fill_laws.specs.EachEntry.{EachEntry, FrontHas}
use Rattle.instruction_laws.specs.Renaming.{CompletionWithin, GivesWithin, Places, ReservesWithin, StoresWithin}
use Rattle.run_laws.specs.Reservations.{CachesInRam, FillKeepsInRam, GivesRamAlone, HasPlace, IsInRam, KeepsInRam, ReservesInRam, RunKeepsInRam, StartIsInRam, TryKeepsInRam, places_from, ram_places}
use Rattle.machine_defs.specs.Runs.{left_after, left_by, run}
use Rattle.machine_defs.specs.Tries.{fence_under, mmu_of, stages_of, try}
use Rattle.instruction_laws.proofs.Cached.{all_found, either, given, lacked, place_given, placed}
use Rattle.run_laws.proofs.HlvAccesses.{bare_held, hlv_held}
use Rattle.fill_laws.proofs.EachEntry.{each_kept, front_each, tried_each}
use Rattle.instruction_laws.proofs.KeptByRuns.{IsKept, kept_by_runs}
use Rattle.instruction_laws.proofs.Placed.{cached_keeps_page}
use Rattle.instruction_laws.proofs.Renaming.{stays_held}
use Rattle.instruction_laws.proofs.TryEnds.{Calls, Fences, Halts, Makes, Passes, Serves, Takes, TryEnd, try_end}

-- a machine's second stage gives places of RAM alone
in_frame : (frame address size : ℕ) → 2147483648 ≤ 4096 * frame → 4096 * frame + 4096 ≤ 2147483648 + size
    → ((nat_le 2147483648 (4096 * frame + address % 4096) && nat_lt (4096 * frame + address % 4096) (2147483648 + size)) ≡ true)
    × ((4096 * frame + address % 4096) % 4096 ≡ address % 4096)
in_frame frame address size low high = (grind arith, omega arith)

-- an entry that gives a place is not of the device page
in_ram_off : (size : ℕ) (e : Entry) → HasPlace size e → is_device e ≡ false → IsInRam size e
in_ram_off size e (inl in_ram) off = in_ram
in_ram_off size e (inr on) off = absurd (both_ways (is_device e) off (eq-eqb e.frame device_frame on))

by_entries : (size : ℕ) (mxr : Bool) (entries : List Entry) → All (HasPlace size) entries → GivesWithin (places_from ram_base size) (second_by entries mxr)
unfolding second_by
by_entries size mxr entries all address place access is =
    let held = placed mxr address place access (entry_at (address / 4096) entries) is in
    let one : IsInRam size held.0 = in_ram_off size held.0 (all_found (HasPlace size) (λ e. e.page == address / 4096) entries held.0 all held.1) held.3 in
    let at : Some (leaf_address (leaf_of held.0) address) ≡ Some place =
    sym (ap (place_by mxr address access) held.1 ∙ place_given mxr address access held.0 held.2 held.3) ∙ is in
    let same : leaf_address (leaf_of held.0) address ≡ place = cc in
    subst (λ p. (places_from ram_base size p ≡ true) × (p % 4096 ≡ address % 4096)) same (in_frame held.0.frame address size one.0 one.1)

front_in : (size : ℕ) (spaces : List Space) → EachEntry (λ key. HasPlace size) spaces → All (HasPlace size) (front spaces)
front_in size [] all = All-nil (HasPlace size)
front_in size (s ∷ ss) all = All-head (λ (s : Space). All (HasPlace size) s.entries) s ss all

pub gives_ram : GivesRamAlone
gives_ram = λ m caches. either (GivesWithin (ram_places m)) (folds m.platform.virt)
    (second_by (front m.spaces) m.platform.virt.csrs.hs.status.mxr) (bare (ram_memory m.ram))
    (by_entries (length m.ram) m.platform.virt.csrs.hs.status.mxr (front m.spaces) (front_in (length m.ram) m.spaces caches)) (bare_held (ram_memory m.ram))

-- what is filled is in RAM, or of the device page
now_in : (device : Bool) (csrs : Csrs) (ram : List ℕ) (address : ℕ) (kind : Access) (e : Entry) → entry_by_walk device csrs ram address kind ≡ Some e → HasPlace (length ram) e
unfolding entry_by_walk
now_in device csrs ram address kind e found = by csrs.hgatp found
  where
    has : (place size : ℕ) → (nat_le 2147483648 (place / 4096 * 4096) && nat_le (place / 4096 * 4096 + 4096) (2147483648 + size)) ≡ true
        → (2147483648 ≤ 4096 * (place / 4096)) × (4096 * (place / 4096) + 4096 ≤ 2147483648 + size)
    has place size is = let parts = and_parts (nat_le 2147483648 (place / 4096 * 4096)) (nat_le (place / 4096 * 4096 + 4096) (2147483648 + size)) is in
        let low = leb-true 2147483648 (place / 4096 * 4096) parts.0 in let high = leb-true (place / 4096 * 4096 + 4096) (2147483648 + size) parts.1 in (omega arith, omega arith)

    placed_by : (leaf : LeafPte) (inside on : Bool) → has_frame_of (ram_memory ram) (leaf_address leaf address) ≡ inside → is_on_device (leaf_address leaf address) ≡ on
        → (inside || (device && on)) ≡ true → HasPlace (length ram) (entry_under leaf address)
    placed_by leaf true on in_ram on_page is = inl (has (leaf_address leaf address) (length ram) in_ram)
    placed_by leaf false true in_ram on_page is = inr (eqb-true (leaf_address leaf address / 4096) device_frame on_page)
    placed_by leaf false false in_ram on_page is = let never : false ≡ true = (and_parts device false is).1 in absurd cc

    by : (hgatp : GuestRoot) → entry_by_table device csrs.hs.status.mxr ram address kind hgatp ≡ Some e → HasPlace (length ram) e
    by root.Bare is = absurd cc
    by (root.Table mode vmid ppn) is = let g = given device csrs.hs.status.mxr ram (guest_shape mode) ppn address kind e is in
        rw g.1.is (placed_by g.0 (has_frame_of (ram_memory ram) (leaf_address g.0 address)) (is_on_device (leaf_address g.0 address)) refl refl g.1.inside)

missing_entry_in : (m : Machine) (e : Entry) → missing_entry m ≡ Some e → HasPlace (length m.ram) e
missing_entry_in m e is = let at = (lacked m e is).1 in now_in m.device m.platform.virt.csrs m.ram at.0.address at.0.kind e at.1

-- what is reserved is a place of RAM of this size, RAM has this size, and the entries are in it or of the device page
abbrev InRam : ℕ → Machine → Type 0
InRam size m = ReservesWithin (places_from ram_base size) m.platform.virt.reservation × (length m.ram ≡ size)

abbrev CachesIn : ℕ → Machine → Type 0
CachesIn size m = EachEntry (λ key. HasPlace size) m.spaces

keeps_in_ram : (before m : Machine) → CachesIn (length before.ram) m → InRam (length before.ram) m → KeepsInRam before m
keeps_in_ram before m caches (reserves, same) = (
  subst (λ size. CachesIn size m) (sym same) caches,
  subst (λ size. ReservesWithin (places_from ram_base size) m.platform.virt.reservation) (sym same) reserves,
  same,
)

-- so is a fill
each_space : (Q : Type 0) → Q → (spaces : List Space) → FrontHas (λ key. Q) spaces
each_space Q holds [] = tt
each_space Q holds (s ∷ ss) = holds

fill_in_ram : (size : ℕ) (m : Machine) (e : Entry) → InRam size m → missing_entry m ≡ Some e → FrontHas (λ key. HasPlace size e) m.spaces
fill_in_ram size m e (reserves, same) is = each_space (HasPlace size e) (subst (λ size. HasPlace size e) same (missing_entry_in m e is)) m.spaces

pub fill_stays_in_ram : FillKeepsInRam
fill_stays_in_ram m e caches kept is = (front_each (λ key. HasPlace (length m.ram)) m.entry_room m.spaces e caches (fill_in_ram (length m.ram) m e (kept, refl) is), kept, refl)

-- a store inside one page of RAM ends in RAM
ends_inside : (place n size : ℕ) → (nat_le 2147483648 place && nat_lt place (2147483648 + size)) ≡ true → size % 4096 ≡ 0 → place % 4096 + n ≤ 4096
    → place - 2147483648 + n ≤ size
ends_inside place n size in_it whole one = let above : 2147483648 ≤ place = grind arith in let below : place < 2147483648 + size = grind arith in omega arith

-- and keeps its size
size_kept : (m : Machine) (stored : Option Stored) → length m.ram % 4096 ≡ 0 → StoresWithin (ram_places m) stored → length (with_stored ram_base stored m.ram) ≡ length m.ram
size_kept m (Some s) whole (in_it, one) = length_pasted m.ram (s.place - ram_base) (little_bytes s.width s.value)
    (rw (length-bytes_low_first 0 s.width s.value) (ends_inside s.place s.width (length m.ram) in_it whole one))
size_kept m None whole in_it = refl

-- a trap leaves the reservation as it is
entered_keeps : (held : Places) (s : Virtual) → ReservesWithin held s.reservation → (trap : Trap) (level : Level) → ReservesWithin held (entered_at s trap level).reservation
entered_keeps held s kept trap HS = kept
entered_keeps held s kept trap VS = kept

-- what a try leaves, by how it ends: an instruction reserves and stores in RAM
abbrev HeldEnd : Machine → Tried → Option Fence → Type 0
HeldEnd m t fence = TryEnd (CompletionWithin (ram_places m)) (λ state. ReservesWithin (ram_places m) state.reservation) m t fence

held_end : (m : Machine) → CachesInRam m → ReservesInRam m → HeldEnd m (try m) (fence_under (stages_of m) m)
held_end m caches kept = try_end (CompletionWithin (ram_places m)) (λ state. ReservesWithin (ram_places m) state.reservation) (λ wanted. Unit {0})
    m (stages_of m) (λ first wanted any. hlv_held m.device (ram_memory m.ram) (with_first m first).platform.virt kept wanted)
    (stays_held (ram_places m) (mmu_of m) m.platform.virt (cached_keeps_page m.platform.virt.first (tag_of m.platform.virt) m.platform.virt) (gives_ram m caches) kept)

ended_in : (m : Machine) → length m.ram % 4096 ≡ 0 → ReservesInRam m → {t : Tried} {fence : Option Fence} → HeldEnd m t fence → InRam (length m.ram) (left_by m t)
ended_in m whole kept (Takes first trap) = let s = (with_first m first).platform.virt in (entered_keeps (ram_places m) s kept trap (target s.csrs s.mode trap), refl)
ended_in m whole kept (Makes first completion event (stores, reserves)) = (reserves, size_kept m completion.stored whole stores)
ended_in m whole kept (Calls first) = (either (λ (p : Platform). ReservesWithin (ram_places m) p.virt.reservation) (read m.platform.virt.regs a7 == 8) _ _ kept kept, refl)
ended_in m whole kept (Serves first rd value console has) = (kept, refl)
ended_in m whole kept (Passes first virt moment reserves) = (reserves, refl)
ended_in m whole kept Halts = (kept, refl)
ended_in m whole kept (Fences first virt fence reserves) = (reserves, refl)

try_in_ram : (m : Machine) → length m.ram % 4096 ≡ 0 → CachesInRam m → ReservesInRam m → InRam (length m.ram) (left_after m)
try_in_ram m whole caches kept = ended_in m whole kept (held_end m caches kept)

pub try_stays_in_ram : TryKeepsInRam
try_stays_in_ram m whole caches kept = keeps_in_ram m (left_after m) (tried_each (λ key. HasPlace (length m.ram)) m (stages_of m) caches) (try_in_ram m whole caches kept)

-- so does a run, as each fill is in RAM
pub in_ram_kept : (size : ℕ) → size % 4096 ≡ 0 → IsKept (λ m. CachesIn size m × InRam size m)
in_ram_kept size whole = each_kept (λ key. HasPlace size) (InRam size) (λ m e also all is. fill_in_ram size m e also is) (λ m e also all is. also) tried
  where
    tried : (m : Machine) → InRam size m → CachesIn size m → InRam size (left_after m)
    tried m (reserves, same) caches = subst (λ size. InRam size (left_after m)) same (try_in_ram m (rw same whole)
        (subst (λ size. CachesIn size m) (sym same) caches) (subst (λ size. ReservesWithin (places_from ram_base size) m.platform.virt.reservation) (sym same) reserves))

pub stays_in_ram : RunKeepsInRam
stays_in_ram m n whole caches kept = let size = length m.ram in
    let after = kept_by_runs (λ (t : Machine). CachesIn size t × InRam size t) (in_ram_kept size whole) m n (caches, (kept, refl)) in
    keeps_in_ram m (run m n) after.0 after.1

-- at its start it has no spaces, and nothing is reserved
pub start_is_in_ram : StartIsInRam
unfolding start
start_is_in_ram guest = (All-nil (λ (s : Space). All (HasPlace _) s.entries), tt)
