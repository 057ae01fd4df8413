-- A guest in machine memory whose machine can be saved.
use Rattle.std.proofs.Common.{◌≡◌, ℕ, ◌<◌, ◌≤◌, inl, inr, Bool, true, false, List, [], ◌∷◌, length, get_or, ap, sym, subst, arith}
use Rattle.std.specs.List.{All, AllPairs}
use Rattle.std.proofs.lemmas.List.{get_or_default}
use Rattle.arch_defs.specs.declared.cached.Entry.{Entry}
use Rattle.arch_defs.specs.declared.roots.GuestMode.TheVariants.{Sv39x4, Sv48x4}
use Rattle.arch_defs.specs.declared.roots.GuestRoot.{GuestRoot}
use Rattle.arch_defs.specs.declared.roots.GuestRoot.TheVariants.{Bare, Table}
use Rattle.arch_defs.specs.CachedEntries.{CanFill, HasOtherPage}
use Rattle.arch_defs.specs.Layouts.{Layout}
use Rattle.arch_defs.specs.Memory.{ram_base}
use Rattle.arch_defs.specs.Roots.{is_root}
use Rattle.arch_defs.specs.Spaces.{Space}
use Rattle.arch_defs.proofs.SameRoots.{root_is}
use Rattle.guest_exit.specs.declared.guests.Guest.{Guest}
use Rattle.hosted_steps.specs.DevicePages.{IsOfDevice}
use Rattle.guest_exit.specs.View.{machine_of}
use Rattle.guest_exit.proofs.Pools.{size_of}
use Rattle.guest_save.specs.Headers.{header_numbers, header_of}
use Rattle.guest_save.specs.declared.versions.Version.TheVariants.{Third}
use Rattle.guest_save.specs.Savable.{Fits, HasOtherKey, IsInReach, IsSavable, IsSavableEntry, IsSavableSpace}
use Rattle.guest_settings.specs.Inputs.{AreInputs}
use Rattle.fill_laws.specs.EachEntry.{EachEntry}
use Rattle.instruction_laws.specs.HostPlaces.{ram_size}
use Rattle.run_laws.specs.Keys.{HaveKeys}
use Rattle.fill_laws.specs.GivenEntries.{IsOfTable}
use Rattle.instruction_laws.specs.Renaming.{ReservesWithin}
use Rattle.run_laws.specs.Reservations.{HasPlace, places_from}
use Rattle.shadow_pool.specs.declared.slots.Slot.{Slot}
use Rattle.shadow_pool.specs.Slots.{AreSlots, AreTidy, has_key, no_space, space_at, spaces_in}
use Rattle.shadow_pool.proofs.Listing.{entries_are, key_is}
use Rattle.shadow_space.specs.Shadows.{Tidy}
use Rattle.guest_turns.specs.Hosting.{IsHosted}
use Rattle.guest_turns.specs.Saving.{MayBeSaved}
use Rattle.shadow_pool.proofs.Entering.{few_spaces}

-- an entry of a table that can be filled
in_reach : (key : GuestRoot) (size : ℕ) (device : Bool) (e : Entry) → HasPlace size e → IsOfDevice device key e → IsInReach size device e
in_reach key size device e (inl ram) of = inl ram
in_reach key size device e (inr page) of = inr (of page, page)

savable_entry : (key : GuestRoot) (size : ℕ) (device : Bool) (blocks : List ℕ) (e : Entry) → IsOfTable key e → IsInReach size device e → CanFill blocks e
    → IsSavableEntry key size device e
savable_entry Bare size device blocks e given reach fill = absurd given
savable_entry (Table Sv39x4 vmid ppn) size device blocks e given reach fill =
    record { page = given.0; frame = reach; level = omega (arith, given.1); right = fill.right; write = fill.write }
savable_entry (Table Sv48x4 vmid ppn) size device blocks e given reach fill =
    record { page = given.0; frame = reach; level = omega (arith, given.1); right = fill.right; write = fill.write }

-- the spaces of tables
savable_spaces : (part : Layout) (most size : ℕ) (device : Bool) (slots : List Slot) (memory : List ℕ) → AreSlots part most slots → AreTidy slots memory → HaveKeys (spaces_in slots)
    → EachEntry IsOfTable (spaces_in slots) → All (λ s. All (HasPlace size) s.entries) (spaces_in slots) → EachEntry (IsOfDevice device) (spaces_in slots)
    → All (IsSavableSpace size most device) (spaces_in slots)
unfolding Tidy
savable_spaces part most size device [] memory are tidy keys tables caches of i d h = absurd (omega (arith, h))
savable_spaces part most size device (first ∷ rest) memory are tidy keys tables caches of i d h =
    let table = (tidy i first inside_slots).is in
    let key = keys i no_space h in
    rw (get_or_default spaces i d no_space h) (record {
      key = record { stored = key.stored; table = key.table };
      few = omega (arith, table.few, most_is, ap length entries);
      entries = λ j e inside.
          savable_entry (space_at spaces i).key size device slot.space.part.blocks (get_or (space_at spaces i).entries j e) (tables i no_space h j e inside)
          (in_reach (space_at spaces i).key size device (get_or (space_at spaces i).entries j e) (caches i no_space h j e inside) (of i no_space h j e inside))
          (subst (λ entries. CanFill slot.space.part.blocks (get_or entries j e)) entries (table.fill j e (rw entries inside)));
      pages = subst (AllPairs HasOtherPage) entries table.pages;
    })
  where
    spaces : List Space
    spaces = spaces_in (first ∷ rest)

    inside_slots : i < length (first ∷ rest)
    inside_slots = omega (arith, h, few_spaces (first ∷ rest))

    slot : Slot
    slot = get_or (first ∷ rest) i first

    most_is : slot.space.most ≡ most
    most_is = (are.each i first inside_slots).most

    entries : slot.space.entries ≡ (space_at spaces i).entries
    entries = entries_are (first ∷ rest) i first are.order h

other_keys : (part : Layout) (most : ℕ) (slots : List Slot) → AreSlots part most slots → AllPairs HasOtherKey (spaces_in slots)
other_keys part most [] are i j d before h = absurd (omega (arith, h))
other_keys part most (first ∷ rest) are i j d before h =
    rw (get_or_default spaces i d no_space i_in, get_or_default spaces j d no_space h) apart
  where
    spaces : List Space
    spaces = spaces_in (first ∷ rest)

    i_in : i < length spaces
    i_in = omega (arith, before, h)

    has : has_key (space_at spaces i).key (get_or (first ∷ rest) i first) ≡ true
    has = rw (key_is (first ∷ rest) i first are.order i_in) (root_is (space_at spaces i).key)

    other : has_key (space_at spaces i).key (get_or (first ∷ rest) j first) ≡ false
    other = (are.order i j first before (omega (arith, h, few_spaces (first ∷ rest)))).key (space_at spaces i).key has

    apart : is_root (space_at spaces j).key (space_at spaces i).key ≡ false
    apart = rw (key_is (first ∷ rest) j first are.order h) at other

-- what is reserved, where RAM has the size of the part's blocks
pub savable_hosted : (guest : Guest) (memory : List ℕ) → IsHosted guest memory → MayBeSaved (machine_of guest memory) → AreInputs guest.console.inputs
    → length guest.console.bytes ≤ guest.console.room → All Fits (header_numbers Third (header_of (machine_of guest memory))) → length guest.virt.regs.x ≡ 32
    → IsSavable (machine_of guest memory)
savable_hosted guest memory hosted may inputs console numbers registers = record {
  sizes = may.sizes;
  console = console;
  inputs = inputs;
  registers = registers;
  virt = hosted.placed.storable;
  numbers = numbers;
  lines = hosted.current;
  steps = may.steps;
  clock = hosted.clock;
  reservation = subst (λ n. ReservesWithin (places_from ram_base n) guest.virt.reservation) (sym size) hosted.placed.reserved;
  few = few_spaces guest.pool.slots;
  spaces = savable_spaces guest.pool.part guest.pool.most (length (machine_of guest memory).ram) guest.device guest.pool.slots memory hosted.placed.tidy.slots hosted.placed.tidy.tables may.keys may.tables hosted.placed.caches hosted.placed.devices;
  keys = other_keys guest.pool.part guest.pool.most guest.pool.slots hosted.placed.tidy.slots;
  front = hosted.placed.orderly.front;
  first = may.first;
  storable = may.storable;
}
  where
    size : length (machine_of guest memory).ram ≡ ram_size guest.part.blocks
    size = size_of guest.part memory hosted.placed.held
