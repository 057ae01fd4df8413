-- How small the rooms of spaces are.
use Rattle.std.proofs.Common.{◌≡◌, ℕ, ◌<◌, ◌≤◌, ◌⊎◌, inl, inr, Bool, true, false, List, [], ◌∷◌, length, get_or, subst, arith}
use Rattle.std.proofs.lemmas.Bool.{cases_Bool}
use Rattle.std.specs.List.{All}
use Rattle.std.proofs.lemmas.List.{get_or-map, length-map}
use Rattle.arch_defs.specs.Layouts.{Layout}
use Rattle.shadow_space.specs.Shadows.{Tidy}
use Rattle.shadow_pool.specs.declared.slots.Slot.{Slot}
use Rattle.shadow_pool.specs.Slots.{AreSlots, AreTidy}
use Rattle.guest_exit.specs.declared.guests.Guest.{Guest}
use Rattle.guest_exit.specs.View.{IsPlaced, machine_of}
use Rattle.guest_turns.specs.Hosted.{Hosted, is_set}
use Rattle.guest_turns.specs.Hosting.{AreHosted}
use Rattle.guest_turns.proofs.Among.{machines_of, seen_of}

-- a table has room for few entries, and so has each table of a pool
most_small : (part : Layout) (most : ℕ) (slots : List Slot) (memory : List ℕ) → AreSlots part most slots → AreTidy slots memory → most ≤ 256
unfolding Tidy
most_small part most [] memory are tidy = absurd (omega (arith, are.some))
most_small part most (slot ∷ slots) memory are tidy =
    let own = are.each 0 slot (omega arith) in
    let table = tidy 0 slot (omega arith) in
    rw (← own.most) table.is.most

pub small_room : (guest : Guest) (memory : List ℕ) → IsPlaced guest memory → guest.pool.most ≤ 256
small_room guest memory at = most_small guest.pool.part guest.pool.most guest.pool.slots memory at.tidy.slots at.tidy.tables

-- also that of a guest that has retired
pub room_of_each : (guests : List Guest) (retired free : List Bool) (memory : List ℕ) (i : ℕ) (d : Guest) → AreHosted guests retired free memory → i < length guests → (get_or guests i d).pool.most ≤ 256
room_of_each guests retired free memory i d are inside = by (cases_Bool (is_set retired i))
  where
    by : (is_set retired i ≡ true) ⊎ (is_set retired i ≡ false) → (get_or guests i d).pool.most ≤ 256
    by (inl gone) = (are.gone i d inside gone).room
    by (inr active) = small_room (get_or guests i d) memory (are.each i d inside active).placed

small_rooms_of : (guests : List Guest) (retired free : List Bool) (memory : List ℕ) → AreHosted guests retired free memory → All (λ m. m.entry_room ≤ 256) (machines_of guests memory)
small_rooms_of [] retired free memory are i d inside = absurd (omega arith)
small_rooms_of (first ∷ guests) retired free memory are i d inside =
    let there : i < length (first ∷ guests) = rw (length-map (first ∷ guests) (λ guest. machine_of guest memory)) at inside in
    rw (get_or-map (λ guest. machine_of guest memory) (first ∷ guests) i first d there) (room_of_each (first ∷ guests) retired free memory i first are there)

-- so is the room of each machine of a host
pub host_rooms : (guests : List Guest) (memory : List ℕ) (free retired : List Bool) (host : Hosted) → seen_of guests memory free retired ≡ host → AreHosted guests retired free memory
    → All (λ m. m.entry_room ≤ 256) host.machines
host_rooms guests memory free retired host is are = subst (λ host. All (λ m. m.entry_room ≤ 256) host.machines) is (small_rooms_of guests retired free memory are)
