-- What a machine caches and reserves: places of its RAM alone.
use Rattle.std.specs.Prelude.{ℕ, ◌≡◌, ◌+◌, ◌*◌, ◌%◌, ◌≤◌, ◌⊎◌, ◌&&◌, Some, length, nat_le, nat_lt}
use Rattle.std.specs.List.{All}
use Rattle.arch_defs.specs.declared.cached.Entry.{Entry}
use Rattle.arch_defs.specs.Devices.{device_frame}
use Rattle.arch_defs.specs.Memory.{ram_base}
use Rattle.guest_settings.specs.declared.guests.GuestSpec.{GuestSpec}
use Rattle.machine_defs.specs.Fills.{fill, missing_entry}
use Rattle.machine_defs.specs.Machine.{Machine, start}
use Rattle.instruction_laws.specs.Renaming.{GivesWithin, Places, ReservesWithin}
use Rattle.machine_defs.specs.Runs.{left_after, run}
use Rattle.machine_defs.specs.Tries.{second_of}

-- the places of that many bytes from a base on
abbrev pub places_from : ℕ → ℕ → Places
places_from base size place = nat_le base place && nat_lt place (base + size)

-- the places of a machine's RAM
abbrev pub ram_places : Machine → Places
ram_places m = places_from ram_base (length m.ram)

-- a machine has reserved, if anything, a place of its RAM
abbrev pub ReservesInRam : Machine → Type 0
ReservesInRam m = ReservesWithin (ram_places m) m.platform.virt.reservation

-- an entry's frame is in RAM of that many bytes
abbrev pub IsInRam : ℕ → Entry → Type 0
IsInRam size e = (ram_base ≤ 4096 * e.frame) × (4096 * e.frame + 4096 ≤ ram_base + size)

-- or is that of the device page
abbrev pub HasPlace : ℕ → Entry → Type 0
HasPlace size e = IsInRam size e ⊎ (e.frame ≡ device_frame)

-- and so is that of each entry of each space
abbrev pub CachesInRam : Machine → Type 0
CachesInRam m = All (λ s. All (HasPlace (length m.ram)) s.entries) m.spaces

-- a guest's machine has neither at its start
abbrev pub StartIsInRam : Type 0
StartIsInRam = (guest : GuestSpec) → CachesInRam (start guest) × ReservesInRam (start guest)

-- where it caches so, its second stage gives places of RAM alone
abbrev pub GivesRamAlone : Type 0
GivesRamAlone = (m : Machine) → CachesInRam m → GivesWithin (ram_places m) (second_of m)

-- a machine caches so and reserves in its RAM alone, which has the size that it had
abbrev pub KeepsInRam : Machine → Machine → Type 0
KeepsInRam before m = CachesInRam m × ReservesInRam m × (length m.ram ≡ length before.ram)

-- so it is after a fill, after a try, and after a run, where RAM is of whole pages
abbrev pub FillKeepsInRam : Type 0
FillKeepsInRam = (m : Machine) (e : Entry) → CachesInRam m → ReservesInRam m → missing_entry m ≡ Some e
    → KeepsInRam m (fill m e)

abbrev pub TryKeepsInRam : Type 0
TryKeepsInRam = (m : Machine) → length m.ram % 4096 ≡ 0 → CachesInRam m → ReservesInRam m
    → KeepsInRam m (left_after m)

abbrev pub RunKeepsInRam : Type 0
RunKeepsInRam = (m : Machine) (n : ℕ) → length m.ram % 4096 ≡ 0 → CachesInRam m → ReservesInRam m
    → KeepsInRam m (run m n)
