-- What a machine caches of the device page: nothing, where it has none (own).
use Rattle.std.specs.Prelude.{ℕ, ◌≡◌, Bool, true}
use Rattle.arch_defs.specs.declared.cached.Entry.{Entry}
use Rattle.arch_defs.specs.declared.roots.GuestRoot.{GuestRoot}
use Rattle.arch_defs.specs.Devices.{device_frame}
use Rattle.machine_defs.specs.Machine.{Machine}
use Rattle.machine_defs.specs.Runs.{run}
use Rattle.fill_laws.specs.EachEntry.{EachEntry}

-- an entry is of the device page only where there is one, whatever the value of hgatp is that its space is
-- for
abbrev pub IsOfDevice : Bool → GuestRoot → Entry → Type 0
IsOfDevice device key e = e.frame ≡ device_frame → device ≡ true

-- and so is each entry of each space of a machine
abbrev pub CachesOwnDevice : Machine → Type 0
CachesOwnDevice m = EachEntry (IsOfDevice m.device) m.spaces

-- which stays so in each run
abbrev pub RunKeepsDevice : Type 0
RunKeepsDevice = (m : Machine) (n : ℕ) → CachesOwnDevice m → CachesOwnDevice (run m n)
