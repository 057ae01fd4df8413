-- Laws of the form.
use Rattle.std.specs.Prelude.{ℕ, ◌≡◌, ◌+◌, ◌*◌, ◌%◌, ◌≤◌, Bool, true, false, List, [], length, take, drop}
use Rattle.arch_defs.specs.declared.cached.Entry.{Entry}
use Rattle.arch_defs.specs.declared.roots.GuestRoot.{GuestRoot}
use Rattle.arch_defs.specs.CachedEntries.{CanFill}
use Rattle.arch_defs.specs.Memory.{block_size}
use Rattle.guest_save.specs.Deciding.{is_saved}
use Rattle.guest_save.specs.declared.versions.Version.{Version}
use Rattle.guest_save.specs.Forms.{form, form_of, front_form}
use Rattle.guest_save.specs.Headers.{header_of}
use Rattle.guest_save.specs.Reading.{machine_in}
use Rattle.guest_save.specs.Registers.{csrs_in}
use Rattle.guest_save.specs.Savable.{HasSizes, IsSavable, IsSavableEntry}
use Rattle.guest_save.specs.Saves.{saved_form, saved_machine_in}
use Rattle.guest_save.specs.Versions.{CanTell}
use Rattle.guest_settings.specs.declared.guests.GuestSpec.{GuestSpec}
use Rattle.machine_defs.specs.Freshness.{FirstFresh, UsesFresh}
use Rattle.machine_defs.specs.Machine.{Machine, start}
use Rattle.machine_defs.specs.Runs.{run}
use Rattle.fill_laws.specs.Keeping.{IsOrderly}
use Rattle.run_laws.specs.Reservations.{CachesInRam, ReservesInRam}
use Rattle.run_laws.specs.StorableStates.{stored_form}
use Rattle.machine_defs.specs.Bootable.{IsBootable}

-- the form of a machine that can be saved gives it back, in each version that can tell it
abbrev pub RoundTrip : Type 0
RoundTrip = (version : Version) (m : Machine) → IsSavable m → CanTell version m
    → saved_machine_in (form_of version m) ≡ record { version = version; machine = m }

-- bytes are not a form of a machine that can be saved
abbrev pub IsNoForm : List ℕ → Type 0
IsNoForm bytes = (version : Version) (m : Machine) → IsSavable m → CanTell version m
    → form_of version m ≡ bytes → ⊥

-- they are none where the machine that they give cannot be saved, or has another form
abbrev pub BadExactly : Type 0
BadExactly = (bytes : List ℕ)
    → (IsSavable (saved_machine_in bytes).machine → saved_form (saved_machine_in bytes) ≡ bytes → ⊥)
    → IsNoForm bytes

-- the front of a machine's form comes first, so bytes whose end is its RAM are its form exactly where their
-- front is its front
abbrev pub FrontDecides : Type 0
FrontDecides = (version : Version) (m : Machine) (bytes : List ℕ) (k : ℕ) → k ≤ length bytes
    → m.ram ≡ drop k bytes
    → (front_form version m ≡ take k bytes → form_of version m ≡ bytes)
    × (form_of version m ≡ bytes → front_form version m ≡ take k bytes)

-- registers that were read are as they can be stored, whatever the numbers are
abbrev pub ReadIsStored : Type 0
ReadIsStored = (ns : List ℕ) → stored_form (csrs_in ns) ≡ csrs_in ns

-- a machine that can go on: it is orderly, what it caches and reserves is in its RAM, and that is of whole
-- pages
pub record IsRunnable (m : Machine) : Type 0 where
  pub orderly : IsOrderly m
  pub caches : CachesInRam m
  pub reserves : ReservesInRam m
  pub whole : length m.ram % 4096 ≡ 0

-- a machine that can be saved can go on, and its entries can be filled
abbrev pub SavableGoesOn : Type 0
SavableGoesOn = (m : Machine) → IsSavable m → IsRunnable m

abbrev pub SavableIsFilled : Type 0
SavableIsFilled = (key : GuestRoot) (blocks : List ℕ) (device : Bool) (e : Entry)
    → IsSavableEntry key (length blocks * block_size) device e → CanFill blocks e

-- the machine of a guest that can be booted can be saved at its start
abbrev pub StartIsSavable : Type 0
StartIsSavable = (guest : GuestSpec) → IsBootable guest → IsSavable (start guest)

-- a run leaves sizes within the limits, where the machine caches and reserves in its RAM alone
abbrev pub RunKeepsSizes : Type 0
RunKeepsSizes = (m : Machine) (n : ℕ) → CachesInRam m → ReservesInRam m
    → HasSizes (header_of m) (length m.ram) → HasSizes (header_of (run m n)) (length (run m n).ram)

-- a run of a and then of b steps, saved between, is the run of both
abbrev pub ResumedGoesOn : Type 0
ResumedGoesOn = (m : Machine) (a b : ℕ) → IsSavable (run m a)
    → run (machine_in (form (run m a))) b ≡ run m (a + b)

-- what a machine that was read uses is fresh, in each run without spaces at its start of which it is a state
abbrev pub UsesFreshSince : Machine → ℕ → Type 0
UsesFreshSince saved n = (m : Machine) (k : ℕ) → IsOrderly m → m.spaces ≡ [] → saved ≡ run m k
    → UsesFresh m (k + n)

abbrev pub SavedUseFresh : Type 0
SavedUseFresh = (saved : Machine) (n : ℕ) → UsesFreshSince saved n

-- and so are its first-stage translations, in each run without any at its start of which it is a state
abbrev pub FirstFreshSince : Machine → ℕ → Type 0
FirstFreshSince saved n =
    (m : Machine) (k : ℕ) → m.platform.virt.first ≡ [] → saved ≡ run m k → FirstFresh m (k + n)

abbrev pub SavedFirstFresh : Type 0
SavedFirstFresh = (saved : Machine) (n : ℕ) → FirstFreshSince saved n

-- bytes are the form of a machine that can be saved: of the one that they give
abbrev pub IsSaved : List ℕ → Type 0
IsSaved bytes = IsSavable (saved_machine_in bytes).machine × (saved_form (saved_machine_in bytes) ≡ bytes)

-- the test tells exactly whether they are
abbrev pub SavedExactly : Type 0
SavedExactly = (bytes : List ℕ)
    → (is_saved bytes ≡ true → IsSaved bytes) × (IsSaved bytes → is_saved bytes ≡ true)

-- so the form of each machine that can be saved passes, and other bytes are the form of none
abbrev pub FormIsSaved : Type 0
FormIsSaved = (version : Version) (m : Machine) → IsSavable m → CanTell version m
    → is_saved (form_of version m) ≡ true

abbrev pub UnsavedIsBad : Type 0
UnsavedIsBad = (bytes : List ℕ) → is_saved bytes ≡ false → IsNoForm bytes
