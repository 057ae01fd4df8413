-- The machines that can be saved (own).
use Rattle.std.specs.Prelude.{ℕ, ◌≡◌, ◌⊎◌, Bool, ◌+◌, ◌*◌, ◌<◌, ◌≤◌, ◌^◌, ◌||◌, true, false, length}
use Rattle.std.specs.List.{All, AllPairs}
use Rattle.arch_defs.specs.declared.cached.Entry.{Entry}
use Rattle.arch_defs.specs.declared.roots.GuestMode.TheVariants.{Sv39x4, Sv48x4}
use Rattle.arch_defs.specs.declared.roots.GuestRoot.{GuestRoot}
use Rattle.arch_defs.specs.declared.roots.GuestRoot.TheVariants.{Bare, Table}
use Rattle.arch_defs.specs.CachedEntries.{HasOtherPage}
use Rattle.arch_defs.specs.Devices.{device_frame}
use Rattle.arch_defs.specs.Memory.{block_size}
use Rattle.arch_defs.specs.Spaces.{Space, is_for}
use Rattle.arch_defs.specs.WalkedEntries.{folds}
use Rattle.guest_save.specs.declared.headers.Header.{Header}
use Rattle.guest_save.specs.declared.versions.Version.TheVariants.{Third}
use Rattle.guest_save.specs.Headers.{header_numbers, header_of}
use Rattle.guest_settings.specs.Inputs.{AreInputs}
use Rattle.guest_settings.specs.Limits as limit
use Rattle.machine_defs.specs.Machine.{Machine, with_pending_lines}
use Rattle.run_laws.specs.FirstKeys.{AreStorable, HasFirst}
use Rattle.instruction_laws.specs.FrontSpaces.{FrontIs}
use Rattle.run_laws.specs.Reservations.{IsInRam, ReservesInRam}
use Rattle.run_laws.specs.StorableStates.{IsStorable}
use Rattle.run_laws.specs.Keys.{IsKey}

-- a number of a form has 64 bits
abbrev pub Fits : ℕ → Type 0
Fits n = n < 2 ^ 64

-- sizes are within the limits of a configuration, and RAM, of this size, is of whole blocks
pub record HasSizes (h : Header) (size : ℕ) : Type 0 where
  pub whole : size ≡ h.blocks * block_size
  pub some_block : 1 ≤ h.blocks
  pub most_blocks : h.blocks ≤ limit.most_blocks
  pub some_space : 1 ≤ h.spaces
  pub most_spaces : h.spaces ≤ limit.most_spaces
  pub some_entries : limit.least_entries ≤ h.entries
  pub most_entries : h.entries ≤ limit.most_entries
  pub most_console : h.console ≤ limit.most_console

-- how many pages a table of this key translates, and the highest level of its leaves: those of Sv39x4 and of
-- Sv48x4 (Privileged Architecture 20211203, 8.5.1)
abbrev pub pages_of : GuestRoot → ℕ
pages_of Bare = 0
pages_of (Table Sv39x4 vmid ppn) = 2 ^ 29
pages_of (Table Sv48x4 vmid ppn) = 2 ^ 38

abbrev pub top_level_of : GuestRoot → ℕ
top_level_of Bare = 0
top_level_of (Table Sv39x4 vmid ppn) = 2
top_level_of (Table Sv48x4 vmid ppn) = 3

-- the frame of an entry is in RAM of this size, or is the device page, where there is one
abbrev pub IsInReach : ℕ → Bool → Entry → Type 0
IsInReach size device e = IsInRam size e ⊎ ((device ≡ true) × (e.frame ≡ device_frame))

-- an entry that a walk of a table of this key can give a guest whose RAM has this size
pub record IsSavableEntry (key : GuestRoot) (size : ℕ) (device : Bool) (e : Entry) : Type 0 where
  pub page : e.page < pages_of key
  pub frame : IsInReach size device e
  pub level : e.level ≤ top_level_of key
  pub right : (e.r || e.x) ≡ true
  pub write : e.w ≡ true → e.r ≡ true

pub record IsSavableSpace (size room : ℕ) (device : Bool) (s : Space) : Type 0 where
  pub key : IsKey s.key
  pub few : length s.entries ≤ room
  pub entries : All (IsSavableEntry s.key size device) s.entries
  pub pages : AllPairs HasOtherPage s.entries

abbrev pub HasOtherKey : Space → Space → Type 0
HasOtherKey a b = is_for a.key b ≡ false

pub record IsSavable (m : Machine) : Type 0 where
  pub sizes : HasSizes (header_of m) (length m.ram)
  pub console : length m.platform.console.bytes ≤ m.platform.console.room
  pub inputs : AreInputs m.platform.console.inputs
  pub registers : length m.platform.virt.regs.x ≡ 32
  pub virt : IsStorable m.platform.virt
  pub numbers : All Fits (header_numbers Third (header_of m))
  pub lines : with_pending_lines m.platform ≡ m.platform
  pub steps : m.platform.steps ≤ 2 ^ 60
  pub clock : m.platform.clock.time ≤ 2 ^ 62 + m.platform.steps
  pub reservation : ReservesInRam m
  pub few : length m.spaces ≤ m.space_room
  pub spaces : All (IsSavableSpace (length m.ram) m.entry_room m.device) m.spaces
  pub keys : AllPairs HasOtherKey m.spaces
  pub front : folds m.platform.virt ≡ true → FrontIs m.platform.virt.csrs.hgatp m.spaces
  pub first : HasFirst m.platform.virt.first
  pub storable : AreStorable m.platform.virt.first
