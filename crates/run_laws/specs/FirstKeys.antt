-- What runs keep of first-stage translations: they are few, no two are of the same page for the same
-- accesses, each is what a table can give, and what it is for is what registers can store.
use Rattle.std.specs.Prelude.{ℕ, ◌≡◌, ⊤, ◌<◌, ◌≤◌, ◌^◌, ◌||◌, true, false, List, length}
use Rattle.std.specs.List.{All, AllPairs}
use Rattle.arch_defs.specs.declared.first.FirstEntry.{FirstEntry}
use Rattle.arch_defs.specs.declared.first.Tag.{Tag}
use Rattle.arch_defs.specs.declared.first.Tag.TheVariants.{Flat, Nested}
use Rattle.arch_defs.specs.declared.roots.SupervisorRoot.{SupervisorRoot}
use Rattle.arch_defs.specs.declared.roots.SupervisorRoot.TheVariants as root
use Rattle.arch_defs.specs.CsrBits.{guest_root_of, hgatp_bits, satp_bits, supervisor_root_of}
use Rattle.arch_defs.specs.FirstEntries.{first_room, is_first_of}
use Rattle.arch_defs.specs.Roots.{names_table, supervisor_shape}
use Rattle.arch_defs.specs.Walk.{levels}
use Rattle.guest_settings.specs.declared.guests.GuestSpec.{GuestSpec}
use Rattle.machine_defs.specs.Machine.{Machine, start}
use Rattle.machine_defs.specs.Runs.{run}
use Rattle.run_laws.specs.StorableStates.{IsStorable}

-- one is not of the page of a later one, or is for other accesses, or for another value of satp or vsatp
abbrev pub AreApart : FirstEntry → FirstEntry → Type 0
AreApart earlier later = is_first_of later.tag later.atp later.page earlier ≡ false

-- how many levels the tables of a value of satp or vsatp have
abbrev pub first_levels : SupervisorRoot → ℕ
first_levels root.Bare = 0
first_levels (root.Table mode asid ppn) = levels (supervisor_shape mode)

-- what a table of such a value can give: a virtual page (own: addresses have 64 bits), a frame of 44 bits, a
-- level of its MODE; it can be read or executed, and written only where it can be read
pub record IsOfFirstTable (e : FirstEntry) : Type 0 where
  pub table : names_table e.atp ≡ true
  pub page : e.page < 2 ^ 52
  pub frame : e.frame < 2 ^ 44
  pub level : e.level < first_levels e.atp
  pub right : (e.r || e.x) ≡ true
  pub write : e.w ≡ true → e.r ≡ true

pub record HasFirst (first : List FirstEntry) : Type 0 where
  pub few : length first ≤ first_room
  pub apart : AllPairs AreApart first
  pub tables : All IsOfFirstTable first

-- a value that hgatp can store, with V = 1 (Privileged Architecture 20211203, 8.2.10)
abbrev pub IsStorableTag : Tag → Type 0
IsStorableTag Flat = ⊤
IsStorableTag (Nested hgatp) = guest_root_of (hgatp_bits hgatp) ≡ hgatp

-- what a translation is for can be stored: hgatp, and satp or vsatp (4.1.11, 8.2.18)
pub record IsStorableFirst (e : FirstEntry) : Type 0 where
  pub tag : IsStorableTag e.tag
  pub atp : supervisor_root_of e.atp (satp_bits e.atp) ≡ e.atp

abbrev pub AreStorable : List FirstEntry → Type 0
AreStorable first = All IsStorableFirst first

-- a guest's machine has none at its start, so both hold of it
abbrev pub StartHasFirst : Type 0
StartHasFirst = (guest : GuestSpec) → let first = (start guest).platform.virt.first in
    HasFirst first × AreStorable first

-- each stays so in a run: what they are for, where registers hold what they can store
abbrev pub RunKeepsFirst : Type 0
RunKeepsFirst = (m : Machine) (n : ℕ) → HasFirst m.platform.virt.first
    → HasFirst (run m n).platform.virt.first

abbrev pub RunKeepsFirstStorable : Type 0
RunKeepsFirstStorable = (m : Machine) (n : ℕ) → IsStorable m.platform.virt
    → AreStorable m.platform.virt.first → AreStorable (run m n).platform.virt.first
