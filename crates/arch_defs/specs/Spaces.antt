-- The spaces of cached second-stage translations of a guest, the most recently entered first, each for a
-- whole value of hgatp (own, within what Privileged Architecture 20211203, 8.3.2 and 8.5, permits).
use Rattle.std.specs.Prelude.{ℕ, ◌==◌, Bool, true, not, ◌&&◌, List, [], ◌∷◌, Option, Some, None, filter, find, map, take}
use Rattle.arch_defs.specs.declared.cached.Entry.{Entry}
use Rattle.arch_defs.specs.declared.cached.Fence.{Fence}
use Rattle.arch_defs.specs.declared.roots.GuestRoot.{GuestRoot}
use Rattle.arch_defs.specs.CachedEntries.{holds}
use Rattle.arch_defs.specs.Roots.{is_root, vmid_of}

-- the space of a value of hgatp: its cached translations, oldest first
pub record Space : Type 0 where
  pub key : GuestRoot
  pub entries : List Entry

-- the entries of the front space
abbrev pub front : List Space → List Entry
front [] = []
front (s ∷ ss) = s.entries

-- a space is for a value of hgatp
abbrev pub is_for : GuestRoot → Space → Bool
is_for key space = is_root space.key key

-- the space for a value of hgatp, or an empty one where there is none
abbrev pub found_or_empty : GuestRoot → Option Space → Space
found_or_empty key (Some space) = space
found_or_empty key None = record { key = key; entries = [] }

-- after hgatp is entered: its space comes to the front, and where there are more than there may be, the last
-- one is dropped
unfoldable pub entered : ℕ → GuestRoot → List Space → List Space
entered most key spaces =
    take most (found_or_empty key (find (is_for key) spaces) ∷ filter (λ s. not (is_for key s)) spaces)

-- whether a fence names a VMID: any, where it names none (8.3.2)
abbrev pub names_vmid : Option ℕ → ℕ → Bool
names_vmid None vmid = true
names_vmid (Some named) vmid = named == vmid

-- whether it names a page of the leaf that an entry was filled from: any, where it names none
abbrev pub names_page : Option ℕ → Entry → Bool
names_page None e = true
names_page (Some named) e = holds named e

-- whether it names an entry of a space for this VMID
abbrev pub names : Fence → ℕ → Entry → Bool
names fence vmid e = names_vmid fence.vmid vmid && names_page fence.page e

-- the entries that it does not name
abbrev pub unnamed_by : Fence → ℕ → List Entry → List Entry
unnamed_by fence vmid entries = filter (λ e. not (names fence vmid e)) entries

abbrev pub fenced_space : Fence → Space → Space
fenced_space fence s = record s { entries = unnamed_by fence (vmid_of s.key) s.entries }

-- after a fence: no space has an entry that it names, and each space stays
unfoldable pub fenced : Fence → List Space → List Space
fenced fence spaces = map (fenced_space fence) spaces
