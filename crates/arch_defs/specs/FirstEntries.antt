-- Lists of cached first-stage translations, oldest first (own, within what Privileged Architecture 20211203,
-- 4.2.1, 8.3.1 and 8.3.2, permits).
use Rattle.std.specs.Prelude.{ℕ, ◌-◌, ◌/◌, ◌^◌, ◌<◌, Bool, true, false, not, ◌&&◌, ◌==◌, List, [], ◌∷◌, ◌++◌, Option, Some, None, length, drop, take, find, filter, if◌then◌else◌}
use Rattle.arch_defs.specs.declared.cached.Fence.{Fence}
use Rattle.arch_defs.specs.declared.first.FirstEntry.{FirstEntry}
use Rattle.arch_defs.specs.declared.first.Tag.{Tag}
use Rattle.arch_defs.specs.declared.first.Tag.TheVariants.{Flat, Nested}
use Rattle.arch_defs.specs.declared.modes.Access.{Access}
use Rattle.arch_defs.specs.declared.roots.SupervisorRoot.{SupervisorRoot}
use Rattle.arch_defs.specs.declared.roots.SupervisorRoot.TheVariants as root
use Rattle.arch_defs.specs.declared.walks.LeafPte.{LeafPte}
use Rattle.arch_defs.specs.declared.walks.Privilege.{Privilege}
use Rattle.arch_defs.specs.Memory.{Known}
use Rattle.arch_defs.specs.Permits.{permits_first}
use Rattle.arch_defs.specs.Roots.{asid_of, is_atp, is_root, vmid_of}
use Rattle.arch_defs.specs.Spaces.{names_vmid}
use Rattle.arch_defs.specs.TableEntries.{span}
use Rattle.arch_defs.specs.Walk.{leaf_address}

-- two tags are the same: V, and with V = 1 hgatp as a whole
abbrev pub is_tag : Tag → Tag → Bool
is_tag Flat Flat = true
is_tag Flat (Nested hgatp) = false
is_tag (Nested hgatp) Flat = false
is_tag (Nested hgatp) (Nested other) = is_root hgatp other

-- whether an entry is the one of a page for these accesses, and for satp or vsatp as a whole
abbrev pub is_first_of : Tag → SupervisorRoot → ℕ → FirstEntry → Bool
is_first_of tag atp page e = is_tag e.tag tag && (is_atp e.atp atp && e.page == page)

-- the leaf that an entry stands for: of this one page, whatever the level of the leaf that it was filled from
abbrev pub first_leaf : FirstEntry → LeafPte
first_leaf e = record { frame = e.frame; level = 0; r = e.r; w = e.w; x = e.x; u = e.u }

-- the guest physical address of a virtual one under the entry of its page, if that permits the access
abbrev pub known_by : Privilege → ℕ → Access → Option FirstEntry → Option ℕ
known_by privilege va access None = None
known_by privilege va access (Some e) =
    if permits_first privilege access (first_leaf e) then Some (leaf_address (first_leaf e) va) else None

-- what is known by these entries, where satp or vsatp names a table; no entry has a part in Bare
unfoldable pub known_under : List FirstEntry → Tag → Privilege → SupervisorRoot → Known
known_under entries tag privilege root.Bare va access = None
known_under entries tag privilege (root.Table mode asid ppn) va access = known_by privilege va access
    (find (is_first_of tag (root.Table mode asid ppn) (va / 4096)) entries)

-- the entry of an address's one page under a leaf, whatever the leaf's level. G has no part in it
abbrev pub first_entry : Tag → SupervisorRoot → ℕ → LeafPte → FirstEntry
first_entry tag atp va leaf = record {
  tag = tag;
  atp = atp;
  page = va / 4096;
  frame = leaf_address leaf va / 4096;
  r = leaf.r;
  w = leaf.w;
  x = leaf.x;
  u = leaf.u;
  level = leaf.level;
}

-- the frame is that of a guest physical address of 56 bits, as a leaf's is (4.4.1)
abbrev pub HasGuestFrame : FirstEntry → Type 0
HasGuestFrame e = e.frame < 2 ^ 44

-- how many are cached at most
abbrev pub first_room : ℕ
first_room = 32

-- the entries of other pages, or for others
abbrev pub without_first : FirstEntry → List FirstEntry → List FirstEntry
without_first e entries = filter (λ other. not (is_first_of e.tag e.atp e.page other)) entries

-- the last entries, at most as many as are cached
abbrev pub newest_first : List FirstEntry → List FirstEntry
newest_first entries = drop (length entries - first_room) entries

-- those that a fill drops for room, beside an entry of the same page: the oldest, where there are too many
abbrev pub dropped_first : List FirstEntry → FirstEntry → List FirstEntry
dropped_first entries e = let all = without_first e entries ++ e ∷ [] in take (length all - first_room) all

-- after a fill: an entry of the same page is taken out, the new one goes last, and where there are more than
-- there may be, the oldest is dropped
unfoldable pub first_filled : List FirstEntry → FirstEntry → List FirstEntry
first_filled entries e = newest_first (without_first e entries ++ e ∷ [])

-- after fills in order
unfoldable pub all_filled : List FirstEntry → List FirstEntry → List FirstEntry
all_filled entries [] = entries
all_filled entries (e ∷ es) = all_filled (first_filled entries e) es

-- whether a fence of the first stage names an entry by its ASID: any, where it names none (4.2.1)
abbrev pub names_asid : Option ℕ → SupervisorRoot → Bool
names_asid None atp = true
names_asid (Some named) atp = named == asid_of atp

-- and by a page of the leaf that it was filled from: any, where it names none
abbrev pub names_first_page : Option ℕ → FirstEntry → Bool
names_first_page None e = true
names_first_page (Some named) e = e.page / span e.level == named / span e.level

-- whether such a fence, made for these accesses, is for those of an entry: V is the same, and with V = 1 the
-- VMID (4.2.1, 8.3.1)
abbrev pub is_fence_for : Tag → Tag → Bool
is_fence_for Flat Flat = true
is_fence_for Flat (Nested hgatp) = false
is_fence_for (Nested hgatp) Flat = false
is_fence_for (Nested hgatp) (Nested other) = vmid_of hgatp == vmid_of other

-- whether it names an entry. It has an ASID in the place of a VMID
abbrev pub names_first : Tag → Fence → FirstEntry → Bool
names_first tag fence e =
    is_fence_for tag e.tag && (names_asid fence.vmid e.atp && names_first_page fence.page e)

-- whether HFENCE.GVMA names an entry: by its VMID alone, whatever the page (8.3.2; own)
abbrev pub names_nested : Option ℕ → Tag → Bool
names_nested named Flat = false
names_nested named (Nested hgatp) = names_vmid named (vmid_of hgatp)

abbrev pub names_first_of_guest : Fence → FirstEntry → Bool
names_first_of_guest fence e = names_nested fence.vmid e.tag

-- the entries that are not named
unfoldable pub unnamed_first : (FirstEntry → Bool) → List FirstEntry → List FirstEntry
unnamed_first named entries = filter (λ e. not (named e)) entries
