-- Lists of cached second-stage translations, oldest first (own, within what Privileged Architecture 20211203,
-- 8.3.2 and 8.5, permits).
use Rattle.std.specs.Prelude.{ℕ, ◌≡◌, ◌≢◌, ◌⊎◌, ◌+◌, ◌-◌, ◌*◌, ◌/◌, ◌<◌, ◌≤◌, ◌^◌, Bool, true, false, not, ◌||◌, ◌&&◌, ◌==◌, List, [], ◌∷◌, ◌++◌, Option, Some, None, length, drop, find, filter, if◌then◌else◌}
use Rattle.arch_defs.specs.declared.cached.Entry.{Entry}
use Rattle.arch_defs.specs.declared.modes.Access.{Access}
use Rattle.arch_defs.specs.declared.walks.LeafPte.{LeafPte}
use Rattle.arch_defs.specs.Devices.{device_frame}
use Rattle.arch_defs.specs.Memory.{ram_base, block_size, SecondStage}
use Rattle.arch_defs.specs.Permits.{permits_second}
use Rattle.arch_defs.specs.TableEntries.{span}
use Rattle.arch_defs.specs.Walk.{guest_bits, leaf_address, most_level}

-- the entry of a page
abbrev pub entry_at : ℕ → List Entry → Option Entry
entry_at page entries = find (λ e. e.page == page) entries

-- the entries of other pages
abbrev pub without : ℕ → List Entry → List Entry
without page entries = filter (λ e. not (e.page == page)) entries

-- the last entries, at most that many
abbrev pub newest : ℕ → List Entry → List Entry
newest most entries = drop (length entries - most) entries

-- after a fill: an entry of the same page is taken out, the new one goes last, and where there are more than
-- there may be, the oldest is dropped
unfoldable pub filled : ℕ → List Entry → Entry → List Entry
filled most entries entry = newest most (without entry.page entries ++ entry ∷ [])

-- the span of an entry's leaf holds a page: 1, 512, 262,144 or 134,217,728 aligned pages by its level
abbrev pub holds : ℕ → Entry → Bool
holds page e = e.page / span e.level == page / span e.level

-- after a fence that names a page
unfoldable pub cut_by : ℕ → List Entry → List Entry
cut_by page entries = filter (λ e. not (holds page e)) entries

-- the level of an entry is one that a leaf can have
abbrev pub HasLevel : Entry → Type 0
HasLevel e = e.level ≤ most_level

-- the bits of a guest physical page: a page is an address that a second-stage table translates, without the
-- 12 bits of an offset (8.5.1)
abbrev pub guest_page_bits : ℕ
guest_page_bits = guest_bits - 12

-- a frame of RAM of these blocks, or that of the device page
abbrev pub IsReachable : List ℕ → ℕ → Type 0
IsReachable blocks frame =
    ((ram_base ≤ frame * 4096) × (frame * 4096 < ram_base + length blocks * block_size))
    ⊎ (frame ≡ device_frame)

-- an entry that a walk of a second-stage table can give a guest whose RAM is of these blocks: its page is one
-- that such a table translates, its frame in RAM or that of the device page, it can be read or executed, and
-- written only where it can be read
pub record CanFill (blocks : List ℕ) (e : Entry) : Type 0 where
  pub page : e.page < 2 ^ guest_page_bits
  pub frame : IsReachable blocks e.frame
  pub level : HasLevel e
  pub right : (e.r || e.x) ≡ true
  pub write : e.w ≡ true → e.r ≡ true

-- two entries are of different pages
abbrev pub HasOtherPage : Entry → Entry → Type 0
HasOtherPage a b = a.page ≢ b.page

-- the leaf that an entry stands for: of this one page, whatever the level of the leaf that it was filled from
abbrev pub leaf_of : Entry → LeafPte
leaf_of e = record { frame = e.frame; level = 0; r = e.r; w = e.w; x = e.x; u = true }

-- whether an entry is of the device page
abbrev pub is_device : Entry → Bool
is_device e = e.frame == device_frame

-- the place of an address under the entry of its page, if that permits the access and is not of the device
-- page
abbrev pub place_by : Bool → ℕ → Access → Option Entry → Option ℕ
place_by mxr address access None = None
place_by mxr address access (Some e) =
    if permits_second mxr access (leaf_of e) && not (is_device e)
    then Some (leaf_address (leaf_of e) address) else None

-- whether the access is on the device page under that entry
abbrev pub device_by : Bool → Access → Option Entry → Bool
device_by mxr access None = false
device_by mxr access (Some e) = permits_second mxr access (leaf_of e) && is_device e

-- the second stage by these entries alone, and which accesses are on the device page by them
unfoldable pub second_by : List Entry → Bool → SecondStage
second_by entries mxr address access = place_by mxr address access (entry_at (address / 4096) entries)

unfoldable pub device_by_entries : List Entry → Bool → ℕ → Access → Bool
device_by_entries entries mxr address access = device_by mxr access (entry_at (address / 4096) entries)
