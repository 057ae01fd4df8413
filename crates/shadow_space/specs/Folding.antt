-- The folded table: what its walk gives.
use Rattle.std.specs.Prelude.{ℕ, ◌≡◌, ◌/◌, true, false, not, ◌&&◌, List, [], ◌∷◌, Option, Some, None, Ok, if◌then◌else◌}
use Rattle.arch_defs.specs.declared.cached.Entry.{Entry}
use Rattle.arch_defs.specs.declared.modes.Access.{Access}
use Rattle.arch_defs.specs.declared.walks.Pte.{Pte}
use Rattle.arch_defs.specs.declared.walks.WalkEnd.{WalkEnd}
use Rattle.arch_defs.specs.declared.walks.WalkEnd.TheVariants.{Leaf, PageFault}
use Rattle.arch_defs.specs.Frames.{Frames}
use Rattle.arch_defs.specs.TableEntries.{needs_dirty, pte_of}
use Rattle.arch_defs.specs.Walk.{EntryReading, Met, path, walk}
use Rattle.arch_defs.specs.CachedEntries.{entry_at, is_device}
use Rattle.shadow_space.specs.Leaves.{frame_of_ram, leaf_parts}
use Rattle.shadow_space.specs.Reaching.{FreeAreZeros}
use Rattle.shadow_space.specs.Shadows.{Shadow, Tidy, own_frames, root_of}
use Rattle.shadow_space.specs.Trees.{folded_shape}
use Rattle.table_words.specs.Entries.{ReadsIn}

-- the places of these entries lie in these frames
abbrev pub LieWithin : Frames → List Met → Type 0
LieWithin frames [] = Unit {0}
LieWithin frames (m ∷ ms) = (frames (m.place / 4096) ≡ true) × LieWithin frames ms

-- the walk's end for an entry: a leaf of 4 KiB with the host's frame and the entry's permissions. D is set
-- where it can be written, so a store to another one is a page fault, and so is each access without an entry,
-- or with one of the device page
abbrev pub leaf_end : List ℕ → Access → Option Entry → WalkEnd
leaf_end blocks access None = PageFault
leaf_end blocks access (Some e) =
    if is_device e then PageFault
    else if needs_dirty access && not e.w then PageFault
    else Leaf (frame_of_ram blocks e.frame) 0 e.r e.w e.x true

-- the last of these entries is one of the last level, and reads so
abbrev pub LastIs : Pte → List Met → Type 0
LastIs e [] = ⊥
LastIs e (m ∷ []) = (m.level ≡ 0) × ((word : ℕ) × (m.read ≡ Ok word) × (pte_of word ≡ e))
LastIs e (m ∷ (n ∷ ms)) = LastIs e (n ∷ ms)

-- whatever reads the space's own frames as memory has them, the walk gives each address the leaf of its
-- page's entry, and none where there is no entry, or one of the device page. That leaf is the last entry that
-- it meets, and each lies in these frames
pub record Folded (space : Shadow) (memory : List ℕ) : Type 0 where
  pub walks : (reading : EntryReading) (va : ℕ) (access : Access) → ReadsIn (own_frames space) memory reading
      → walk reading (root_of space) folded_shape va access
      ≡ leaf_end space.part.blocks access (entry_at (va / 4096) space.entries)
  pub leaf : (reading : EntryReading) (va : ℕ) (access : Access) (e : Entry)
      → ReadsIn (own_frames space) memory reading → entry_at (va / 4096) space.entries ≡ Some e
      → is_device e ≡ false
      → LastIs (leaf_parts space.part.blocks e) (path reading (root_of space) folded_shape va access)
  pub inside : (reading : EntryReading) (va : ℕ) (access : Access)
      → ReadsIn (own_frames space) memory reading
      → LieWithin (own_frames space) (path reading (root_of space) folded_shape va access)

-- memory has a space's table: it is tidy, it gives the entries, and the frames that it has no use for are
-- zeros
pub record FoldedSpace (space : Shadow) (memory : List ℕ) : Type 0 where
  pub tidy : Tidy space memory
  pub folded : Folded space memory
  pub zeros : FreeAreZeros space memory
