-- Laws of folded tables.
use Rattle.std.specs.Prelude.{ℕ, ◌≡◌, ◌≢◌, ◌+◌, ◌-◌, ◌*◌, ◌%◌, ◌<◌, ◌&&◌, Bool, true, List, Some, None, length, nat_le, nat_lt, option_map}
use Rattle.arch_defs.specs.declared.second_walks.SecondWalkEnd.TheVariants.{GuestPageFault}
use Rattle.arch_defs.specs.declared.modes.Access.{Access}
use Rattle.arch_defs.specs.declared.roots.GuestRoot.TheVariants as root
use Rattle.arch_defs.specs.Frames.{Apart, Frames, LieIn, Same, Within, in_blocks}
use Rattle.arch_defs.specs.Layouts.{Layout, host_frames, named_by, space_frames}
use Rattle.arch_defs.specs.Memory.{ram_base, block_size, machine_memory, zeros}
use Rattle.arch_defs.specs.Ram.{host_place}
use Rattle.arch_defs.specs.Roots.{folded_mode}
use Rattle.arch_defs.specs.SecondStage.{second_under, second_walk}
use Rattle.arch_defs.specs.CachedEntries.{second_by}
use Rattle.shadow_space.specs.Folding.{Folded}
use Rattle.shadow_space.specs.Shadows.{AreZeros, Shadow, Tidy, own_frames, root_of}
use Rattle.shadow_space.specs.Trees.{folded_shape}

-- a space stays tidy where the bytes of its own frames stay
abbrev pub TidyLasts : Type 0
TidyLasts = (space : Shadow) (old new : List ℕ) → Same (own_frames space) old new → Tidy space old
    → Tidy space new

-- a tidy space is folded
abbrev pub TidyIsFolded : Type 0
TidyIsFolded = (space : Shadow) (memory : List ℕ) → Tidy space memory → Folded space memory

-- the second stage by a tidy space's table is that by its entries, each place at its place in the blocks of
-- the guest's RAM. MXR is sstatus's
abbrev pub GivesEntries : Type 0
GivesEntries = (space : Shadow) (memory : List ℕ) (mxr : Bool) (vmid address : ℕ) (access : Access)
    → Tidy space memory → LieIn (in_blocks space.part.blocks) (length memory)
    → second_under (machine_memory memory) mxr (root.Table folded_mode vmid (root_of space)) address access
    ≡ option_map (λ place. host_place space.part.blocks (place - ram_base))
    (second_by space.entries mxr address access)

-- and an access that the entries give no place, as one to the device page, is a guest-page fault, never an
-- access fault
abbrev pub MissesAreGuestPageFaults : Type 0
MissesAreGuestPageFaults = (space : Shadow) (memory : List ℕ) (mxr : Bool) (address : ℕ) (access : Access)
    → Tidy space memory → LieIn (in_blocks space.part.blocks) (length memory)
    → second_by space.entries mxr address access ≡ None
    → second_walk (machine_memory memory) mxr folded_shape (root_of space) address access ≡ GuestPageFault

-- the places that the entries give are of the guest's RAM, with the offsets that the addresses have in pages
abbrev pub EntriesGiveRam : Type 0
EntriesGiveRam = (space : Shadow) (memory : List ℕ) (mxr : Bool) (address place : ℕ) (access : Access)
    → Tidy space memory → second_by space.entries mxr address access ≡ Some place
    → ((nat_le ram_base place && nat_lt place (ram_base + length space.part.blocks * block_size)) ≡ true)
    × (place % 4096 ≡ address % 4096)

-- the frames of a part's spaces are of the part, apart from its RAM, its host table and each other
abbrev pub SpacesLieWithin : Layout → Type 0
SpacesLieWithin part = (i : ℕ) → i < part.spaces → Within (space_frames part i) (named_by part)

abbrev pub RamIsApart : Layout → Type 0
RamIsApart part = (i : ℕ) → i < part.spaces → Apart (in_blocks part.blocks) (space_frames part i)

abbrev pub HostFramesAreApart : Layout → Type 0
HostFramesAreApart part = (i : ℕ) → i < part.spaces → Apart (host_frames part) (space_frames part i)

abbrev pub SpacesAreApart : Layout → Type 0
SpacesAreApart part = (i j : ℕ) → i < part.spaces → j < part.spaces → i ≢ j
    → Apart (space_frames part i) (space_frames part j)

-- frames are zeros where they are as they were in memory of zeros
abbrev pub UntouchedAreZeros : Type 0
UntouchedAreZeros = (frames : Frames) (size : ℕ) (memory : List ℕ) → Same frames (zeros size) memory
    → AreZeros frames memory
