-- Laws of pools.
use Rattle.std.specs.Prelude.{ℕ, ◌≡◌, ◌+◌, ◌-◌, ◌*◌, ◌%◌, ◌≤◌, ◌^◌, ◌&&◌, Bool, true, false, List, ◌∷◌, Some, None, length, nat_le, nat_lt, option_map}
use Rattle.arch_defs.specs.declared.second_walks.SecondWalkEnd.TheVariants.{GuestPageFault}
use Rattle.arch_defs.specs.declared.modes.Access.{Access}
use Rattle.arch_defs.specs.declared.roots.GuestRoot.{GuestRoot}
use Rattle.arch_defs.specs.declared.roots.GuestRoot.TheVariants as root
use Rattle.arch_defs.specs.Frames.{Apart, LieIn, Same, Within, in_blocks}
use Rattle.arch_defs.specs.Layouts.{Layout, host_frames, named_by}
use Rattle.arch_defs.specs.Memory.{ram_base, block_size, machine_memory}
use Rattle.arch_defs.specs.Ram.{host_place}
use Rattle.arch_defs.specs.Roots.{folded_mode}
use Rattle.arch_defs.specs.SecondStage.{second_under, second_walk}
use Rattle.arch_defs.specs.Spaces.{Space, entered, front}
use Rattle.arch_defs.specs.Walk.{guest_bits}
use Rattle.instruction_laws.specs.FrontSpaces.{FrontIs}
use Rattle.arch_defs.specs.CachedEntries.{device_by_entries, second_by}
use Rattle.shadow_pool.specs.Slots.{Pooled, TidyPool, front_root, pool_frames, room_of, spaces_of, table_frames_for}
use Rattle.shadow_space.specs.Trees.{folded_shape}

-- a pool stays tidy where the bytes of its own frames stay
abbrev pub TidyPoolLasts : Type 0
TidyPoolLasts = (pool : Pooled) (old new : List ℕ) → Same (pool_frames pool) old new → TidyPool pool old
    → TidyPool pool new

-- the second stage by the front table of a tidy pool is that by the entries of the front space, each place at
-- its place in the blocks of the guest's RAM. MXR is sstatus's
abbrev pub FrontGivesEntries : Type 0
FrontGivesEntries = (pool : Pooled) (memory : List ℕ) (first : Space) (others : List Space) (mxr : Bool)
    (vmid address : ℕ) (access : Access)
    → TidyPool pool memory → LieIn (in_blocks pool.part.blocks) (length memory)
    → spaces_of pool ≡ first ∷ others
    → second_under (machine_memory memory) mxr (root.Table folded_mode vmid (front_root pool.slots))
    address access
    ≡ option_map (λ place. host_place pool.part.blocks (place - ram_base))
    (second_by first.entries mxr address access)

-- and an access that these entries give no place, as one to the device page, is a guest-page fault, never an
-- access fault
abbrev pub FrontMissesAreGuestPageFaults : Type 0
FrontMissesAreGuestPageFaults = (pool : Pooled) (memory : List ℕ) (first : Space) (others : List Space)
    (mxr : Bool) (address : ℕ) (access : Access)
    → TidyPool pool memory → LieIn (in_blocks pool.part.blocks) (length memory)
    → spaces_of pool ≡ first ∷ others
    → second_by first.entries mxr address access ≡ None
    → second_walk (machine_memory memory) mxr folded_shape (front_root pool.slots) address access
    ≡ GuestPageFault

-- the places that they give are of the guest's RAM, with the offsets that the addresses have in pages
abbrev pub FrontGivesRam : Type 0
FrontGivesRam = (pool : Pooled) (memory : List ℕ) (first : Space) (others : List Space) (mxr : Bool)
    (address place : ℕ) (access : Access)
    → TidyPool pool memory → spaces_of pool ≡ first ∷ others
    → second_by first.entries mxr address access ≡ Some place
    → ((nat_le ram_base place && nat_lt place (ram_base + length pool.part.blocks * block_size)) ≡ true)
    × (place % 4096 ≡ address % 4096)

-- they are of guest physical addresses: no access at another address is on the device page by them
abbrev pub FarIsNotOnDevice : Type 0
FarIsNotOnDevice = (pool : Pooled) (memory : List ℕ) (mxr : Bool) (address : ℕ) (access : Access)
    → TidyPool pool memory → nat_lt address (2 ^ guest_bits) ≡ false
    → device_by_entries (front (spaces_of pool)) mxr address access ≡ false

-- the frames of that many spaces are of the part, apart from its RAM and from its host table
abbrev pub PoolLiesWithin : Layout → Type 0
PoolLiesWithin part = (count : ℕ) → count ≤ part.spaces → Within (table_frames_for part count) (named_by part)

abbrev pub RamIsApartFromSpaces : Layout → Type 0
RamIsApartFromSpaces part =
    (count : ℕ) → count ≤ part.spaces → Apart (in_blocks part.blocks) (table_frames_for part count)

abbrev pub HostIsApartFromSpaces : Layout → Type 0
HostIsApartFromSpaces part =
    (count : ℕ) → count ≤ part.spaces → Apart (host_frames part) (table_frames_for part count)

-- the space that was entered is in front
abbrev pub EnteredIsInFront : Type 0
EnteredIsInFront = (most : ℕ) (key : GuestRoot) (spaces : List Space) → 1 ≤ most
    → FrontIs key (entered most key spaces)

-- and no more happens where it is entered once more
abbrev pub FrontIsEnteredAgain : Type 0
FrontIsEnteredAgain = (pool : Pooled) (memory : List ℕ) (first : Space) (others : List Space)
    → TidyPool pool memory → spaces_of pool ≡ first ∷ others
    → entered (room_of pool) first.key (spaces_of pool) ≡ spaces_of pool
