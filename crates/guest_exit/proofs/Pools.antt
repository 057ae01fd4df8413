-- The frames of a guest's part: what a change of its blocks or of its spaces' tables leaves as it is.
use Rattle.std.proofs.Common.{◌≡◌, ℕ, ◌*◌, ◌≤◌, List, length, refl, subst}
use Rattle.arch_defs.specs.Frames.{Apart, Only, Within, in_blocks, joined}
use Rattle.arch_defs.specs.Layouts.{Layout, NamesEachOnce, host_frames, in_tables, named_by}
use Rattle.arch_defs.specs.Memory.{block_size}
use Rattle.arch_defs.specs.Ram.{ram_of}
use Rattle.arch_defs.proofs.FrameSets.{apart_sym, joined_within, kept, left_within}
use Rattle.arch_defs.proofs.Naming.{apart_joined}
use Rattle.arch_defs.proofs.RamBlocks.{ram_kept, ram_length}
use Rattle.host_tables.specs.Walks.{IsHeld}
use Rattle.hosted_steps.proofs.Followed.{blocks_held}
use Rattle.host_tables.proofs.Held.{held_stays, host_apart_from_blocks}
use Rattle.shadow_pool.specs.Slots.{Pooled, TidyPool, pool_frames, room_of, table_frames_for}
use Rattle.shadow_pool.proofs.Apart.{host_apart, pool_within, ram_apart}
use Rattle.shadow_pool.proofs.Front.{pool_lasts}

pub size_of : (part : Layout) (memory : List ℕ) → IsHeld part memory → length (ram_of part.blocks memory) ≡ length part.blocks * block_size
size_of part memory held = ram_length part.blocks memory (blocks_held part memory held)

-- the frames of a pool of the part are not frames of its RAM, nor of its host table
pub pool_apart : (part : Layout) (pool : Pooled) (memory : List ℕ) → NamesEachOnce part → pool.part ≡ part → TidyPool pool memory
    → Apart (in_blocks part.blocks) (pool_frames pool) × Apart (host_frames part) (pool_frames pool)
pool_apart part pool memory once own tidy =
    let few : room_of pool ≤ part.spaces = rw (← own) tidy.slots.own in
    let frames : table_frames_for part (room_of pool) ≡ pool_frames pool = rw own refl in (
      subst (Apart (in_blocks part.blocks)) frames (ram_apart part once (room_of pool) few),
      subst (Apart (host_frames part)) frames (host_apart part once (room_of pool) few),
    )

-- a pool is tidy after a change of the blocks
pub tidy_by_blocks : (part : Layout) (pool : Pooled) (old new : List ℕ) → NamesEachOnce part → pool.part ≡ part → TidyPool pool old → Only (in_blocks part.blocks) old new
    → TidyPool pool new
tidy_by_blocks part pool old new once own tidy only =
    let apart = (pool_apart part pool old once own tidy).0 in
    pool_lasts pool old new (kept (pool_frames pool) (in_blocks part.blocks) old new (apart_sym (in_blocks part.blocks) (pool_frames pool) apart) only) tidy

-- RAM is as it was after a change of the pool's tables
pub ram_by_pool : (part : Layout) (pool : Pooled) (old new : List ℕ) → NamesEachOnce part → pool.part ≡ part → TidyPool pool old → IsHeld part old → Only (pool_frames pool) old new
    → ram_of part.blocks new ≡ ram_of part.blocks old
ram_by_pool part pool old new once own tidy held only =
    ram_kept part.blocks old new (blocks_held part old held) (kept (in_blocks part.blocks) (pool_frames pool) old new (pool_apart part pool old once own tidy).0 only)

-- the part is held after any change of the blocks and the pool's tables
pub held_after : (part : Layout) (pool : Pooled) (old new : List ℕ) → NamesEachOnce part → pool.part ≡ part → TidyPool pool old → IsHeld part old
    → Only (joined (in_blocks part.blocks) (pool_frames pool)) old new → IsHeld part new
held_after part pool old new once own tidy held only =
    held_stays part old new (kept (host_frames part) (joined (in_blocks part.blocks) (pool_frames pool)) old new
    (apart_joined (host_frames part) (in_blocks part.blocks) (pool_frames pool) (host_apart_from_blocks part once) (pool_apart part pool old once own tidy).1) only) held

-- all these frames are of the part
pub pool_in_part : (part : Layout) (pool : Pooled) (memory : List ℕ) → pool.part ≡ part → TidyPool pool memory → Within (pool_frames pool) (named_by part)
pool_in_part part pool memory own tidy =
    let few : room_of pool ≤ part.spaces = rw (← own) tidy.slots.own in
    let frames : table_frames_for part (room_of pool) ≡ pool_frames pool = rw own refl in
    subst (λ frames. Within frames (named_by part)) frames (pool_within part (room_of pool) few)

pub changes_within : (part : Layout) (pool : Pooled) (memory : List ℕ) → pool.part ≡ part → TidyPool pool memory → Within (joined (in_blocks part.blocks) (pool_frames pool)) (named_by part)
changes_within part pool memory own tidy =
    joined_within (in_blocks part.blocks) (pool_frames pool) (named_by part) (left_within (in_blocks part.blocks) (in_tables part)) (pool_in_part part pool memory own tidy)
