-- A guest in machine memory, while it runs and while another one does.
use Rattle.std.proofs.Common.{◌≡◌, ℕ, List, length, ap, subst, sym, ◌∙◌, refl}
use Rattle.arch_defs.specs.Frames.{Only, Same, in_blocks, joined}
use Rattle.arch_defs.specs.Layouts.{Layout, host_frames, in_tables, named_by}
use Rattle.arch_defs.specs.Memory.{block_size}
use Rattle.arch_defs.specs.Ram.{SlicesLieIn, ram_of}
use Rattle.arch_defs.proofs.FrameSets.{left_within, only_both, only_more, same_fewer}
use Rattle.arch_defs.proofs.RamBlocks.{ram_kept}
use Rattle.fill_laws.specs.Keeping.{IsOrderly}
use Rattle.host_tables.proofs.Held.{held_stays, host_in_part}
use Rattle.run_laws.specs.Reservations.{CachesInRam}
use Rattle.shadow_pool.specs.Slots.{pool_frames, room_of, table_frames_for}
use Rattle.shadow_pool.proofs.Front.{pool_lasts}
use Rattle.guest_exit.specs.declared.guests.Guest.{Guest}
use Rattle.guest_exit.specs.View.{IsPlaced, KeepsLayout, changed_by, machine_of}
use Rattle.hosted_steps.proofs.Followed.{blocks_held}
use Rattle.guest_exit.proofs.Pools.{changes_within, pool_in_part}
use Rattle.guest_turns.specs.Hosting.{IsHosted}

-- what is seen of a part whose frames are the same is the same
pub part_ram_kept : (part : Layout) (old new : List ℕ) → Same (named_by part) old new → SlicesLieIn block_size part.blocks (length old)
    → ram_of part.blocks new ≡ ram_of part.blocks old
part_ram_kept part old new same lie =
    ram_kept part.blocks old new lie (same_fewer (in_blocks part.blocks) (named_by part) old new (left_within (in_blocks part.blocks) (in_tables part)) same)

-- a guest whose part is the same is hosted as before
pub machine_kept : (guest : Guest) (old new : List ℕ) → Same (named_by guest.part) old new → IsHosted guest old → machine_of guest new ≡ machine_of guest old
machine_kept guest old new same hosted =
    ap (λ ram. record (machine_of guest old) { ram = ram }) (part_ram_kept guest.part old new same (blocks_held guest.part old hosted.placed.held))

pub hosted_kept : (guest : Guest) (old new : List ℕ) → Same (named_by guest.part) old new → IsHosted guest old → IsHosted guest new
hosted_kept guest old new same hosted =
    let at = hosted.placed in
    let machine = machine_kept guest old new same hosted in
    record {
      placed = record {
        once = at.once;
        held = held_stays guest.part old new (same_fewer (host_frames guest.part) (named_by guest.part) old new (host_in_part guest.part) same) at.held;
        ram = refl;
        reserved = at.reserved;
        own = at.own;
        tidy = pool_lasts guest.pool old new (same_fewer (pool_frames guest.pool) (named_by guest.part) old new (pool_in_part guest.part guest.pool old at.own at.tidy) same) at.tidy;
        spaces = refl;
        space_room = refl;
        entry_room = refl;
        caches = subst CachesInRam (sym machine) at.caches;
        devices = at.devices;
        orderly = subst IsOrderly (sym machine) at.orderly;
        storable = at.storable;
      };
      clock = hosted.clock;
      current = hosted.current;
    }

-- steps of a guest change no frame outside its part
pub only_in_part : (guest : Guest) (old new : List ℕ) → IsPlaced guest old → Only (changed_by guest) old new → Only (named_by guest.part) old new
only_in_part guest old new at only =
    only_more (changed_by guest) (named_by guest.part) old new (changes_within guest.part guest.pool old at.own at.tidy) only

-- one change after another
pub fixed_both : (old between new : Guest) → KeepsLayout old between → KeepsLayout between new → KeepsLayout old new
fixed_both old between new first second = record {
  part = second.part ∙ first.part;
  device = second.device ∙ first.device;
  pool = second.pool ∙ first.pool;
  entry_room = second.entry_room ∙ first.entry_room;
  space_room = second.space_room ∙ first.space_room;
}

-- the same frames may change
pub same_changed : (old new : Guest) → KeepsLayout old new → changed_by new ≡ changed_by old
same_changed old new fixed =
    ap (λ part. joined (in_blocks part.blocks) (pool_frames new.pool)) fixed.part
    ∙ ap (λ part. joined (in_blocks old.part.blocks) (table_frames_for part (room_of new.pool))) fixed.pool
    ∙ ap (λ count. joined (in_blocks old.part.blocks) (table_frames_for old.pool.part count)) fixed.space_room

pub only_then : (old between new : Guest) (memory changed last : List ℕ) → KeepsLayout old between → Only (changed_by old) memory changed
    → Only (changed_by between) changed last → Only (changed_by old) memory last
only_then old between new memory changed last fixed first second =
    only_both (changed_by old) memory changed last first (subst (λ frames. Only frames changed last) (same_changed old between fixed) second)
