use Rattle.std.proofs.Common.{◌≡◌, ◌*◌, length, subst}
use Rattle.arch_defs.specs.Memory.{block_size}
use Rattle.guest_save.specs.Headers.{blocks_of}
use Rattle.machine_defs.specs.Machine.{Machine}
use Rattle.guest_turns.proofs.ShownBlocks.{whole_blocks}
use Rattle.guest_turns.proofs.memory_views.MemoryView.has_whole_blocks.Goals as goal

pub returns : goal.returns
returns c =
    subst (λ (m : Machine). length m.ram ≡ blocks_of m * block_size) c.self.view_is
    (whole_blocks c.self.inside.guest.now c.self.inside.memory.now c.self.invariant)
