use Rattle.std.proofs.Common.{ℕ, ◌<◌, length, slice_index, subst, sym}
use Rattle.arch_defs.specs.Memory.{block_size}
use Rattle.arch_defs.specs.Ram.{SlicesLieIn}
use Rattle.hosted_steps.proofs.Followed.{blocks_held}
use Rattle.guest_turns.proofs.Leaving.{own_blocks_small}
use Rattle.guest_turns.proofs.retirement.vacate.Goals as goal

pub zero_blocks-requires : goal.zero_blocks-requires
zero_blocks-requires c =
    subst (λ blocks. SlicesLieIn block_size blocks (length c.args.memory.now)) (sym c.blocks-2.ensures.value) (blocks_held c.args.guest.now.part c.args.memory.now c.requires.placed.held)

pub give-requires : goal.give-requires
give-requires c =
    subst (λ blocks. (i : ℕ) → i < length blocks → slice_index blocks i < 256) (sym c.blocks-3.ensures.value) (own_blocks_small c.args.guest.now.part c.args.memory.now c.requires.placed.held)
