use Rattle.std.proofs.Common.{arith}
use Rattle.arch_defs.specs.Memory.{block_size, zeros}
use Rattle.arch_defs.proofs.Images.{length_zeros}
use Rattle.guest_loader.proofs.Blocks.{block_done, block_fits, only_block}
use Rattle.guest_loader.proofs.loading.clear_block.Goals as goal

pub clear-requires : goal.clear-requires
clear-requires c = rw c.place_of.ensures (block_fits c.args.part.now.blocks c.args.mem.now c.args.i c.requires.inside c.requires.block)

pub returns-clause-ram : goal.returns-clause-ram
returns-clause-ram c =
    block_done c.args.part.now.blocks c.args.mem.now c.clear.new.self (zeros block_size) c.args.i c.requires.inside
    c.names_each_once.ensures.distinct c.requires.block (omega (arith, length_zeros block_size)) (rw (← c.place_of.ensures) c.clear.ensures)

pub returns-clause-only : goal.returns-clause-only
returns-clause-only c =
    only_block c.args.part.now.blocks c.args.mem.now c.clear.new.self (zeros block_size) c.args.i c.requires.inside c.requires.block
    (omega (arith, length_zeros block_size)) (rw (← c.place_of.ensures) c.clear.ensures)
