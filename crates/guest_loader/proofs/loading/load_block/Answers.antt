use Rattle.std.proofs.Common.{◌*◌, ◌∙◌, ap, arith}
use Rattle.arch_defs.specs.Memory.{block_size, pasted}
use Rattle.arch_defs.specs.Ram.{ram_of}
use Rattle.guest_loader.proofs.Blocks.{block_done, block_fits, only_block}
use Rattle.guest_loader.proofs.loading.load_block.Goals as goal

pub copy_in-requires : goal.copy_in-requires
copy_in-requires c =
    rw c.place_of.ensures
    (omega (arith, c.piece_of-piece.ensures.short, block_fits c.args.part.now.blocks c.args.mem.now c.args.i c.requires.inside c.requires.block))

pub returns-clause-ram : goal.returns-clause-ram
returns-clause-ram c =
    block_done c.args.part.now.blocks c.args.mem.now c.copy_in.new.self c.piece_of-piece.result.now c.args.i c.requires.inside
    c.names_each_once.ensures.distinct c.requires.block c.piece_of-piece.ensures.short (rw (← c.place_of.ensures) c.copy_in.ensures)
    ∙ ap (pasted (ram_of c.args.part.now.blocks c.args.mem.now) (c.args.i * block_size)) c.piece_of-piece.ensures.piece

pub returns-clause-only : goal.returns-clause-only
returns-clause-only c =
    only_block c.args.part.now.blocks c.args.mem.now c.copy_in.new.self c.piece_of-piece.result.now c.args.i c.requires.inside c.requires.block
    c.piece_of-piece.ensures.short (rw (← c.place_of.ensures) c.copy_in.ensures)
