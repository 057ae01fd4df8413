use Rattle.std.proofs.Common.{ap, refl, slice_index}
use Rattle.block_moves.specs.Moves.{block_copied}
use Rattle.block_moves.proofs.Blocks.{once_with}
use Rattle.block_moves.proofs.Stages.{here_fits, here_zeros, is_held, moved_lies', only_these, same_ram, spaces_stay, there_fits}
use Rattle.block_moves.proofs.moving.move_block.Goals as goal

pub with_block-moved-requires-clause-once : goal.with_block-moved-requires-clause-once
with_block-moved-requires-clause-once c = once_with c.args.part.now c.args.i c.args.to c.names_each_once.ensures c.requires.index c.requires.free

pub carry-requires-clause-from : goal.carry-requires-clause-from
carry-requires-clause-from c =
    here_fits c.args.part.now c.with_block-moved.result c.args.pool.now c.args.i c.args.to (slice_index c.blocks-2.result.now c.args.i) c.args.mem.now c.names_each_once.ensures c.with_block-moved.ensures (ap (λ blocks. slice_index blocks c.args.i) c.blocks-2.ensures.value) c.requires.held c.requires.own c.requires.tidy c.requires.index c.requires.free c.requires.lies

pub carry-requires-clause-to : goal.carry-requires-clause-to
carry-requires-clause-to c =
    there_fits c.args.part.now c.with_block-moved.result c.args.pool.now c.args.i c.args.to (slice_index c.blocks-2.result.now c.args.i) c.args.mem.now c.names_each_once.ensures c.with_block-moved.ensures (ap (λ blocks. slice_index blocks c.args.i) c.blocks-2.ensures.value) c.requires.held c.requires.own c.requires.tidy c.requires.index c.requires.free c.requires.lies

pub build-requires-clause-inside : goal.build-requires-clause-inside
build-requires-clause-inside c =
    moved_lies' c.args.part.now c.with_block-moved.result c.args.pool.now c.args.i c.args.to (slice_index c.blocks-2.result.now c.args.i) c.args.mem.now c.names_each_once.ensures c.with_block-moved.ensures (ap (λ blocks. slice_index blocks c.args.i) c.blocks-2.ensures.value) c.requires.held c.requires.own c.requires.tidy c.requires.index c.requires.free c.requires.lies
    (block_copied (slice_index c.blocks-2.result.now c.args.i) c.args.to c.args.mem.now) refl c.carry.new.mem c.carry.ensures

pub moved-requires-clause-tidy : goal.moved-requires-clause-tidy
moved-requires-clause-tidy c =
    spaces_stay c.args.part.now c.with_block-moved.result c.args.pool.now c.args.i c.args.to (slice_index c.blocks-2.result.now c.args.i) c.args.mem.now c.names_each_once.ensures c.with_block-moved.ensures (ap (λ blocks. slice_index blocks c.args.i) c.blocks-2.ensures.value) c.requires.held c.requires.own c.requires.tidy c.requires.index c.requires.free c.requires.lies
    (block_copied (slice_index c.blocks-2.result.now c.args.i) c.args.to c.args.mem.now) refl c.carry.new.mem c.carry.ensures c.build.new.mem c.build.ensures.table c.build.ensures.only

pub returns-clause-held : goal.returns-clause-held
returns-clause-held c =
    is_held c.args.part.now c.with_block-moved.result c.args.pool.now c.args.i c.args.to (slice_index c.blocks-2.result.now c.args.i) c.args.mem.now c.names_each_once.ensures c.with_block-moved.ensures (ap (λ blocks. slice_index blocks c.args.i) c.blocks-2.ensures.value) c.requires.held c.requires.own c.requires.tidy c.requires.index c.requires.free c.requires.lies
    (block_copied (slice_index c.blocks-2.result.now c.args.i) c.args.to c.args.mem.now) refl c.carry.new.mem c.carry.ensures c.build.new.mem c.build.ensures.table c.build.ensures.only c.moved.new.mem c.moved.ensures.only

pub returns-clause-ram : goal.returns-clause-ram
returns-clause-ram c =
    same_ram c.args.part.now c.with_block-moved.result c.args.pool.now c.args.i c.args.to (slice_index c.blocks-2.result.now c.args.i) c.args.mem.now c.names_each_once.ensures c.with_block-moved.ensures (ap (λ blocks. slice_index blocks c.args.i) c.blocks-2.ensures.value) c.requires.held c.requires.own c.requires.tidy c.requires.index c.requires.free c.requires.lies
    (block_copied (slice_index c.blocks-2.result.now c.args.i) c.args.to c.args.mem.now) refl c.carry.new.mem c.carry.ensures c.build.new.mem c.build.ensures.table c.build.ensures.only c.moved.new.mem c.moved.ensures.only

pub returns-clause-zeros : goal.returns-clause-zeros
returns-clause-zeros c =
    here_zeros c.args.part.now c.with_block-moved.result c.args.pool.now c.args.i c.args.to (slice_index c.blocks-2.result.now c.args.i) c.args.mem.now c.names_each_once.ensures c.with_block-moved.ensures (ap (λ blocks. slice_index blocks c.args.i) c.blocks-2.ensures.value) c.requires.held c.requires.own c.requires.tidy c.requires.index c.requires.free c.requires.lies
    (block_copied (slice_index c.blocks-2.result.now c.args.i) c.args.to c.args.mem.now) refl c.carry.new.mem c.carry.ensures c.build.new.mem c.build.ensures.table c.build.ensures.only c.moved.new.mem c.moved.ensures.only

pub returns-clause-only : goal.returns-clause-only
returns-clause-only c =
    only_these c.args.part.now c.with_block-moved.result c.args.pool.now c.args.i c.args.to (slice_index c.blocks-2.result.now c.args.i) c.args.mem.now c.names_each_once.ensures c.with_block-moved.ensures (ap (λ blocks. slice_index blocks c.args.i) c.blocks-2.ensures.value) c.requires.held c.requires.own c.requires.tidy c.requires.index c.requires.free c.requires.lies
    (block_copied (slice_index c.blocks-2.result.now c.args.i) c.args.to c.args.mem.now) refl c.carry.new.mem c.carry.ensures c.build.new.mem c.build.ensures.table c.build.ensures.only c.moved.new.mem c.moved.ensures.only
