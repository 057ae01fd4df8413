use Rattle.host_tables.specs.HostTable.{block_leaf_word}
use Rattle.host_tables.proofs.Entries.{written_more, table_fits}
use Rattle.host_tables.proofs.building.write_leaves.Goals as goal

pub loop-i-preserved : goal.loop-i-preserved
loop-i-preserved c =
    written_more c.args.part.now.first_table 1 c.loop-i.i c.block_leaf_word.result (block_leaf_word c.args.part.now.blocks) c.args.mem.now c.loop-i.mem c.set_word.new.mem
    (table_fits c.loop-i.i c.loop-i-test.true) c.requires.inside c.loop-i.invariant c.block_leaf_word.ensures c.block_leaf_word.type_inv
    (rw c.host_table-table.ensures.value at c.set_word.ensures.memory)
