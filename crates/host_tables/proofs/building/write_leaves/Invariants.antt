use Rattle.host_tables.specs.HostTable.{IsWrittenUpTo, block_leaf_word}
use Rattle.host_tables.proofs.building.write_leaves.Given as goal

abbrev pub invariant-loop-i : goal.invariant-loop-i
invariant-loop-i l = IsWrittenUpTo l.fn.part.first_table 1 l.i (block_leaf_word l.fn.part.blocks) l.fn.mem l.mem
