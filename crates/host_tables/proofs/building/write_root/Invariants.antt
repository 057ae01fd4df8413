use Rattle.host_tables.specs.HostTable.{IsWrittenUpTo, root_word}
use Rattle.host_tables.proofs.building.write_root.Given as goal

abbrev pub invariant-loop-i : goal.invariant-loop-i
invariant-loop-i l = IsWrittenUpTo l.fn.root 4 l.i (root_word l.fn.table) l.fn.mem l.mem
