use Rattle.host_tables.proofs.Entries.{root_room, table_room, root_stays}
use Rattle.host_tables.proofs.building.build.Goals as goal

pub write_root-requires-clause-inside : goal.write_root-requires-clause-inside
write_root-requires-clause-inside c = rw c.host_root.ensures.value (root_room c.args.part.now _ c.requires.inside)

pub write_leaves-requires-clause-inside : goal.write_leaves-requires-clause-inside
write_leaves-requires-clause-inside c = rw c.write_root.ensures.only.size (table_room c.args.part.now _ c.requires.inside)

pub returns-clause-table : goal.returns-clause-table
returns-clause-table c = record {
  root = root_stays c.args.part.now c.write_root.new.mem c.write_leaves.new.mem c.names_each_once.ensures
      (rw (c.host_root.ensures.value, c.host_table.ensures.value) at c.write_root.ensures.entries) c.write_leaves.ensures.only;
  leaves = c.write_leaves.ensures.entries;
}
