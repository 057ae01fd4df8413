use Rattle.host_tables.specs.HostTable.{root_word}
use Rattle.host_tables.proofs.Entries.{written_more, root_fits}
use Rattle.host_tables.proofs.building.write_root.Goals as goal

pub loop-i-preserved : goal.loop-i-preserved
loop-i-preserved c =
    written_more c.args.root 4 c.loop-i.i c.root_word.result (root_word c.args.table) c.args.mem.now c.loop-i.mem c.set_word.new.mem
    (root_fits c.loop-i.i c.loop-i-test.true) c.requires.inside c.loop-i.invariant c.root_word.ensures c.root_word.type_inv c.set_word.ensures.memory
