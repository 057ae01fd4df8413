use Rattle.host_tables.proofs.Walking.{walks_to_ram}
use Rattle.host_tables.proofs.laws.walks_to_ram.Goals as goal

pub returns : goal.returns
returns c =
    walks_to_ram c.args.part.now (rw c.blocks-2.ensures.value at c.blocks-2.ensures.few) (rw c.host_table.ensures.value at c.host_table.ensures.small)
    (rw c.blocks-2.ensures.value at c.blocks-2.ensures.small)
