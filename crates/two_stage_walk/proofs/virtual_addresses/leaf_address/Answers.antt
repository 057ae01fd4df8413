use Rattle.two_stage_walk.proofs.LeafAddresses.{address_fits, offset_is}
use Rattle.two_stage_walk.proofs.virtual_addresses.leaf_address.Goals as goal

pub returns-clause-offset : goal.returns-clause-offset
returns-clause-offset c = offset_is c.args.leaf.now.frame c.args.va c.args.leaf.now.level c.requires.level

pub returns-clause-small : goal.returns-clause-small
returns-clause-small c =
    address_fits c.args.leaf.now.frame c.args.va c.args.leaf.now.level c.requires.level c.requires.frame c.requires.aligned
