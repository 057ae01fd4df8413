use Rattle.shadow_pool.proofs.Making.{no_spaces, spare_first, spare_pooled, spare_tidy_pool}
use Rattle.shadow_pool.proofs.pools.Pool.new.Goals as goal

pub invariant_of-result : goal.invariant_of-result
invariant_of-result c = spare_pooled c.args.part.now c.args.entries c.args.spaces c.in_ok-slots.slots.items c.in_ok-slots.ensures c.requires.some c.requires.own c.names_each_once.ensures

pub returns-clause-part : goal.returns-clause-part
returns-clause-part c = (spare_first c.args.part.now c.args.entries c.args.spaces c.in_ok-slots.slots.items c.in_ok-slots.ensures c.requires.some c.requires.own c.names_each_once.ensures).0

pub returns-clause-most : goal.returns-clause-most
returns-clause-most c = (spare_first c.args.part.now c.args.entries c.args.spaces c.in_ok-slots.slots.items c.in_ok-slots.ensures c.requires.some c.requires.own c.names_each_once.ensures).1

pub returns-clause-empty : goal.returns-clause-empty
returns-clause-empty c = no_spaces c.args.part.now c.args.entries c.args.spaces c.in_ok-slots.slots.items c.in_ok-slots.ensures

pub returns-clause-tidy : goal.returns-clause-tidy
returns-clause-tidy c = spare_tidy_pool c.args.part.now c.args.entries c.args.spaces c.in_ok-slots.slots.items c.in_ok-slots.ensures c.requires.some c.requires.own c.names_each_once.ensures
