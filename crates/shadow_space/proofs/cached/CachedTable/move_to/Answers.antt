use Rattle.std.proofs.Common.{arith, refl}
use Rattle.shadow_space.specs.Leaves.{leaf_word}
use Rattle.shadow_space.proofs.Refolding.{leaf_place, refolded, refolds_next, refolds_none}
use Rattle.shadow_space.proofs.cached.CachedTable.move_to.Goals as goal

pub loop-i-init : goal.loop-i-init
loop-i-init c =
    refolds_none c.args.tables.now c.args.self.now.part.blocks c.args.part.now.blocks c.args.self.now.most c.args.self.now.entries c.args.self.now.frames c.args.mem.now c.requires.holds c.requires.number

pub write_leaf-requires-clause-inside : goal.write_leaf-requires-clause-inside
write_leaf-requires-clause-inside c =
    (leaf_place c.args.tables.now c.args.self.now.part.blocks c.args.part.now.blocks c.args.self.now.most c.args.self.now.entries c.args.self.now.frames c.args.mem.now c.requires.holds c.requires.number
    c.loop-i.i c.loop-i.mem c.loop-i.invariant (omega (arith, c.loop-i-test.true, c.len-i-end.ensures.value)) c.at-entry.result c.at-entry.ensures c.place.result c.place.ensures).fits

pub write_leaf-requires-clause-small : goal.write_leaf-requires-clause-small
write_leaf-requires-clause-small c =
    (leaf_place c.args.tables.now c.args.self.now.part.blocks c.args.part.now.blocks c.args.self.now.most c.args.self.now.entries c.args.self.now.frames c.args.mem.now c.requires.holds c.requires.number
    c.loop-i.i c.loop-i.mem c.loop-i.invariant (omega (arith, c.loop-i-test.true, c.len-i-end.ensures.value)) c.at-entry.result c.at-entry.ensures c.place.result c.place.ensures).small

pub loop-i-preserved : goal.loop-i-preserved
loop-i-preserved c =
    refolds_next c.args.tables.now c.args.self.now.part.blocks c.args.part.now.blocks c.args.self.now.most c.args.self.now.entries c.args.self.now.frames c.args.mem.now c.requires.holds c.requires.number
    c.loop-i.i c.loop-i.mem c.loop-i.invariant (omega (arith, c.loop-i-test.true, c.len-i-end.ensures.value)) c.at-entry.result c.at-entry.ensures c.place.result c.place.ensures
    (leaf_word c.args.part.now.blocks c.at-entry.result) refl c.write_leaf.ensures.word c.write_leaf.new.mem c.write_leaf.ensures.memory

pub returns-clause-holds : goal.returns-clause-holds
returns-clause-holds c =
    refolded c.args.tables.now c.args.self.now.part.blocks c.args.part.now.blocks c.args.self.now.most c.args.self.now.entries c.args.self.now.frames c.args.mem.now c.requires.holds c.requires.number
    c.loop-i.i c.loop-i.mem c.loop-i.invariant (omega (arith, c.loop-i-test.false, c.len-i-end.ensures.value))
