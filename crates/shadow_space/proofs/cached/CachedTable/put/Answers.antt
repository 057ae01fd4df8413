use Rattle.std.proofs.Common.{arith, refl, ◌%◌}
use Rattle.table_words.proofs.Words.{changed_then}
use Rattle.shadow_space.proofs.Putting.{entering, has_low, has_put_into}
use Rattle.shadow_space.proofs.cached.CachedTable.put.Goals as goal

pub enter_tables-way-requires : goal.enter_tables-way-requires
enter_tables-way-requires c = entering c.args.tables.now c.args.self.now c.args.mem.now c.args.entry c.requires

pub overflow_mul-way : goal.overflow_mul-way
overflow_mul-way c =
    let low = has_low c.args.tables.now c.args.self.now c.args.mem.now c.args.entry c.requires.holds c.requires.room c.requires.entry c.requires.others c.enter_tables-way.new.self c.enter_tables-way.new.mem c.enter_tables-way.result c.enter_tables-way.ensures.rest c.enter_tables-way.ensures.stands c.enter_tables-way.ensures.only (c.args.entry.page % 512) refl in
    omega (arith, low.small)

pub overflow_add-way : goal.overflow_add-way
overflow_add-way c =
    let low = has_low c.args.tables.now c.args.self.now c.args.mem.now c.args.entry c.requires.holds c.requires.room c.requires.entry c.requires.others c.enter_tables-way.new.self c.enter_tables-way.new.mem c.enter_tables-way.result c.enter_tables-way.ensures.rest c.enter_tables-way.ensures.stands c.enter_tables-way.ensures.only c.slot_of.result c.slot_of.ensures.value in
    omega (arith, low.small, low.entry)

pub set_word-requires-clause-inside : goal.set_word-requires-clause-inside
set_word-requires-clause-inside c =
    (has_low c.args.tables.now c.args.self.now c.args.mem.now c.args.entry c.requires.holds c.requires.room c.requires.entry c.requires.others c.enter_tables-way.new.self c.enter_tables-way.new.mem c.enter_tables-way.result c.enter_tables-way.ensures.rest c.enter_tables-way.ensures.stands c.enter_tables-way.ensures.only c.slot_of.result c.slot_of.ensures.value).fits

pub set_word-requires-clause-small : goal.set_word-requires-clause-small
set_word-requires-clause-small c =
    let low = has_low c.args.tables.now c.args.self.now c.args.mem.now c.args.entry c.requires.holds c.requires.room c.requires.entry c.requires.others c.enter_tables-way.new.self c.enter_tables-way.new.mem c.enter_tables-way.result c.enter_tables-way.ensures.rest c.enter_tables-way.ensures.stands c.enter_tables-way.ensures.only c.slot_of.result c.slot_of.ensures.value in
    omega (arith, low.small, low.entry)

pub overflow_sub-way : goal.overflow_sub-way
overflow_sub-way c =
    (has_low c.args.tables.now c.args.self.now c.args.mem.now c.args.entry c.requires.holds c.requires.room c.requires.entry c.requires.others c.enter_tables-way.new.self c.enter_tables-way.new.mem c.enter_tables-way.result c.enter_tables-way.ensures.rest c.enter_tables-way.ensures.stands c.enter_tables-way.ensures.only c.slot_of.result c.slot_of.ensures.value).from

pub set_place-requires-clause-small : goal.set_place-requires-clause-small
set_place-requires-clause-small c =
    (has_low c.args.tables.now c.args.self.now c.args.mem.now c.args.entry c.requires.holds c.requires.room c.requires.entry c.requires.others c.enter_tables-way.new.self c.enter_tables-way.new.mem c.enter_tables-way.result c.enter_tables-way.ensures.rest c.enter_tables-way.ensures.stands c.enter_tables-way.ensures.only c.slot_of.result c.slot_of.ensures.value).number

pub returns-clause-keeps : goal.returns-clause-keeps
returns-clause-keeps c =
    (has_put_into c.args.tables.now c.args.self.now c.args.mem.now c.args.entry c.requires.holds c.requires.room c.requires.entry c.requires.others c.enter_tables-way.new.self c.enter_tables-way.new.mem c.enter_tables-way.result c.enter_tables-way.ensures.rest c.enter_tables-way.ensures.stands c.enter_tables-way.ensures.only c.push.new.self c.set_place.new.self c.set_word.new.mem c.slot_of.result c.leaf_word-leaf.result c.len.result
    c.slot_of.ensures.value c.leaf_word-leaf.ensures c.leaf_word-leaf.type_inv c.len.ensures.value c.set_place.ensures c.set_word.ensures.memory c.push.ensures).keeps

pub returns-clause-holds : goal.returns-clause-holds
returns-clause-holds c =
    (has_put_into c.args.tables.now c.args.self.now c.args.mem.now c.args.entry c.requires.holds c.requires.room c.requires.entry c.requires.others c.enter_tables-way.new.self c.enter_tables-way.new.mem c.enter_tables-way.result c.enter_tables-way.ensures.rest c.enter_tables-way.ensures.stands c.enter_tables-way.ensures.only c.push.new.self c.set_place.new.self c.set_word.new.mem c.slot_of.result c.leaf_word-leaf.result c.len.result
    c.slot_of.ensures.value c.leaf_word-leaf.ensures c.leaf_word-leaf.type_inv c.len.ensures.value c.set_place.ensures c.set_word.ensures.memory c.push.ensures).list

pub returns-clause-changed : goal.returns-clause-changed
returns-clause-changed c =
    omega (
      arith,
      changed_then c.args.mem.now c.enter_tables-way.new.mem c.set_word.new.mem c.enter_tables-way.ensures.only.size,
      c.enter_tables-way.ensures.changed,
      c.set_word.ensures.changed,
    )
