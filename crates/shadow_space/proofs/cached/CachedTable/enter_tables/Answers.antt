use Rattle.std.proofs.Common.{arith, refl, ◌-◌}
use Rattle.shadow_space.specs.Trees.{top}
use Rattle.shadow_space.specs.Ways.{slot_of}
use Rattle.shadow_space.proofs.Passing.{enters_first, enters_next, passed_all, passes_none, passes_some, passes_word}
use Rattle.shadow_space.proofs.cached.CachedTable.enter_tables.Goals as goal

pub loop-level-init : goal.loop-level-init
loop-level-init c = enters_first c.args.tables.now c.args.self.now c.args.mem.now c.args.page c.requires.room c.requires.page c.requires.stands

pub overflow_mul-slot : goal.overflow_mul-slot
overflow_mul-slot c =
    let word = passes_word c.args.tables.now c.args.self.now c.args.mem.now c.args.page c.requires.room c.requires.page c.loop-level.self c.loop-level.mem c.loop-level.level (top - c.loop-level.level) c.loop-level.way c.loop-level.invariant c.loop-level.level (slot_of c.loop-level.level c.args.page) (omega arith) c.loop-level.invariant.stands.levels refl in
    omega (arith, word.small)

pub overflow_add-slot : goal.overflow_add-slot
overflow_add-slot c =
    let word = passes_word c.args.tables.now c.args.self.now c.args.mem.now c.args.page c.requires.room c.requires.page c.loop-level.self c.loop-level.mem c.loop-level.level (top - c.loop-level.level) c.loop-level.way c.loop-level.invariant c.loop-level.level c.slot_of.result (omega arith) c.loop-level.invariant.stands.levels c.slot_of.ensures.value in
    omega (arith, word.small, word.entry)

pub enter_table-requires-clause-doubleword : goal.enter_table-requires-clause-doubleword
enter_table-requires-clause-doubleword c =
    let word = passes_word c.args.tables.now c.args.self.now c.args.mem.now c.args.page c.requires.room c.requires.page c.loop-level.self c.loop-level.mem c.loop-level.level (top - c.loop-level.level) c.loop-level.way c.loop-level.invariant c.loop-level.level c.slot_of.result (omega arith) c.loop-level.invariant.stands.levels c.slot_of.ensures.value in
    record { inside = word.fits; small = omega (arith, word.small, word.entry) }

pub enter_table-requires-clause-some : goal.enter_table-requires-clause-some
enter_table-requires-clause-some c =
    passes_some c.args.tables.now c.args.self.now c.args.mem.now c.args.page c.requires.room c.requires.page c.loop-level.self c.loop-level.mem c.loop-level.level (top - c.loop-level.level) c.loop-level.way c.loop-level.invariant (c.loop-level.level - 1) c.slot_of.result
    (omega (arith, c.loop-level-test.true)) c.slot_of.ensures.value

pub enter_table-requires-clause-none : goal.enter_table-requires-clause-none
enter_table-requires-clause-none c = λ none.
    passes_none c.args.tables.now c.args.self.now c.args.mem.now c.args.page c.requires.room c.requires.page c.loop-level.self c.loop-level.mem c.loop-level.level (top - c.loop-level.level) c.loop-level.way c.loop-level.invariant (c.loop-level.level - 1) (omega (arith, c.loop-level-test.true))

pub loop-level-preserved : goal.loop-level-preserved
loop-level-preserved c =
    enters_next c.args.tables.now c.args.self.now c.args.mem.now c.args.page c.requires.room c.requires.page c.loop-level.self c.loop-level.mem c.loop-level.level (top - c.loop-level.level) c.loop-level.way c.loop-level.invariant (c.loop-level.level - 1) c.slot_of.result c.enter_table.result (top - (c.loop-level.level - 1)) c.enter_table.new.frames c.enter_table.new.mem
    (omega (arith, c.loop-level-test.true)) c.slot_of.ensures.value c.enter_table.ensures.held c.enter_table.ensures.frame c.enter_table.ensures.changed
    (omega (arith, c.loop-level-test.true, c.loop-level.invariant.stands.levels))

pub returns-clause-stands : goal.returns-clause-stands
returns-clause-stands c =
    passed_all c.args.tables.now c.args.self.now c.args.mem.now c.args.page c.requires.room c.requires.page c.loop-level.self c.loop-level.mem c.loop-level.level (top - c.loop-level.level) c.loop-level.way c.loop-level.invariant 0 (omega (arith, c.loop-level-test.false))
