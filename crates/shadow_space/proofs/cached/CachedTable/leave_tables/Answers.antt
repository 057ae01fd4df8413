use Rattle.std.proofs.Common.{arith, refl, ◌+◌}
use Rattle.shadow_space.specs.Trees.{top}
use Rattle.shadow_space.specs.Ways.{slot_of}
use Rattle.shadow_space.proofs.Passing.{leaves_first, leaves_next, passed_all, passes_count, passes_counts, passes_room, passes_word}
use Rattle.shadow_space.proofs.cached.CachedTable.leave_tables.Goals as goal

pub loop-level-init : goal.loop-level-init
loop-level-init c = leaves_first c.args.tables.now c.args.self.now c.args.mem.now c.args.page c.requires.room c.requires.page c.args.way.now c.told-way c.requires.stands

pub overflow_mul-slot : goal.overflow_mul-slot
overflow_mul-slot c =
    let word = passes_word c.args.tables.now c.args.self.now c.args.mem.now c.args.page c.requires.room c.requires.page c.loop-level.self c.loop-level.mem c.loop-level.level c.loop-level.level c.args.way.now c.loop-level.invariant (c.loop-level.level + 1) (slot_of (c.loop-level.level + 1) c.args.page) (omega arith) (omega (arith, c.loop-level-test.true)) refl in
    omega (arith, word.small)

pub overflow_add-slot-in-loop-level : goal.overflow_add-slot-in-loop-level
overflow_add-slot-in-loop-level c =
    let word = passes_word c.args.tables.now c.args.self.now c.args.mem.now c.args.page c.requires.room c.requires.page c.loop-level.self c.loop-level.mem c.loop-level.level c.loop-level.level c.args.way.now c.loop-level.invariant (c.loop-level.level + 1) c.slot_of.result (omega arith) (omega (arith, c.loop-level-test.true)) c.slot_of.ensures.value in
    omega (arith, word.small, word.entry)

pub leave_table-requires-clause-doubleword : goal.leave_table-requires-clause-doubleword
leave_table-requires-clause-doubleword c =
    let word = passes_word c.args.tables.now c.args.self.now c.args.mem.now c.args.page c.requires.room c.requires.page c.loop-level.self c.loop-level.mem c.loop-level.level c.loop-level.level c.args.way.now c.loop-level.invariant (c.loop-level.level + 1) c.slot_of.result (omega arith) (omega (arith, c.loop-level-test.true)) c.slot_of.ensures.value in
    record { inside = word.fits; small = omega (arith, word.small, word.entry) }

pub leave_table-requires-clause-counting : goal.leave_table-requires-clause-counting
leave_table-requires-clause-counting c = passes_counts c.args.tables.now c.args.self.now c.args.mem.now c.args.page c.requires.room c.requires.page c.loop-level.self c.loop-level.mem c.loop-level.level c.loop-level.level c.args.way.now c.loop-level.invariant c.loop-level-test.true

pub leave_table-requires-clause-some : goal.leave_table-requires-clause-some
leave_table-requires-clause-some c = passes_count c.args.tables.now c.args.self.now c.args.mem.now c.args.page c.requires.room c.requires.page c.loop-level.self c.loop-level.mem c.loop-level.level c.loop-level.level c.args.way.now c.loop-level.invariant c.loop-level-test.true

pub leave_table-requires-clause-room : goal.leave_table-requires-clause-room
leave_table-requires-clause-room c = passes_room c.args.tables.now c.args.self.now c.args.mem.now c.args.page c.requires.room c.requires.page c.loop-level.self c.loop-level.mem c.loop-level.level c.loop-level.level c.args.way.now c.loop-level.invariant c.loop-level-test.true

pub loop-level-preserved : goal.loop-level-preserved
loop-level-preserved c =
    leaves_next c.args.tables.now c.args.self.now c.args.mem.now c.args.page c.requires.room c.requires.page c.loop-level.self c.loop-level.mem c.loop-level.level c.loop-level.level c.args.way.now c.loop-level.invariant c.loop-level-test.true (c.loop-level.level + 1) c.slot_of.result c.leave_table.new.frames c.leave_table.new.mem
    (omega arith) c.slot_of.ensures.value c.leave_table.ensures.held c.leave_table.ensures.changed

pub returns-clause-stands : goal.returns-clause-stands
returns-clause-stands c =
    passed_all c.args.tables.now c.args.self.now c.args.mem.now c.args.page c.requires.room c.requires.page c.loop-level.self c.loop-level.mem c.loop-level.level c.loop-level.level c.args.way.now c.loop-level.invariant top (omega (arith, c.loop-level-test.false, c.loop-level.auto.level-end))
