use Rattle.std.proofs.Common.{ap, arith, refl, subst, ◌∙◌, ◌-◌, ◌≡◌}
use Rattle.shadow_space.specs.Ways.{UnderWay, slot_of}
use Rattle.shadow_space.proofs.Passing.{follows_first, follows_next, follows_word}
use Rattle.table_words.specs.Entries.{named_frame}
use Rattle.shadow_space.proofs.cached.CachedTable.way_to.Goals as goal

pub loop-level-init : goal.loop-level-init
loop-level-init c = follows_first c.args.tables.now c.args.self.now c.args.mem.now c.args.page c.requires.room c.requires.page c.requires.stands

pub overflow_mul-way : goal.overflow_mul-way
overflow_mul-way c =
    let word = follows_word c.args.tables.now c.args.self.now c.args.mem.now c.args.page c.requires.room c.requires.page c.loop-level.level (slot_of c.loop-level.level c.args.page) c.loop-level.way c.loop-level.invariant refl in
    omega (arith, word.small)

pub overflow_add-way : goal.overflow_add-way
overflow_add-way c =
    let word = follows_word c.args.tables.now c.args.self.now c.args.mem.now c.args.page c.requires.room c.requires.page c.loop-level.level c.slot_of.result c.loop-level.way c.loop-level.invariant c.slot_of.ensures.value in
    omega (arith, word.small, word.entry)

pub doubleword_at-pointer-requires-clause-inside : goal.doubleword_at-pointer-requires-clause-inside
doubleword_at-pointer-requires-clause-inside c =
    (follows_word c.args.tables.now c.args.self.now c.args.mem.now c.args.page c.requires.room c.requires.page c.loop-level.level c.slot_of.result c.loop-level.way c.loop-level.invariant c.slot_of.ensures.value).fits

pub doubleword_at-pointer-requires-clause-small : goal.doubleword_at-pointer-requires-clause-small
doubleword_at-pointer-requires-clause-small c =
    let word = follows_word c.args.tables.now c.args.self.now c.args.mem.now c.args.page c.requires.room c.requires.page c.loop-level.level c.slot_of.result c.loop-level.way c.loop-level.invariant c.slot_of.ensures.value in
    omega (arith, word.small, word.entry)

pub loop-level-preserved : goal.loop-level-preserved
loop-level-preserved c =
    follows_next c.args.tables.now c.args.self.now c.args.mem.now c.args.page c.requires.room c.requires.page c.loop-level.level (c.loop-level.level - 1) c.slot_of.result c.pte_of.result.frame c.loop-level.way
    c.loop-level.invariant (omega (arith, c.loop-level-test.true)) c.slot_of.ensures.value
    (ap (λ e. e.frame) c.pte_of.ensures.value ∙ ap named_frame c.doubleword_at-pointer.ensures)

pub returns : goal.returns
returns c =
    let end : c.loop-level.level ≡ 0 = omega (arith, c.loop-level-test.false) in
    subst (λ n. UnderWay c.args.tables.now c.args.self.now c.args.page 0 n c.loop-level.way c.args.mem.now) end c.loop-level.invariant.stands
