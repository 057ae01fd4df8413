use Rattle.std.proofs.Common.{◌∙◌, sym}
use Rattle.shadow_pool.proofs.Changing.{filled_changes, filled_has, filled_root}
use Rattle.shadow_pool.specs.Slots.{has_key}
use Rattle.shadow_pool.proofs.Filling.{no_position, none_held}
use Rattle.shadow_pool.proofs.Tidying.{pool_folded}
use Rattle.shadow_pool.proofs.slots.fill.Goals as goal

pub returns-clause-spaces : goal.returns-clause-spaces
returns-clause-spaces c =
    filled_has c.args.slots.now c.args.mem.now c.fill_one.new.mem c.args.key c.in-Some.i c.index-slots-i.result c.fill_one.new.slot c.args.entry c.requires.tidy (sym c.place_of.ensures ∙ c.in-Some.is) c.index-slots-i.is c.fill_one.ensures.key c.fill_one.ensures.entries c.fill_one.ensures.keeps c.fill_one.ensures.tidy

pub returns-clause-root : goal.returns-clause-root
returns-clause-root c =
    filled_root c.args.slots.now c.args.mem.now c.fill_one.new.mem c.args.key c.in-Some.i c.index-slots-i.result c.fill_one.new.slot c.args.entry c.requires.tidy (sym c.place_of.ensures ∙ c.in-Some.is) c.index-slots-i.is c.fill_one.ensures.key c.fill_one.ensures.entries c.fill_one.ensures.keeps c.fill_one.ensures.tidy

pub returns-clause-keeps : goal.returns-clause-keeps
returns-clause-keeps c =
    (filled_changes c.args.slots.now c.args.mem.now c.fill_one.new.mem c.args.key c.in-Some.i c.index-slots-i.result c.fill_one.new.slot c.args.entry c.requires.tidy (sym c.place_of.ensures ∙ c.in-Some.is) c.index-slots-i.is c.fill_one.ensures.key c.fill_one.ensures.entries c.fill_one.ensures.keeps c.fill_one.ensures.tidy).keeps

pub returns-clause-folded : goal.returns-clause-folded
returns-clause-folded c =
    pool_folded _ c.fill_one.new.mem
    (filled_changes c.args.slots.now c.args.mem.now c.fill_one.new.mem c.args.key c.in-Some.i c.index-slots-i.result c.fill_one.new.slot c.args.entry c.requires.tidy (sym c.place_of.ensures ∙ c.in-Some.is) c.index-slots-i.is c.fill_one.ensures.key c.fill_one.ensures.entries c.fill_one.ensures.keeps c.fill_one.ensures.tidy).tidy

pub unreachable-requires : goal.unreachable-requires
unreachable-requires c =
    none_held c.args.key c.args.slots.now (no_position (has_key c.args.key) c.args.slots.now (sym c.place_of.ensures ∙ c.in-None.is)) c.requires.entry.held
