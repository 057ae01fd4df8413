use Rattle.std.proofs.Common.{◌∙◌, length, sym}
use Rattle.shadow_pool.proofs.Changing.{found_entered, new_entered}
use Rattle.shadow_pool.specs.Slots.{spaces_in}
use Rattle.shadow_pool.proofs.Filling.{entered_held}
use Rattle.shadow_pool.proofs.Tidying.{pool_folded}
use Rattle.shadow_pool.proofs.slots.enter.Goals as goal

pub returns-in-Some-clause-spaces : goal.returns-in-Some-clause-spaces
returns-in-Some-clause-spaces c =
    (found_entered c.args.slots.now c.to_front.new.slots c.args.mem.now c.args.key c.in-Some.i c.requires (sym c.place_of.ensures ∙ c.in-Some.is) c.to_front.ensures).has

pub returns-in-Some-clause-keeps : goal.returns-in-Some-clause-keeps
returns-in-Some-clause-keeps c =
    (found_entered c.args.slots.now c.to_front.new.slots c.args.mem.now c.args.key c.in-Some.i c.requires (sym c.place_of.ensures ∙ c.in-Some.is) c.to_front.ensures).changed.keeps

pub returns-in-Some-clause-folded : goal.returns-in-Some-clause-folded
returns-in-Some-clause-folded c =
    pool_folded c.to_front.new.slots c.args.mem.now
    (found_entered c.args.slots.now c.to_front.new.slots c.args.mem.now c.args.key c.in-Some.i c.requires (sym c.place_of.ensures ∙ c.in-Some.is) c.to_front.ensures).changed.tidy

pub returns-in-None-clause-spaces : goal.returns-in-None-clause-spaces
returns-in-None-clause-spaces c =
    (new_entered c.args.slots.now c.to_front-in-None.new.slots c.args.mem.now c.renew.new.mem c.args.key c.index-slots-last.result c.renew.new.slot c.requires (sym c.place_of.ensures ∙ c.in-None.is)
    c.index-slots-last.is c.renew.ensures.key c.renew.ensures.entries c.renew.ensures.keeps c.renew.ensures.tidy c.to_front-in-None.ensures).has

pub returns-in-None-clause-keeps : goal.returns-in-None-clause-keeps
returns-in-None-clause-keeps c =
    (new_entered c.args.slots.now c.to_front-in-None.new.slots c.args.mem.now c.renew.new.mem c.args.key c.index-slots-last.result c.renew.new.slot c.requires (sym c.place_of.ensures ∙ c.in-None.is)
    c.index-slots-last.is c.renew.ensures.key c.renew.ensures.entries c.renew.ensures.keeps c.renew.ensures.tidy c.to_front-in-None.ensures).changed.keeps

pub returns-in-None-clause-folded : goal.returns-in-None-clause-folded
returns-in-None-clause-folded c =
    pool_folded c.to_front-in-None.new.slots c.renew.new.mem
    (new_entered c.args.slots.now c.to_front-in-None.new.slots c.args.mem.now c.renew.new.mem c.args.key c.index-slots-last.result c.renew.new.slot c.requires (sym c.place_of.ensures ∙ c.in-None.is)
    c.index-slots-last.is c.renew.ensures.key c.renew.ensures.entries c.renew.ensures.keeps c.renew.ensures.tidy c.to_front-in-None.ensures).changed.tidy

pub returns-in-Some-clause-held : goal.returns-in-Some-clause-held
returns-in-Some-clause-held c =
    entered_held (length c.args.slots.now) c.args.key (spaces_in c.args.slots.now) _ c.requires.slots.some (returns-in-Some-clause-spaces c)

pub returns-in-None-clause-held : goal.returns-in-None-clause-held
returns-in-None-clause-held c =
    entered_held (length c.args.slots.now) c.args.key (spaces_in c.args.slots.now) _ c.requires.slots.some (returns-in-None-clause-spaces c)
