use Rattle.translation_buffer.proofs.DroppedSlots.{left_stand, left_up_to}
use Rattle.translation_buffer.proofs.Homes.{kinds_at_home, kinds_lack}
use Rattle.translation_buffer.proofs.SlotKinds.{each_kind}
use Rattle.translation_buffer.specs.Serving.{LacksPage}
use Rattle.arch_defs.specs.declared.modes.Access.TheVariants.{Fetch, Load, Store}
use Rattle.translation_buffer.proofs.slots.Slots.drop_page.Goals as goal

pub returns-clause-stand : goal.returns-clause-stand
returns-clause-stand c = left_stand c.args.self.now
    (record { fetches = c.drop_at_home.new.slots; loads = c.drop_at_home-2.new.slots; stores = c.drop_at_home-3.new.slots })
    c.drop_at_home.ensures.size c.drop_at_home.ensures.left c.drop_at_home-2.ensures.size c.drop_at_home-2.ensures.left c.drop_at_home-3.ensures.size c.drop_at_home-3.ensures.left

pub returns-clause-tags : goal.returns-clause-tags
returns-clause-tags c = left_up_to c.args.self.now
    (record { fetches = c.drop_at_home.new.slots; loads = c.drop_at_home-2.new.slots; stores = c.drop_at_home-3.new.slots })
    c.drop_at_home.ensures.size c.drop_at_home.ensures.left c.drop_at_home-2.ensures.size c.drop_at_home-2.ensures.left c.drop_at_home-3.ensures.size c.drop_at_home-3.ensures.left

pub returns-clause-homes : goal.returns-clause-homes
returns-clause-homes c = kinds_at_home c.args.self.now
    (record { fetches = c.drop_at_home.new.slots; loads = c.drop_at_home-2.new.slots; stores = c.drop_at_home-3.new.slots })
    c.drop_at_home.ensures.size c.drop_at_home.ensures.left c.drop_at_home-2.ensures.size c.drop_at_home-2.ensures.left c.drop_at_home-3.ensures.size c.drop_at_home-3.ensures.left

pub returns-clause-others : goal.returns-clause-others
returns-clause-others c = kinds_lack c.args.self.now
    (record { fetches = c.drop_at_home.new.slots; loads = c.drop_at_home-2.new.slots; stores = c.drop_at_home-3.new.slots })
    c.drop_at_home.ensures.size c.drop_at_home.ensures.left c.drop_at_home-2.ensures.size c.drop_at_home-2.ensures.left c.drop_at_home-3.ensures.size c.drop_at_home-3.ensures.left

pub returns-clause-lack : goal.returns-clause-lack
returns-clause-lack c = λ all. each_kind (λ kind. LacksPage c.args.page) _ (c.drop_at_home.ensures.lack (all Fetch)) (c.drop_at_home-2.ensures.lack (all Load)) (c.drop_at_home-3.ensures.lack (all Store))
