use Rattle.translation_buffer.proofs.DroppedSlots.{left_stand, left_up_to}
use Rattle.translation_buffer.proofs.Homes.{kinds_at_home}
use Rattle.translation_buffer.proofs.slots.Slots.drop_read.Goals as goal

pub returns-clause-stand : goal.returns-clause-stand
returns-clause-stand c = left_stand c.args.self.now
    (record { fetches = c.drop_each.new.slots; loads = c.drop_each-2.new.slots; stores = c.drop_each-3.new.slots })
    c.drop_each.ensures.size c.drop_each.ensures.left c.drop_each-2.ensures.size c.drop_each-2.ensures.left c.drop_each-3.ensures.size c.drop_each-3.ensures.left

pub returns-clause-tags : goal.returns-clause-tags
returns-clause-tags c = left_up_to c.args.self.now
    (record { fetches = c.drop_each.new.slots; loads = c.drop_each-2.new.slots; stores = c.drop_each-3.new.slots })
    c.drop_each.ensures.size c.drop_each.ensures.left c.drop_each-2.ensures.size c.drop_each-2.ensures.left c.drop_each-3.ensures.size c.drop_each-3.ensures.left

pub returns-clause-homes : goal.returns-clause-homes
returns-clause-homes c = kinds_at_home c.args.self.now
    (record { fetches = c.drop_each.new.slots; loads = c.drop_each-2.new.slots; stores = c.drop_each-3.new.slots })
    c.drop_each.ensures.size c.drop_each.ensures.left c.drop_each-2.ensures.size c.drop_each-2.ensures.left c.drop_each-3.ensures.size c.drop_each-3.ensures.left
