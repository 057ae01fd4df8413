use Rattle.translation_buffer.proofs.SlotKinds.{all_up_to}
use Rattle.translation_buffer.proofs.Homes.{each_at_home}
use Rattle.translation_buffer.proofs.slots.Slots.none.Goals as goal

pub returns-clause-tags : goal.returns-clause-tags
returns-clause-tags c = λ run. all_up_to run _ (c.no_slots.ensures.tags run) (c.no_slots-2.ensures.tags run) (c.no_slots-3.ensures.tags run)

pub returns-clause-homes : goal.returns-clause-homes
returns-clause-homes c = each_at_home _ c.no_slots.ensures.homes c.no_slots-2.ensures.homes c.no_slots-3.ensures.homes
