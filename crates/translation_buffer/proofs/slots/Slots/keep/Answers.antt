use Rattle.std.proofs.Common.{rules, ◌≡◌, ◌/◌, ◌%◌, ◌<◌, length, subst}
use Rattle.translation_buffer.specs.Serving.{SlotStands}
use Rattle.translation_buffer.specs.Tags.{IsUpTo}
use Rattle.translation_buffer.proofs.SlotKinds.{fetch_kept, load_kept, store_kept}
use Rattle.translation_buffer.proofs.Homes.{fetch_at_home, load_at_home, store_at_home}
use Rattle.translation_buffer.proofs.slots.Slots.keep.Goals as goal

pub returns-in-Fetch-clause-stand : goal.returns-in-Fetch-clause-stand
returns-in-Fetch-clause-stand c = λ read memory under run stands all. fetch_kept (SlotStands read memory under run) c.args.self.now (c.args.va / 4096 % 8) c.args.slot
    (subst (λ kind. SlotStands read memory under run kind c.args.slot) c.in-Fetch.is stands) all

pub returns-in-Fetch-clause-tags : goal.returns-in-Fetch-clause-tags
returns-in-Fetch-clause-tags c = λ run up_to all. fetch_kept (λ kind. IsUpTo run) c.args.self.now (c.args.va / 4096 % 8) c.args.slot up_to all

pub returns-in-Load-clause-stand : goal.returns-in-Load-clause-stand
returns-in-Load-clause-stand c = λ read memory under run stands all. load_kept (SlotStands read memory under run) c.args.self.now (c.args.va / 4096 % 32) c.args.slot
    (subst (λ kind. SlotStands read memory under run kind c.args.slot) c.in-Load.is stands) all

pub returns-in-Load-clause-tags : goal.returns-in-Load-clause-tags
returns-in-Load-clause-tags c = λ run up_to all. load_kept (λ kind. IsUpTo run) c.args.self.now (c.args.va / 4096 % 32) c.args.slot up_to all

pub returns-in-Store-clause-stand : goal.returns-in-Store-clause-stand
returns-in-Store-clause-stand c = λ read memory under run stands all. store_kept (SlotStands read memory under run) c.args.self.now (c.args.va / 4096 % 16) c.args.slot
    (subst (λ kind. SlotStands read memory under run kind c.args.slot) c.in-Store.is stands) all

pub returns-in-Store-clause-tags : goal.returns-in-Store-clause-tags
returns-in-Store-clause-tags c = λ run up_to all. store_kept (λ kind. IsUpTo run) c.args.self.now (c.args.va / 4096 % 16) c.args.slot up_to all

pub returns-in-Fetch-clause-homes : goal.returns-in-Fetch-clause-homes
returns-in-Fetch-clause-homes c =
    let inside : c.args.va / 4096 % 8 < length c.args.self.now.fetches = search rules in
    let home : c.args.va / 4096 % 8 ≡ c.args.va / 4096 % length c.args.self.now.fetches = search rules in
    λ own all. fetch_at_home c.args.self.now (c.args.va / 4096 % 8) (c.args.va / 4096) c.args.slot inside home own all

pub returns-in-Load-clause-homes : goal.returns-in-Load-clause-homes
returns-in-Load-clause-homes c =
    let inside : c.args.va / 4096 % 32 < length c.args.self.now.loads = search rules in
    let home : c.args.va / 4096 % 32 ≡ c.args.va / 4096 % length c.args.self.now.loads = search rules in
    λ own all. load_at_home c.args.self.now (c.args.va / 4096 % 32) (c.args.va / 4096) c.args.slot inside home own all

pub returns-in-Store-clause-homes : goal.returns-in-Store-clause-homes
returns-in-Store-clause-homes c =
    let inside : c.args.va / 4096 % 16 < length c.args.self.now.stores = search rules in
    let home : c.args.va / 4096 % 16 ≡ c.args.va / 4096 % length c.args.self.now.stores = search rules in
    λ own all. store_at_home c.args.self.now (c.args.va / 4096 % 16) (c.args.va / 4096) c.args.slot inside home own all
