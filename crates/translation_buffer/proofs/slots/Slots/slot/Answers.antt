use Rattle.std.proofs.Common.{rules, ◌/◌, ◌%◌, ◌<◌, length}
use Rattle.arch_defs.specs.declared.modes.Access.TheVariants.{Fetch, Load, Store}
use Rattle.translation_buffer.proofs.KeptSlots.{slot_stands}
use Rattle.translation_buffer.proofs.slots.Slots.slot.Goals as goal

pub returns-in-Fetch : goal.returns-in-Fetch
returns-in-Fetch c =
    let inside : c.args.va / 4096 % 8 < length c.args.self.now.fetches = search rules in
    λ read memory under run all. slot_stands read memory under run c.args.self.now Fetch c.args.access (c.args.va / 4096 % 8) _ c.in-Fetch.is inside all

pub returns-in-Load : goal.returns-in-Load
returns-in-Load c =
    let inside : c.args.va / 4096 % 32 < length c.args.self.now.loads = search rules in
    λ read memory under run all. slot_stands read memory under run c.args.self.now Load c.args.access (c.args.va / 4096 % 32) _ c.in-Load.is inside all

pub returns-in-Store : goal.returns-in-Store
returns-in-Store c =
    let inside : c.args.va / 4096 % 16 < length c.args.self.now.stores = search rules in
    λ read memory under run all. slot_stands read memory under run c.args.self.now Store c.args.access (c.args.va / 4096 % 16) _ c.in-Store.is inside all
