use Rattle.std.proofs.Common.{◌∙◌, sym, ap}
use Rattle.arch_defs.specs.CachedEntries.{cut_by}
use Rattle.shadow_pool.specs.Slots.{space_if}
use Rattle.shadow_pool.proofs.Fencing.{cut, wiped}
use Rattle.shadow_pool.proofs.slots.fence_one.Goals as goal

pub returns-in-None-clause-space : goal.returns-in-None-clause-space
returns-in-None-clause-space c =
    ap (λ slot. space_if slot.key c.wipe.new.self.entries) c.slot.view_is
    ∙ wiped c.args.fence.now c.args.slot.now c.in-Some.key c.vmid.result c.names_vmid.result c.wipe.new.self.entries (ap (λ slot. slot.key) (sym c.slot.view_is) ∙ c.in-Some.is) c.vmid.ensures c.names_vmid.ensures
    c.if-not-names_vmid.false c.in-None.is c.wipe.ensures.entries

pub returns-in-Some-page-clause-space : goal.returns-in-Some-page-clause-space
returns-in-Some-page-clause-space c =
    ap (λ slot. space_if slot.key c.cut.new.self.entries) c.slot.view_is
    ∙ cut c.args.fence.now c.args.slot.now c.in-Some.key c.vmid.result c.names_vmid.result c.cut.new.self.entries c.in-Some-page.page (ap (λ slot. slot.key) (sym c.slot.view_is) ∙ c.in-Some.is) c.vmid.ensures
    c.names_vmid.ensures c.if-not-names_vmid.false c.in-Some-page.is
    (c.cut.ensures.entries ∙ ap (λ space. cut_by c.in-Some-page.page space.entries) (c.deref_mut-in-Some-page.ensures.value ∙ ap (λ slot. slot.space) c.slot.view_is))
