use Rattle.std.proofs.Common.{rules, ◌≡◌, ◌+◌, ◌/◌, ◌%◌, ◌^◌, ◌<◌, Some, ap, sym, ◌∙◌}
use Rattle.translation_buffer.specs.Places.{translator}
use Rattle.translation_buffer.proofs.KeptSlots.{served}
use Rattle.translation_buffer.proofs.buffers.Buffer.find.Goals as goal

pub returns-then-slot-self : goal.returns-then-slot-self
returns-then-slot-self c =
    let small : c.args.va < 2 ^ 64 = search rules in
    let tag : c.slot-slot.result.tag ≡ (c.args.self.now.who + c.args.va / 4096) % 2 ^ 64 = search rules in
    λ first owner csrs mode memory serves.
    served c.args.self.now first owner csrs mode memory c.args.va c.args.access c.slot-slot.result serves
    (c.slot-slot.ensures c.args.self.now.read memory (translator first owner c.args.self.now.context) c.args.self.now.run serves.slots) small tag
    ∙ ap Some (sym c.place.ensures)
