use Rattle.std.proofs.Common.{rules, ◌≡◌, ◌+◌, ◌/◌, ◌%◌, ◌^◌, ◌<◌}
use Rattle.translation_buffer.specs.Places.{translator}
use Rattle.translation_buffer.proofs.KeptPages.{serves_page}
use Rattle.translation_buffer.proofs.buffers.Buffer.turn.Goals as goal

pub returns-then-slot-self-clause-serves : goal.returns-then-slot-self-clause-serves
returns-then-slot-self-clause-serves c =
    let small : c.args.va < 2 ^ 64 = search rules in
    let tag : c.slot-slot.result.tag ≡ (c.args.self.now.who + c.args.va / 4096) % 2 ^ 64 = search rules in
    λ first owner csrs mode memory serves. record {
      context = serves.context;
      who = serves.who;
      slots = serves.slots;
      page = serves_page c.args.self.now first owner csrs mode memory c.args.va c.slot-slot.result c.of-self.result serves
          (c.slot-slot.ensures c.args.self.now.read memory (translator first owner c.args.self.now.context) c.args.self.now.run serves.slots) small tag
          c.of-self.ensures.start c.of-self.ensures.delta;
    }
