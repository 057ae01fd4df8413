use Rattle.std.proofs.Common.{◌≡◌, ◌∙◌}
use Rattle.arch_defs.specs.Translation.{privilege_of}
use Rattle.translation_buffer.specs.Holding.{has_frame}
use Rattle.translation_buffer.specs.Places.{context_of, translator}
use Rattle.translation_buffer.proofs.buffers.Buffer.follow.Goals as goal

pub returns-then-is_context-clause-serves : goal.returns-then-is_context-clause-serves
returns-then-is_context-clause-serves c =
    let same : c.args.self.now.context ≡ context_of c.args.csrs.now c.args.mode = c.is_context.ensures c.if-is_context.true ∙ c.of.ensures in
    λ first owner before mode_before memory serves. record {
      context = same;
      who = c.bits_of-self.ensures;
      slots = serves.slots;
      page = c.forget.ensures.stands (has_frame c.args.self.now.read) memory (translator first owner c.args.self.now.context) (privilege_of c.args.csrs.now c.args.mode);
    }

pub returns-else-is_context-clause-serves : goal.returns-else-is_context-clause-serves
returns-else-is_context-clause-serves c = λ first owner before mode_before memory serves. c.restart.ensures.serves first owner memory
