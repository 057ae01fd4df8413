use Rattle.std.proofs.Common.{subst, sym}
use Rattle.translation_buffer.specs.Serving.{Serves}
use Rattle.translation_buffer.proofs.buffers.Buffer.fence.Goals as goal

pub returns-clause-serves : goal.returns-clause-serves
returns-clause-serves c = λ owner memory serves.
    subst (λ first. Serves c.drop_fenced.new.self first owner c.args.csrs.now c.args.mode memory) (sym c.drop_named.ensures) (c.drop_fenced.ensures.serves owner memory serves)
