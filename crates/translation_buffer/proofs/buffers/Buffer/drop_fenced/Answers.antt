use Rattle.arch_defs.specs.FirstEntries.{names_first, unnamed_first}
use Rattle.translation_buffer.proofs.buffers.Buffer.drop_fenced.Goals as goal

pub returns-in-Some-clause-serves : goal.returns-in-Some-clause-serves
returns-in-Some-clause-serves c = λ owner memory serves.
    c.drop_page.ensures.serves c.args.first.now owner c.args.csrs.now c.args.mode memory (names_first c.args.tag c.args.fence.now) c.in-Some.ensures serves

pub returns-in-None-clause-serves : goal.returns-in-None-clause-serves
returns-in-None-clause-serves c = λ owner memory serves.
    c.restart.ensures.serves (unnamed_first (names_first c.args.tag c.args.fence.now) c.args.first.now) owner memory
