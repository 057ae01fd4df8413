use Rattle.rv64_hart.proofs.FirstFound.{word_made}
use Rattle.rv64_hart.proofs.common_instructions.common.Goals as goal

pub returns-in-Some-clause-made : goal.returns-in-Some-clause-made
returns-in-Some-clause-made c =
    word_made c.made.result c.args.state.now c.args.memory.now c.args.word c.in-Some.op c.made.new.state c.made.new.memory c.in-Some.ensures.value c.in-Some.ensures.known c.made.ensures.made
