use Rattle.std.proofs.Common.{refl, sym}
use Rattle.std.specs.Prelude.{option_map}
use Rattle.op_defs.specs.Meaning.{meaning}
use Rattle.machine_defs.specs.FirstLeaves.{entries_of}
use Rattle.rv64_hart.proofs.FirstFound.{op_ends}
use Rattle.rv64_hart.proofs.rare_instructions.other.Goals as goal

pub returns-in-Some-clause-ends : goal.returns-in-Some-clause-ends
returns-in-Some-clause-ends c =
    op_ends (entries_of (option_map (λ e. e.now) c.args.fetched.found)) c.args.state.now c.args.memory.now c.args.fetched.word c.in-Some.op (meaning c.in-Some.op c.args.state.now.virt.regs) _ (sym c.in-Some.ensures) refl c.asked.ensures.ends
