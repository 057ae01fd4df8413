use Rattle.std.specs.Prelude.{option_map}
use Rattle.machine_defs.specs.Core.{event_of}
use Rattle.machine_defs.specs.FirstLeaves.{entries_of}
use Rattle.rv64_hart.proofs.CsrWords.{csr_ends}
use Rattle.rv64_hart.proofs.rare_instructions.system.Goals as goal

pub returns-then-fetched-ne0-clause-ends : goal.returns-then-fetched-ne0-clause-ends
returns-then-fetched-ne0-clause-ends c =
    csr_ends (entries_of (option_map (λ e. e.now) c.args.fetched.found)) c.args.state.now c.args.memory.now c.args.fetched.word _ c.requires.system c.if-fetched-ne0.true
    (c.register.ensures.ends (event_of c.args.state.now.virt.regs.pc c.args.fetched.word))
