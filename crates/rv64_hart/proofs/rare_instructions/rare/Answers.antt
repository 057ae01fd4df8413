use Rattle.std.proofs.Common.{refl, rules}
use Rattle.std.specs.Prelude.{option_map}
use Rattle.machine_defs.specs.FirstLeaves.{entries_of}
use Rattle.rv64_hart.specs.Steps.{caching_found}
use Rattle.rv64_hart.proofs.FirstFound.{call_ends}
use Rattle.rv64_hart.proofs.rare_instructions.rare.Goals as goal

pub returns-then-fetched-eq115-clause-ends : goal.returns-then-fetched-eq115-clause-ends
returns-then-fetched-eq115-clause-ends c =
    let found = entries_of (option_map (λ e. e.now) c.args.fetched.found) in
    rw c.call.ensures.raised (call_ends found c.args.state.now c.args.memory.now c.args.fetched.word _ (search rules)
    (c.call.ensures.trap (caching_found c.args.state.now found) c.args.memory.now refl))
