use Rattle.std.proofs.Common.{◌∙◌, ap, sym}
use Rattle.op_defs.specs.declared.ops.Op.TheVariants.{HfenceGvma}
use Rattle.op_defs.specs.Meaning.{meaning}
use Rattle.machine_defs.specs.Outcomes as outcome
use Rattle.rv64_asm.specs.Words.{encoded}
use Rattle.hcsr_emulation.proofs.GuestFences.{allowed_ends, refused_ends}
use Rattle.hcsr_emulation.proofs.emulation.fence_guest.Goals as goal

pub returns-in-Some-clause-ends : goal.returns-in-Some-clause-ends
returns-in-Some-clause-ends c = λ through. refused_ends through c.args.state.now (encoded (HfenceGvma c.args.rs1 c.args.rs2)) (meaning (HfenceGvma c.args.rs1 c.args.rs2) c.args.state.now.regs) c.in-Some.end
    (sym c.in-Some.is ∙ c.refusal_of.ensures c.args.state.now.regs)

pub returns-in-None-clause-ends : goal.returns-in-None-clause-ends
returns-in-None-clause-ends c = λ through.
    allowed_ends through c.args.state.now (encoded (HfenceGvma c.args.rs1 c.args.rs2)) (meaning (HfenceGvma c.args.rs1 c.args.rs2) c.args.state.now.regs) c.request-named.result c.request-named.ensures
    (sym c.in-None.is ∙ c.refusal_of.ensures c.args.state.now.regs)
    ∙ ap (λ after. outcome.Fenced after c.request-named.result) (sym c.pass.ensures)
