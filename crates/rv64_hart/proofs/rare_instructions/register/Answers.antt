use Rattle.std.specs.Prelude.{◌&&◌, ◌%◌, ◌==◌}
use Rattle.std.proofs.Common.{◌≡◌, refl, subst, sym}
use Rattle.translation_buffer.specs.Serving.{Serves}
use Rattle.instruction_laws.proofs.KeptFirst.{KeepsFirst, csr_first}
use Rattle.rv64_hart.specs.Endings.{HasSameTranslation, Unless}
use Rattle.rv64_hart.proofs.CsrWrites.{EndsAlike, csr_keeps_context}
use Rattle.rv64_hart.proofs.rare_instructions.register.Goals as goal

pub returns-in-Ok-clause-ends : goal.returns-in-Ok-clause-ends
returns-in-Ok-clause-ends c made =
    let keeps : c.access_csr.new.state.first ≡ c.args.state.now.virt.first =
    subst (KeepsFirst c.args.state.now.virt) (c.in-Ok.ensures.ends c.args.fetched.word) (csr_first c.args.state.now.virt c.args.fetched.word c.csr_op-op.result c.csr_number-number.result _ _ c.at.result) in
    rw (sym c.csr_op-op.ensures, sym c.csr_source-source.ensures, sym c.csr_number-number.ensures, sym c.operand_of-operand.ensures, sym c.writes-wrote.ensures, sym c.at.ensures, c.in-Ok.ensures.ends c.args.fetched.word, c.settle_access.ensures.state, keeps) refl

pub returns-in-Ok-clause-left : goal.returns-in-Ok-clause-left
returns-in-Ok-clause-left c =
    let keeps : c.access_csr.new.state.first ≡ c.args.state.now.virt.first =
    subst (KeepsFirst c.args.state.now.virt) (c.in-Ok.ensures.ends c.args.fetched.word) (csr_first c.args.state.now.virt c.args.fetched.word c.csr_op-op.result c.csr_number-number.result _ _ c.at.result) in
    let stays : Unless c.changes_context.result (HasSameTranslation c.args.state.now.virt.csrs c.args.state.now.virt.mode c.access_csr.new.state.csrs c.access_csr.new.state.mode) =
    rw c.changes_context.ensures (subst (λ o. Unless (c.writes-wrote.result && c.csr_number-number.result % 128 == 0) (EndsAlike c.args.state.now.virt o)) (c.in-Ok.ensures.ends c.args.fetched.word)
    (csr_keeps_context c.args.state.now.virt c.args.fetched.word c.csr_op-op.result c.csr_number-number.result _ c.writes-wrote.result c.at.result)) in
    record {
      stays = tt;
      serves = c.settle_access.ensures.serves c.args.state.now.virt.csrs c.args.state.now.virt.mode c.args.memory.now stays
          (subst (λ first. Serves c.args.buffer.now first c.args.state.now.tag c.args.state.now.virt.csrs c.args.state.now.virt.mode c.args.memory.now) (sym keeps) c.requires.serves);
      plain = tt;
    }

pub returns-in-Err-clause-ends : goal.returns-in-Err-clause-ends
returns-in-Err-clause-ends c made =
    rw (sym c.csr_op-op.ensures, sym c.csr_source-source.ensures, sym c.csr_number-number.ensures, sym c.operand_of-operand.ensures, sym c.writes-wrote.ensures, sym c.at.ensures, c.in-Err.ensures.ends c.args.fetched.word, c.raise.ensures.raised, c.raise.ensures.trap, c.refusal_code.ensures) refl
