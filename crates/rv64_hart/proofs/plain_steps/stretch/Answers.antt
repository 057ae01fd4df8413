use Rattle.std.proofs.Common.{rules, ◌≡◌, ◌+◌, ◌%◌, ◌^◌, ◌∙◌, ap, arith, refl, subst}
use Rattle.std.specs.Prelude.{IfSome}
use Rattle.rv64_hart.specs.Counts.{Counts}
use Rattle.rv64_hart.specs.Endings.{IsNext}
use Rattle.rv64_hart.proofs.Runs.{runs_common}
use Rattle.rv64_hart.proofs.plain_steps.stretch.Goals as goal

pub returns-else-not-plain-clause-run : goal.returns-else-not-plain-clause-run
returns-else-not-plain-clause-run c =
    let common = c.common_instructions-common in
    let made = common.result.made in
    let old = common.new.state in
    let next = subst (λ word. IfSome word (λ w. IsNext w old common.new.memory)) c.in-Some.is common.ensures.run.next in
    let counted = ap (λ (t : Counts). t.trace) c.count.ensures in
    let adds : c.count.new.self.trace ≡ (common.new.tally.trace + (old.virt.regs.pc + c.in-Some.word) % 2 ^ 64) % 2 ^ 64 = omega (arith, counted) in
    record {
      steps = runs_common made (made + 1) c.args.state.now c.args.memory.now c.args.tally.now.trace old common.new.memory common.new.tally.trace c.plain.new.state c.plain.new.memory c.count.new.self.trace c.in-Some.word
          refl common.ensures.run.steps common.ensures.run.context c.requires.none next c.if-not-plain.ensures.made adds;
      next = tt;
      only = search rules;
      serves = c.plain.ensures.serves;
      context = (c.plain.ensures.context.0 ∙ common.ensures.run.context.0, c.plain.ensures.context.1 ∙ common.ensures.run.context.1);
    }
