use Rattle.std.proofs.Common.{rules, ◌+◌, ◌%◌, ◌^◌, ◌∙◌, ap, refl}
use Rattle.rv64_hart.specs.Counts.{Counts}
use Rattle.rv64_hart.proofs.Runs.{runs_common}
use Rattle.rv64_hart.proofs.steps.common_instructions.Goals as goal

pub returns-in-None-clause-run : goal.returns-in-None-clause-run
returns-in-None-clause-run c =
    let now = c.loop-made in
    record {
      steps = runs_common now.made (now.made + 1) c.args.state.now c.args.memory.now c.args.tally.now.trace now.state now.memory now.trace c.common.new.state c.common.new.memory c.go_on_at-in-None.new.self.trace now.word
          refl now.invariant.steps now.invariant.context c.requires.none now.invariant.next c.if-not-common.ensures.made (ap (λ (t : Counts). t.trace) c.go_on_at-in-None.ensures);
      next = tt;
      only = search rules;
      serves = search rules;
      context = search rules;
    }

pub loop-made-preserved : goal.loop-made-preserved
loop-made-preserved c =
    let now = c.loop-made in
    record {
      steps = runs_common now.made (now.made + 1) c.args.state.now c.args.memory.now c.args.tally.now.trace now.state now.memory now.trace c.common.new.state c.common.new.memory
          ((now.trace + (now.state.virt.regs.pc + now.word) % 2 ^ 64) % 2 ^ 64) now.word
          refl now.invariant.steps now.invariant.context c.requires.none now.invariant.next c.if-not-common.ensures.made refl;
      next = c.in-Some.ensures.next;
      tally = now.invariant.tally;
      serves = c.common.ensures.serves;
      context = (c.common.ensures.context.0 ∙ now.invariant.context.0, c.common.ensures.context.1 ∙ now.invariant.context.1);
    }
