use Rattle.std.proofs.Common.{rules}
use Rattle.rv64_hart.proofs.Runs.{runs_by}
use Rattle.rv64_hart.proofs.steps.first_anew.Goals as goal

pub returns-clause-run : goal.returns-clause-run
returns-clause-run c =
    record {
      steps = runs_by c.instruction_anew.result c.one.result.made c.args.hart.now.state.now c.args.hart.now.memory.now c.args.hart.now.tally.now c.instruction_anew.new.trap c.instruction_anew.new.state c.instruction_anew.new.memory c.instruction_anew.new.tally
          c.one.ensures.made c.requires.none c.instruction_anew.ensures.told c.instruction_anew.ensures.left.stays c.instruction_anew.ensures.tally.stays;
      raises = search rules;
      only = c.instruction_anew.ensures.tally.only;
      serves = c.instruction_anew.ensures.left.serves;
      same = search rules;
    }
