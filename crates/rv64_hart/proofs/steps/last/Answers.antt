use Rattle.std.proofs.Common.{rules, ap, ◌∙◌}
use Rattle.rv64_hart.specs.Endings.{told_of}
use Rattle.rv64_hart.proofs.Runs.{runs_by}
use Rattle.rv64_hart.proofs.steps.last.Goals as goal

pub returns-clause-run : goal.returns-clause-run
returns-clause-run c =
    record {
      steps = runs_by c.ended.result c.one.result.made c.args.hart.now.state.now c.args.hart.now.memory.now c.args.hart.now.tally.now c.ended.new.hart.trap.now c.ended.new.hart.state.now c.ended.new.hart.memory.now c.ended.new.hart.tally.now
          c.one.ensures.made c.requires.none (ap (told_of c.args.hart.now.tally.now.trace) c.requires.next ∙ c.ended.ensures.told) c.ended.ensures.left.stays c.ended.ensures.tally.stays;
      raises = search rules;
      only = c.ended.ensures.tally.only;
      serves = c.ended.ensures.left.serves;
      same = c.ended.ensures.same;
    }
