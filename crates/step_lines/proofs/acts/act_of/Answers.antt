use Rattle.step_lines.proofs.Ends.{word_does}
use Rattle.step_lines.proofs.acts.act_of.Goals as goal

pub returns-in-Some-clause-act : goal.returns-in-Some-clause-act
returns-in-Some-clause-act c = λ m same is. word_does m c.args.virt.now c.in-Some.word c.word_act.result same (rw c.in-Some.is at is) c.word_act.ensures
