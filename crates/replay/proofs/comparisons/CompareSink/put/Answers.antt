use Rattle.replay.proofs.Verdicts.{saw_more, saw_still}
use Rattle.replay.proofs.comparisons.CompareSink.put.Goals as goal

pub returns-then-not-self-clause-bytes : goal.returns-then-not-self-clause-bytes
returns-then-not-self-clause-bytes c = λ before saw. rw (c.agreeing_from-alike.ensures.alike)
    (saw_more _ before c.args.piece.now c.if-not-self.true (rw (c.self.view_is) saw))

pub returns-else-not-self-clause-bytes : goal.returns-else-not-self-clause-bytes
returns-else-not-self-clause-bytes c = λ before saw.
    saw_still c.args.self.now before c.args.piece.now (rw (← c.self.view_is) c.if-not-self.false) saw
