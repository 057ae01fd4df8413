use Rattle.std.proofs.Common.{None, Some}
use Rattle.gdb_stub.proofs.Talking.{ended_then, stopped, talked_over}
use Rattle.gdb_stub.proofs.talks.Talk.serve.Goals as goal

pub returns-in-Ok-false-clause-talked : goal.returns-in-Ok-false-clause-talked
returns-in-Ok-false-clause-talked g c =
    ended_then g.C.Connection _ _ _ c.loop.connection _ _ _ _ _ None c.loop.invariant.keeps.recording c.loop.invariant.talked
    (rw c.in-Ok-false.field-0-test at c.in-Ok-false.ensures.talked)

pub returns-in-Err-clause-talked : goal.returns-in-Err-clause-talked
returns-in-Err-clause-talked g c =
    ended_then g.C.Connection _ _ _ c.loop.connection _ _ _ _ _ (Some c.in-Err.end) c.loop.invariant.keeps.recording c.loop.invariant.talked c.in-Err.ensures.talked

pub returns-clause-talked : goal.returns-clause-talked
returns-clause-talked g c =
    talked_over g.C.Connection _ _ _ c.loop.connection _ _ _ _ _ c.loop.invariant.talked (stopped g.C.Connection _ _ c.loop.connection _)
