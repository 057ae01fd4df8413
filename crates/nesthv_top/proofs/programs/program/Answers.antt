use Rattle.nesthv_top.proofs.programs.program.Goals as goal

pub returns-in-Ok-clause-ended : goal.returns-in-Ok-clause-ended
returns-in-Ok-clause-ended g c = rw c.in-Ok.is (rw c.as_slice.ensures.value at c.nesthv.ensures.ended)
