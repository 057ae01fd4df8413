use Rattle.std.proofs.Common.{◌<◌}
use Rattle.nesthv_top.proofs.MovingTurns.{one_alone, zero_in, zeros}
use Rattle.nesthv_top.proofs.running.one_kept.Goals as goal

pub returns-in-Some-clause-turns : goal.returns-in-Some-clause-turns
returns-in-Some-clause-turns c = λ g few.
    let inside : c.in-Some.guest < 16 = rw c.in-Some.is at c.requires in
    rw c.in-Some.is (one_alone (zeros 16) c.in-Some.guest g inside (zero_in 16))
