use Rattle.std.proofs.Common.{◌≡◌, drop}
use Rattle.nesthv_top.specs.Moving.{shares_of, with_moves}
use Rattle.nesthv_top.proofs.MovingTurns.{Moving}
use Rattle.nesthv_top.proofs.running.run_moving.Given as goal

abbrev pub invariant-loop-t : goal.invariant-loop-t
invariant-loop-t l = record {
  moving : Moving l.fn.kept l.turns l.fn.host.machines l.fn.tally l.fn.moves l.t l.host l.left l.tally l.moves;
  shares : with_moves l.fn.kept l.t (drop l.t l.turns) (shares_of l.host) ≡ with_moves l.fn.kept 0 l.turns (shares_of l.fn.host);
}
