use Rattle.std.proofs.Common.{◌≡◌, ℕ, false}
use Rattle.guest_turns.specs.Hosted.{is_set, KeepsShares}
use Rattle.nesthv_top.proofs.Turning.{TurnsLeft}
use Rattle.nesthv_top.proofs.running.run_turns.Given as goal

abbrev pub invariant-loop-guest : goal.invariant-loop-guest
invariant-loop-guest l = record {
  left : TurnsLeft l.turns l.fn.host.machines l.fn.tally l.guest-index l.host.machines l.tally;
  active : (g : ℕ) → is_set l.host.retired g ≡ false;
  shares : KeepsShares l.fn.host l.host;
}
