use Rattle.std.proofs.Common.{◌≡◌, ◌≤◌, take}
use Rattle.outside.specs.Pieces.{Appends}
use Rattle.nesthv_top.specs.Texts.{guest_checks}
use Rattle.nesthv_top.proofs.checking.put_guests.Given as goal

abbrev pub invariant-loop-guest : goal.invariant-loop-guest
invariant-loop-guest g l = record {
  put : Appends g.O.Sink.stands_for l.fn.out l.out (guest_checks (take l.guest-index l.guests));
  count : g.O.Sink.faults l.fn.out ≤ g.O.Sink.faults l.out;
  stays : g.O.Sink.made_with l.out ≡ g.O.Sink.made_with l.fn.out;
}
