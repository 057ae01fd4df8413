use Rattle.std.proofs.Common.{◌≡◌, ◌*◌, ◌^◌, ◌≤◌, take}
use Rattle.guest_turns.specs.TurnLists.{own_steps}
use Rattle.guest_commands.proofs.lone_guests.own_steps.Given as goal

abbrev pub invariant-loop-i : goal.invariant-loop-i
invariant-loop-i l = record {
  value : l.sum ≡ own_steps l.guest (take l.i l.turns);
  few : l.sum ≤ l.i * 2 ^ 32;
}
