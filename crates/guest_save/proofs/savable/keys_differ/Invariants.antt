use Rattle.std.proofs.Common.{take}
use Rattle.std.specs.List.{AllPairs}
use Rattle.guest_save.specs.Savable.{HasOtherKey}
use Rattle.guest_save.proofs.savable.keys_differ.Given as goal

abbrev pub invariant-loop-i : goal.invariant-loop-i
invariant-loop-i l = AllPairs HasOtherKey (take l.i l.spaces)
