use Rattle.std.proofs.Common.{take}
use Rattle.std.specs.List.{AllPairs}
use Rattle.run_laws.specs.FirstKeys.{AreApart}
use Rattle.guest_save.proofs.first_entries.are_apart.Given as goal

abbrev pub invariant-loop-i : goal.invariant-loop-i
invariant-loop-i l = AllPairs AreApart (take l.i l.entries)
