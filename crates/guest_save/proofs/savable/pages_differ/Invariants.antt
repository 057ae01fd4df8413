use Rattle.std.proofs.Common.{take}
use Rattle.std.specs.List.{AllPairs}
use Rattle.arch_defs.specs.CachedEntries.{HasOtherPage}
use Rattle.guest_save.proofs.savable.pages_differ.Given as goal

abbrev pub invariant-loop-i : goal.invariant-loop-i
invariant-loop-i l = AllPairs HasOtherPage (take l.i l.entries)
