use Rattle.std.proofs.Common.{take}
use Rattle.std.specs.List.{All}
use Rattle.guest_save.specs.Savable.{IsSavableEntry}
use Rattle.guest_save.proofs.savable.entries_fit.Given as goal

abbrev pub invariant-loop-entry : goal.invariant-loop-entry
invariant-loop-entry l = All (IsSavableEntry l.key l.ram l.device) (take l.entry-index l.entries)
