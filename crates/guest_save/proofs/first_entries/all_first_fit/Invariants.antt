use Rattle.std.proofs.Common.{take}
use Rattle.std.specs.List.{All}
use Rattle.run_laws.specs.FirstKeys.{IsOfFirstTable}
use Rattle.guest_save.proofs.first_entries.all_first_fit.Given as goal

abbrev pub invariant-loop-entry : goal.invariant-loop-entry
invariant-loop-entry l = All IsOfFirstTable (take l.entry-index l.entries)
