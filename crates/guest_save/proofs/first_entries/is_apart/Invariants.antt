use Rattle.std.proofs.Common.{take}
use Rattle.std.specs.List.{All}
use Rattle.run_laws.specs.FirstKeys.{AreApart}
use Rattle.guest_save.proofs.first_entries.is_apart.Given as goal

abbrev pub invariant-loop-other : goal.invariant-loop-other
invariant-loop-other l = All (λ other. AreApart other l.entry) (take l.other-index l.others)
