use Rattle.std.proofs.Common.{take}
use Rattle.std.specs.List.{All}
use Rattle.arch_defs.specs.CachedEntries.{HasOtherPage}
use Rattle.guest_save.proofs.savable.has_other_page.Given as goal

abbrev pub invariant-loop-other : goal.invariant-loop-other
invariant-loop-other l = All (λ other. HasOtherPage other l.entry) (take l.other-index l.others)
