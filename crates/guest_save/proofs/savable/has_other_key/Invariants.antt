use Rattle.std.proofs.Common.{◌≡◌, false, take}
use Rattle.std.specs.List.{All}
use Rattle.arch_defs.specs.Roots.{is_root}
use Rattle.guest_save.proofs.savable.has_other_key.Given as goal

abbrev pub invariant-loop-other : goal.invariant-loop-other
invariant-loop-other l = All (λ other. is_root l.key other.key ≡ false) (take l.other-index l.others)
