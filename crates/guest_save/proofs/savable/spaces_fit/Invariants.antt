use Rattle.std.proofs.Common.{take}
use Rattle.std.specs.List.{All}
use Rattle.guest_save.specs.Tests.{IsSoundSpace}
use Rattle.guest_save.proofs.savable.spaces_fit.Given as goal

abbrev pub invariant-loop-space : goal.invariant-loop-space
invariant-loop-space l = All (IsSoundSpace l.ram l.room l.device) (take l.space-index l.spaces)
