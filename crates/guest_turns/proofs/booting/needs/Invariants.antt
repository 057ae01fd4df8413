use Rattle.std.proofs.Common.{◌≡◌, take}
use Rattle.guest_turns.specs.Sources.{needs_of_sources}
use Rattle.guest_turns.proofs.booting.needs.Given as goal

abbrev pub invariant-loop-source : goal.invariant-loop-source
invariant-loop-source l = l.needs.items ≡ needs_of_sources (take l.source-index l.sources)
