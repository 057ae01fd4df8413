use Rattle.std.proofs.Common.{◌≡◌, map}
use Rattle.guest_turns.specs.declared.sources.Source.TheVariants.{Fresh}
use Rattle.guest_turns.proofs.sources.fresh_sources.Given as goal

abbrev pub invariant-loop-spec : goal.invariant-loop-spec
invariant-loop-spec l = record {
  can_next : (goal.iterator-loop-spec).can_next l.spec-iterator;
  finite : (goal.iterator-loop-spec).is_finite l.spec-iterator;
  sources : l.sources.items ≡ map Fresh l.yielded;
}
