use Rattle.std.proofs.Common.{◌≡◌, map}
use Rattle.nesthv_top.specs.Loads.{source_read}
use Rattle.nesthv_top.proofs.loading.sources_made.Given as goal

abbrev pub invariant-loop-files : goal.invariant-loop-files
invariant-loop-files l = record {
  can_next : (goal.iterator-loop-files).can_next l.files-iterator;
  finite : (goal.iterator-loop-files).is_finite l.files-iterator;
  made : l.sources.items ≡ map source_read l.yielded;
}
