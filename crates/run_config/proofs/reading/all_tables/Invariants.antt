use Rattle.std.proofs.Common.{◌≡◌, drop}
use Rattle.toml.specs.View.{items_view}
use Rattle.run_config.specs.Seen.{tables_seen}
use Rattle.run_config.specs.Values.{tables_of}
use Rattle.run_config.proofs.Tabling.{goes_on}
use Rattle.run_config.proofs.reading.all_tables.Given as goal

abbrev pub invariant-loop-value : goal.invariant-loop-value
invariant-loop-value l =
    tables_of (items_view l.values) ≡ goes_on (tables_seen l.tables.items) (items_view (drop l.value-index l.values))
