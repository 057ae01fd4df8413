use Rattle.std.proofs.Common.{◌≡◌, drop}
use Rattle.toml.specs.View.{table_view}
use Rattle.run_config.specs.Tests.{absent_among}
use Rattle.run_config.proofs.kinds.all_present.Given as goal

abbrev pub invariant-loop-row : goal.invariant-loop-row
invariant-loop-row l =
    absent_among l.guest (table_view l.table) l.rows ≡ absent_among l.guest (table_view l.table) (drop l.row-index l.rows)
