use Rattle.std.proofs.Common.{◌≡◌, drop}
use Rattle.toml.specs.View.{table_view}
use Rattle.run_config.specs.Tests.{wrong_among}
use Rattle.run_config.proofs.kinds.all_in_range.Given as goal

abbrev pub invariant-loop-row : goal.invariant-loop-row
invariant-loop-row l =
    wrong_among l.guest (table_view l.table) l.rows ≡ wrong_among l.guest (table_view l.table) (drop l.row-index l.rows)
