use Rattle.std.proofs.Common.{◌∙◌, sym, ap}
use Rattle.toml.specs.Data.{as_table}
use Rattle.toml.specs.View.{view}
use Rattle.run_config.proofs.Tabling.{all_tables, table_more}
use Rattle.run_config.proofs.reading.all_tables.Goals as goal

pub loop-value-preserved : goal.loop-value-preserved
loop-value-preserved c =
    rw c.in_ok-push.ensures.items (c.loop-value.invariant
    ∙ table_more c.loop-value.tables.items c.args.values.now c.loop-value.value-index c.value-item.result c.in-Some.table c.loop-value-test.true (ap (λ v. as_table (view v)) (sym c.value-item.is) ∙ sym c.in-Some.ensures))

pub returns : goal.returns
returns c = sym (c.loop-value.invariant ∙ all_tables _ _ _ c.loop-value-test.false)
