use Rattle.std.proofs.Common.{◌∙◌, ◌≤◌, length, sym, arith}
use Rattle.toml.specs.View.{table_view}
use Rattle.run_config.specs.Seen.{tables_seen}
use Rattle.run_config.proofs.Accepted.{kept_light, kept_within}
use Rattle.run_config.proofs.reading.body_of.Goals as goal

pub turns_of-requires-clause-light : goal.turns_of-requires-clause-light
turns_of-requires-clause-light c =
    rw c.as_slice-2.ensures.value (kept_light c.args.format (tables_seen c.as_slice.result.now) c.in_ok-guests.guests.items c.in_ok-guests.ensures.passed c.in_ok-guests.ensures.settings)

pub new-requires : goal.new-requires
new-requires c =
    let some : 1 ≤ length c.in-Some.tables.items = rw c.in-Some.is at c.in_ok-tables.ensures.some in
    let few : length c.in-Some.tables.items ≤ 16 = rw c.in-Some.is at c.in_ok-tables.ensures.few in
    kept_within c.args.format (table_view c.args.document.now) (tables_seen c.as_slice.result.now) c.in_ok-guests.guests.items c.in-Some-2.schedule c.in_ok-turns.turns c.spare_at.result c.len.result
    (omega (arith, c.in_ok-guests.ensures.count, c.as_slice.ensures.len)) (omega (arith, c.in_ok-guests.ensures.count, c.as_slice.ensures.len)) (rw c.document_options-options.ensures at c.in_ok-all_in_range.ensures) c.in_ok-guests.ensures.passed c.in_ok-guests.ensures.settings (omega (arith, c.len.ensures)) (sym c.in_ok-schedule.ensures.schedule ∙ c.in-Some-2.is)
    (rw c.as_slice-2.ensures.value at c.in_ok-turns.ensures.0) (rw c.as_slice-2.ensures.value at c.in_ok-turns.ensures.1) c.spare_at.ensures
