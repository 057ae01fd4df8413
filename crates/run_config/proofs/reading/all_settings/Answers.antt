use Rattle.std.proofs.Common.{◌≡◌, [], ◌∷◌, None, length-append, ◌∙◌, ap, sym, arith}
use Rattle.toml.specs.View.{table_view}
use Rattle.run_config.specs.Guests.{guest_fault, settings_of}
use Rattle.run_config.specs.Seen.{names_of}
use Rattle.run_config.proofs.Guesting.{all_pass, all_settings, guest_passes, settings_more}
use Rattle.run_config.proofs.reading.all_settings.Goals as goal

pub returns-clause-passed : goal.returns-clause-passed
returns-clause-passed c = c.loop-table.invariant.faults ∙ all_pass _ _ _ _ c.loop-table-test.false

pub returns-clause-count : goal.returns-clause-count
returns-clause-count c = omega (arith, c.loop-table.invariant.count, c.loop-table.auto.table-index-end, c.loop-table-test.false)

pub returns-clause-settings : goal.returns-clause-settings
returns-clause-settings c = sym (c.loop-table.invariant.settings ∙ all_settings _ _ _ _ c.loop-table-test.false)

pub loop-table-preserved : goal.loop-table-preserved
loop-table-preserved c =
    let format = c.args.format in
    let guests = c.loop-table.guests.items in
    let is = c.in_ok-guest.ensures.1 ∙ ap (λ t. settings_of format (table_view t.now)) c.table-item.is in
    let passed : guest_fault format (names_of guests) (table_view c.table-item.result.now) ≡ None = rw c.as_slice.ensures.value at c.in_ok-guest.ensures.0 in
    let none = ap (λ t. guest_fault format (names_of guests) (table_view t.now)) (sym c.table-item.is) ∙ passed in
    record {
      count = rw c.in_ok-push.ensures.items (omega (arith, length-append guests (c.in_ok-guest.guest ∷ []), c.loop-table.invariant.count));
      faults = rw c.in_ok-push.ensures.items (c.loop-table.invariant.faults ∙ guest_passes format guests c.in_ok-guest.guest _ c.loop-table.table-index c.table-item.result c.loop-table-test.true is none);
      settings = rw c.in_ok-push.ensures.items (c.loop-table.invariant.settings ∙ settings_more format guests c.in_ok-guest.guest _ c.loop-table.table-index c.table-item.result c.loop-table-test.true is);
    }
