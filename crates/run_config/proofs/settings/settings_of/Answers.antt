use Rattle.std.proofs.Common.{rules, ◌≡◌, Err}
use Rattle.std.proofs.lemmas.List.{length-map}
use Rattle.toml.specs.View.{table_view}
use Rattle.run_config.specs.declared.ends.ReadEnd.TheVariants.{Refused}
use Rattle.run_config.specs.Guests.{absent_key, wrong_option, wrong_value}
use Rattle.run_config.specs.Seen.{names_of}
use Rattle.run_config.proofs.Guesting.{absent_refuses, option_refuses, wrong_refuses}
use Rattle.run_config.proofs.settings.settings_of.Goals as goal

pub returns-in_err-all_present : goal.returns-in_err-all_present
unfolding absent_key
returns-in_err-all_present c =
    let is : c.from_residual.result ≡ Err (Refused c.in_err-all_present.field-0.0) = search rules in
    rw is (absent_refuses c.args.format (names_of c.args.before.now) (table_view c.args.table.now) c.in_err-all_present.field-0.0
    (rw (length-map c.args.before.now (λ g. g.name)) (rw (c.guest_rows-rows.ensures, c.is_resumed-resumed.ensures) at (c.in_err-all_present.ensures))))

pub returns-in_err-all_in_range : goal.returns-in_err-all_in_range
unfolding absent_key wrong_value
returns-in_err-all_in_range c =
    let is : c.from_residual-in_err-all_in_range.result ≡ Err (Refused c.in_err-all_in_range.field-0.0) = search rules in
    rw is (wrong_refuses c.args.format (names_of c.args.before.now) (table_view c.args.table.now) c.in_err-all_in_range.field-0.0
    (rw (length-map c.args.before.now (λ g. g.name)) (rw (c.guest_rows-rows.ensures, c.is_resumed-resumed.ensures) at (c.in_ok-all_present.ensures)))
    (rw (length-map c.args.before.now (λ g. g.name)) (rw (c.guest_rows-rows.ensures, c.is_resumed-resumed.ensures) at (c.in_err-all_in_range.ensures))))

pub returns-in_err-all_in_range-2 : goal.returns-in_err-all_in_range-2
unfolding absent_key wrong_value wrong_option
returns-in_err-all_in_range-2 c =
    let is : c.from_residual-in_err-all_in_range-2.result ≡ Err (Refused c.in_err-all_in_range-2.field-0.0) = search rules in
    rw is (option_refuses c.args.format (names_of c.args.before.now) (table_view c.args.table.now) c.in_err-all_in_range-2.field-0.0
    (rw (length-map c.args.before.now (λ g. g.name)) (rw (c.guest_rows-rows.ensures, c.is_resumed-resumed.ensures) at (c.in_ok-all_present.ensures)))
    (rw (length-map c.args.before.now (λ g. g.name)) (rw (c.guest_rows-rows.ensures, c.is_resumed-resumed.ensures) at (c.in_ok-all_in_range.ensures)))
    (rw (length-map c.args.before.now (λ g. g.name)) (rw (c.guest_options-options.ensures, c.is_resumed-resumed.ensures) at (c.in_err-all_in_range-2.ensures))))
