use Rattle.std.specs.Prelude.{Err}
use Rattle.std.proofs.Common.{◌≡◌, rules}
use Rattle.guest_save.proofs.Buffering.{buffers_stopped, buffers_then}
use Rattle.guest_save.specs.Forms.{console_form}
use Rattle.guest_save.proofs.writing.append_from_console.Goals as goal

pub returns-in_err-append_number : goal.returns-in_err-append_number
unfolding console_form
returns-in_err-append_number g c =
    let is : c.from_residual.result ≡ Err c.in_err-append_number.field-0.0 = search rules in
    rw is ((buffers_stopped g.O.Sink c.in_err-append_number.field-0.0 c.args.out.now c.append_number.new.out c.args.held.now.items c.append_number.new.held.items _ _ (rw c.console.ensures at c.in_err-append_number.ensures)))

pub returns : goal.returns
unfolding console_form
returns g c = (buffers_then g.O.Sink tt c.append_console_on.result c.args.out.now c.append_number.new.out c.append_console_on.new.out c.args.held.now.items c.append_number.new.held.items c.append_console_on.new.held.items _ _ (rw c.console.ensures at c.in_ok-append_number.ensures) c.append_console_on.ensures)
