use Rattle.std.specs.Prelude.{Err}
use Rattle.std.proofs.Common.{◌≡◌, rules}
use Rattle.guest_save.proofs.Buffering.{buffers_stopped, buffers_then}
use Rattle.guest_save.specs.Forms.{spaces_form}
use Rattle.guest_save.proofs.writing.append_from_spaces.Goals as goal

pub returns-in_err-append_number : goal.returns-in_err-append_number
unfolding spaces_form
returns-in_err-append_number g c =
    let is : c.from_residual.result ≡ Err c.in_err-append_number.field-0.0 = search rules in
    rw is ((buffers_stopped g.O.Sink c.in_err-append_number.field-0.0 c.args.out.now c.append_number.new.out c.args.held.now.items c.append_number.new.held.items _ _ (rw c.held.ensures at c.in_err-append_number.ensures)))

pub returns : goal.returns
unfolding spaces_form
returns g c = (buffers_then g.O.Sink tt c.append_spaces_on.result c.args.out.now c.append_number.new.out c.append_spaces_on.new.out c.args.held.now.items c.append_number.new.held.items c.append_spaces_on.new.held.items _ _ (rw c.held.ensures at c.in_ok-append_number.ensures) c.append_spaces_on.ensures)
