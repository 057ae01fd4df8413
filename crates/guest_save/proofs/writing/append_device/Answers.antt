use Rattle.std.specs.Prelude.{Err}
use Rattle.std.proofs.Common.{◌≡◌, rules}
use Rattle.guest_save.proofs.Buffering.{buffers_stopped, buffers_then}
use Rattle.guest_save.proofs.writing.append_device.Goals as goal

pub returns-in_err-append_number : goal.returns-in_err-append_number
returns-in_err-append_number g c =
    let is : c.from_residual.result ≡ Err c.in_err-append_number.field-0.0 = search rules in
    rw is ((buffers_stopped g.O.Sink c.in_err-append_number.field-0.0 c.args.out.now c.append_number.new.out c.args.held.now.items c.append_number.new.held.items _ _ (rw c.device_number.ensures at c.in_err-append_number.ensures)))

pub returns : goal.returns
returns g c = (buffers_then g.O.Sink tt c.append_progress.result c.args.out.now c.append_number.new.out c.append_progress.new.out c.args.held.now.items c.append_number.new.held.items c.append_progress.new.held.items _ _ (rw c.device_number.ensures at c.in_ok-append_number.ensures) c.append_progress.ensures)
