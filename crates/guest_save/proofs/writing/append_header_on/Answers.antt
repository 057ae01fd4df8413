use Rattle.std.specs.Prelude.{Err}
use Rattle.std.proofs.Common.{◌≡◌, rules}
use Rattle.guest_save.proofs.Buffering.{buffers_stopped, buffers_then}
use Rattle.guest_save.proofs.writing.append_header_on.Goals as goal

pub returns-in_err-append_header : goal.returns-in_err-append_header
returns-in_err-append_header g c =
    let is : c.from_residual.result ≡ Err c.in_err-append_header.field-0.0 = search rules in
    rw is ((buffers_stopped g.O.Sink c.in_err-append_header.field-0.0 c.args.out.now c.append_header.new.out c.args.held.now.items c.append_header.new.held.items _ _ (rw c.header.ensures at c.in_err-append_header.ensures)))

pub returns : goal.returns
returns g c = (buffers_then g.O.Sink tt c.append_from_console.result c.args.out.now c.append_header.new.out c.append_from_console.new.out c.args.held.now.items c.append_header.new.held.items c.append_from_console.new.held.items _ _ (rw c.header.ensures at c.in_ok-append_header.ensures) c.append_from_console.ensures)
