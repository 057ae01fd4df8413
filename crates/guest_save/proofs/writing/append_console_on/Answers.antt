use Rattle.std.specs.Prelude.{Err}
use Rattle.std.proofs.Common.{◌≡◌, rules}
use Rattle.guest_save.proofs.Buffering.{buffers_stopped, buffers_then}
use Rattle.guest_save.proofs.writing.append_console_on.Goals as goal

pub returns-in_err-append_piece : goal.returns-in_err-append_piece
returns-in_err-append_piece g c =
    let is : c.from_residual.result ≡ Err c.in_err-append_piece.field-0.0 = search rules in
    rw is ((buffers_stopped g.O.Sink c.in_err-append_piece.field-0.0 c.args.out.now c.append_piece.new.out c.args.held.now.items c.append_piece.new.held.items _ _ (rw c.console.ensures at c.in_err-append_piece.ensures)))

pub returns : goal.returns
returns g c = (buffers_then g.O.Sink tt c.append_from_inputs.result c.args.out.now c.append_piece.new.out c.append_from_inputs.new.out c.args.held.now.items c.append_piece.new.held.items c.append_from_inputs.new.held.items _ _ (rw c.console.ensures at c.in_ok-append_piece.ensures) c.append_from_inputs.ensures)
