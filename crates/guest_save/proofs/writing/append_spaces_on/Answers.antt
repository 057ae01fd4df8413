use Rattle.std.specs.Prelude.{Err}
use Rattle.std.proofs.Common.{◌≡◌, rules}
use Rattle.guest_save.proofs.Buffering.{buffers_stopped, buffers_then}
use Rattle.guest_save.proofs.writing.append_spaces_on.Goals as goal

pub returns-in_err-append_spaces : goal.returns-in_err-append_spaces
returns-in_err-append_spaces g c =
    let is : c.from_residual.result ≡ Err c.in_err-append_spaces.field-0.0 = search rules in
    rw is ((buffers_stopped g.O.Sink c.in_err-append_spaces.field-0.0 c.args.out.now c.append_spaces.new.out c.args.held.now.items c.append_spaces.new.held.items _ _ c.in_err-append_spaces.ensures))

pub returns : goal.returns
returns g c = (buffers_then g.O.Sink tt c.append_first.result c.args.out.now c.append_spaces.new.out c.append_first.new.out c.args.held.now.items c.append_spaces.new.held.items c.append_first.new.held.items _ _ c.in_ok-append_spaces.ensures c.append_first.ensures)
