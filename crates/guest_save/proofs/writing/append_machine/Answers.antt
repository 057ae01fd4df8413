use Rattle.std.specs.Prelude.{Err}
use Rattle.std.proofs.Common.{◌≡◌, rules}
use Rattle.guest_save.proofs.Buffering.{buffers_stopped, buffers_then}
use Rattle.guest_save.proofs.RoundTrip.{form_split}
use Rattle.guest_save.proofs.writing.append_machine.Goals as goal

pub returns-in_err-append_front : goal.returns-in_err-append_front
returns-in_err-append_front g c =
    let is : c.from_residual.result ≡ Err c.in_err-append_front.field-0.0 = search rules in
    rw is (rw (form_split _ _ _) (buffers_stopped g.O.Sink c.in_err-append_front.field-0.0 c.args.out.now c.append_front.new.out c.args.held.now.items c.append_front.new.held.items _ _ c.in_err-append_front.ensures))

pub returns : goal.returns
returns g c = rw (form_split _ _ _) (buffers_then g.O.Sink tt c.append_ram.result c.args.out.now c.append_front.new.out c.append_ram.new.out c.args.held.now.items c.append_front.new.held.items c.append_ram.new.held.items _ _ c.in_ok-append_front.ensures c.append_ram.ensures)
