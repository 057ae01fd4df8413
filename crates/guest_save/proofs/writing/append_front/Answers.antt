use Rattle.std.specs.Prelude.{Err}
use Rattle.std.proofs.Common.{◌≡◌, rules}
use Rattle.guest_save.proofs.Buffering.{buffers_stopped, buffers_then}
use Rattle.guest_save.specs.Forms.{form_with}
use Rattle.guest_save.proofs.writing.append_front.Goals as goal

pub returns-in_err-append : goal.returns-in_err-append
unfolding form_with
returns-in_err-append g c =
    let is : c.from_residual.result ≡ Err c.in_err-append.field-0.0 = search rules in
    rw is ((buffers_stopped g.O.Sink c.in_err-append.field-0.0 c.args.out.now c.append.new.out c.args.held.now.items c.append.new.held.items _ _ (rw c.letters.ensures at c.in_err-append.ensures)))

pub returns : goal.returns
unfolding form_with
returns g c = (buffers_then g.O.Sink tt c.append_header_on.result c.args.out.now c.append.new.out c.append_header_on.new.out c.args.held.now.items c.append.new.held.items c.append_header_on.new.held.items _ _ (rw c.letters.ensures at c.in_ok-append.ensures) c.append_header_on.ensures)
