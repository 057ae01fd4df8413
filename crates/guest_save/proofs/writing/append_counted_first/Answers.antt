use Rattle.std.specs.Prelude.{Err}
use Rattle.std.proofs.Common.{◌≡◌, rules}
use Rattle.guest_save.proofs.Buffering.{buffers_stopped, buffers_then}
use Rattle.guest_save.proofs.WrittenRam.{first_whole}
use Rattle.guest_save.proofs.writing.append_counted_first.Goals as goal

pub returns-in_err-append_number : goal.returns-in_err-append_number
returns-in_err-append_number g c =
    let is : c.from_residual.result ≡ Err c.in_err-append_number.field-0.0 = search rules in
    rw is (rw (first_whole _) (buffers_stopped g.O.Sink c.in_err-append_number.field-0.0 c.args.out.now c.append_number.new.out c.args.held.now.items c.append_number.new.held.items _ _ (rw c.first.ensures at c.in_err-append_number.ensures)))

pub returns : goal.returns
returns g c = rw (first_whole _) (buffers_then g.O.Sink tt c.append_first_entries.result c.args.out.now c.append_number.new.out c.append_first_entries.new.out c.args.held.now.items c.append_number.new.held.items c.append_first_entries.new.held.items _ _ (rw c.first.ensures at c.in_ok-append_number.ensures) (rw c.first-2.ensures at c.append_first_entries.ensures))
