use Rattle.std.specs.Prelude.{Err}
use Rattle.std.proofs.Common.{◌≡◌, rules}
use Rattle.guest_save.proofs.Buffering.{buffers_stopped, buffers_then}
use Rattle.std.proofs.lemmas.List.Concat.{flat_map-append}
use Rattle.guest_save.specs.Numbers.{number_bytes}
use Rattle.guest_save.proofs.writing.append_state.Goals as goal

pub returns-in_err-append_numbers : goal.returns-in_err-append_numbers
returns-in_err-append_numbers g c =
    let is : c.from_residual.result ≡ Err c.in_err-append_numbers.field-0.0 = search rules in
    rw is (rw (flat_map-append number_bytes _ _) (buffers_stopped g.O.Sink c.in_err-append_numbers.field-0.0 c.args.out.now c.append_numbers.new.out c.args.held.now.items c.append_numbers.new.held.items _ _ (rw c.csr_numbers.ensures at c.in_err-append_numbers.ensures)))

pub returns : goal.returns
returns g c = rw (flat_map-append number_bytes _ _) (buffers_then g.O.Sink tt c.append_numbers-2.result c.args.out.now c.append_numbers.new.out c.append_numbers-2.new.out c.args.held.now.items c.append_numbers.new.held.items c.append_numbers-2.new.held.items _ _ (rw c.csr_numbers.ensures at c.in_ok-append_numbers.ensures) (rw c.reservation_numbers.ensures at c.append_numbers-2.ensures))
