use Rattle.std.specs.Prelude.{Err}
use Rattle.std.proofs.Common.{◌≡◌, rules}
use Rattle.guest_save.proofs.Buffering.{puts_all, puts_front}
use Rattle.guest_save.proofs.writing.put.Goals as goal

pub returns-in_err-append_machine : goal.returns-in_err-append_machine
returns-in_err-append_machine g c =
    let is : c.from_residual.result ≡ Err c.in_err-append_machine.field-0.0 = search rules in
    rw is (puts_front g.O.Sink c.in_err-append_machine.field-0.0 c.args.out.now c.append_machine.new.out c.append_machine.new.held.items _ (rw c.new-held.ensures at c.in_err-append_machine.ensures))

pub returns : goal.returns
returns g c = puts_all g.O.Sink tt c.flush.result c.args.out.now c.append_machine.new.out c.flush.new.out c.append_machine.new.held.items _ (rw c.new-held.ensures at c.in_ok-append_machine.ensures) c.flush.ensures.put
