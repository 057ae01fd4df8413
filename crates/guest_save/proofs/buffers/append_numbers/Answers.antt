use Rattle.std.specs.Prelude.{Err}
use Rattle.std.proofs.Common.{◌≡◌, [], sym, rules}
use Rattle.std.proofs.lemmas.List.{append-nil}
use Rattle.guest_save.proofs.Buffering.{kept, list_done, list_more, list_stopped}
use Rattle.guest_save.specs.Numbers.{number_bytes}
use Rattle.guest_save.proofs.buffers.append_numbers.Goals as goal

pub loop-i-init : goal.loop-i-init
loop-i-init g c = kept g.O.Sink tt c.args.out.now c.args.held.now.items c.args.held.now.items [] (sym (append-nil c.args.held.now.items))

pub loop-i-preserved : goal.loop-i-preserved
loop-i-preserved g c =
    list_more g.O.Sink number_bytes c.args.values.now tt tt c.args.out.now c.loop-i.out c.append_number.new.out c.args.held.now.items c.loop-i.held.items c.append_number.new.held.items
    c.loop-i.i 0 c.loop-i-test.true c.loop-i.invariant c.in_ok-append_number.ensures

pub returns-in_err-append_number : goal.returns-in_err-append_number
returns-in_err-append_number g c =
    let is : c.from_residual.result ≡ Err c.in_err-append_number.field-0.0 = search rules in
    rw is (list_stopped g.O.Sink number_bytes c.args.values.now tt c.in_err-append_number.field-0.0 c.args.out.now c.loop-i.out c.append_number.new.out
    c.args.held.now.items c.loop-i.held.items c.append_number.new.held.items c.loop-i.i 0 c.loop-i-test.true c.loop-i.invariant c.in_err-append_number.ensures)

pub returns : goal.returns
returns g c =
    list_done g.O.Sink number_bytes c.args.values.now tt c.args.out.now c.loop-i.out c.args.held.now.items c.loop-i.held.items c.loop-i.i c.loop-i-test.false c.loop-i.invariant
