use Rattle.std.specs.Prelude.{Err}
use Rattle.std.proofs.Common.{◌≡◌, [], sym, rules}
use Rattle.std.proofs.lemmas.List.{append-nil}
use Rattle.guest_save.proofs.Buffering.{kept}
use Rattle.guest_save.proofs.WrittenRam.{ram_more, ram_stopped}
use Rattle.guest_save.proofs.writing.append_ram.Goals as goal

pub loop-number-init : goal.loop-number-init
loop-number-init g c = kept g.O.Sink tt c.args.out.now c.args.held.now.items c.args.held.now.items [] (sym (append-nil c.args.held.now.items))

pub loop-number-preserved : goal.loop-number-preserved
loop-number-preserved g c =
    ram_more g.O.Sink (g.S.Snapshot.machine c.args.snapshot.now).ram tt tt c.args.out.now c.loop-number.out c.append_whole.new.out c.args.held.now.items c.loop-number.held.items
    c.append_whole.new.held.items c.loop-number.number c.loop-number.invariant (rw c.block.ensures at c.in_ok-append_whole.ensures)

pub returns-in_err-append_whole : goal.returns-in_err-append_whole
returns-in_err-append_whole g c =
    let is : c.from_residual.result ≡ Err c.in_err-append_whole.field-0.0 = search rules in
    rw is (ram_stopped g.O.Sink (g.S.Snapshot.machine c.args.snapshot.now).ram tt c.in_err-append_whole.field-0.0 c.args.out.now c.loop-number.out c.append_whole.new.out
    c.args.held.now.items c.loop-number.held.items c.append_whole.new.held.items c.loop-number.number c.loop-number.invariant (rw c.block.ensures at c.in_err-append_whole.ensures))
