use Rattle.std.specs.Prelude.{Err}
use Rattle.std.proofs.Common.{◌≡◌, [], sym, rules}
use Rattle.std.proofs.lemmas.List.{append-nil}
use Rattle.guest_save.proofs.Buffering.{kept, list_done, list_more, list_stopped}
use Rattle.guest_save.proofs.WrittenRam.{no_space}
use Rattle.guest_save.specs.Forms.{space_form}
use Rattle.guest_save.proofs.writing.append_spaces.Goals as goal

pub loop-space-init : goal.loop-space-init
loop-space-init g c = kept g.O.Sink tt c.args.out.now c.args.held.now.items c.args.held.now.items [] (sym (append-nil c.args.held.now.items))

pub loop-space-preserved : goal.loop-space-preserved
loop-space-preserved g c =
    list_more g.O.Sink space_form (g.S.Snapshot.machine c.args.snapshot.now).spaces tt tt c.args.out.now c.loop-space.out c.append_space.new.out c.args.held.now.items c.loop-space.held.items
    c.append_space.new.held.items c.loop-space.space no_space (rw c.held-space-end.ensures at c.loop-space-test.true) c.loop-space.invariant (c.in_ok-append_space.ensures no_space)

pub returns-in_err-append_space : goal.returns-in_err-append_space
returns-in_err-append_space g c =
    let is : c.from_residual.result ≡ Err c.in_err-append_space.field-0.0 = search rules in
    rw is (list_stopped g.O.Sink space_form (g.S.Snapshot.machine c.args.snapshot.now).spaces tt c.in_err-append_space.field-0.0 c.args.out.now c.loop-space.out c.append_space.new.out
    c.args.held.now.items c.loop-space.held.items c.append_space.new.held.items c.loop-space.space no_space (rw c.held-space-end.ensures at c.loop-space-test.true)
    c.loop-space.invariant (c.in_err-append_space.ensures no_space))

pub returns : goal.returns
returns g c =
    list_done g.O.Sink space_form (g.S.Snapshot.machine c.args.snapshot.now).spaces tt c.args.out.now c.loop-space.out c.args.held.now.items c.loop-space.held.items c.loop-space.space
    (rw c.held-space-end.ensures at c.loop-space-test.false) c.loop-space.invariant
