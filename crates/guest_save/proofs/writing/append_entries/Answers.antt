use Rattle.std.specs.Prelude.{Err}
use Rattle.std.proofs.Common.{◌≡◌, [], get_or, sym, rules}
use Rattle.std.proofs.lemmas.List.{append-nil}
use Rattle.guest_save.proofs.Buffering.{kept, list_done, list_more, list_stopped}
use Rattle.guest_save.specs.Forms.{entry_form}
use Rattle.guest_save.proofs.writing.append_entries.Goals as goal

pub entry-requires-clause-place : goal.entry-requires-clause-place
entry-requires-clause-place g c = λ d. rw (c.len-place-end.ensures d) at c.loop-place-test.true

pub loop-place-init : goal.loop-place-init
loop-place-init g c = λ d. kept g.O.Sink tt c.args.out.now c.args.held.now.items c.args.held.now.items [] (sym (append-nil c.args.held.now.items))

pub loop-place-preserved : goal.loop-place-preserved
loop-place-preserved g c = λ d.
    list_more g.O.Sink entry_form (get_or (g.S.Snapshot.machine c.args.snapshot.now).spaces c.args.space d).entries tt tt c.args.out.now c.loop-place.out c.append_entry.new.out
    c.args.held.now.items c.loop-place.held.items c.append_entry.new.held.items c.loop-place.place c.entry.result (rw (c.len-place-end.ensures d) at c.loop-place-test.true)
    (c.loop-place.invariant d) (rw (c.entry.ensures d) at c.in_ok-append_entry.ensures)

pub returns-in_err-append_entry : goal.returns-in_err-append_entry
returns-in_err-append_entry g c =
    let is : c.from_residual.result ≡ Err c.in_err-append_entry.field-0.0 = search rules in
    λ d. rw is (list_stopped g.O.Sink entry_form (get_or (g.S.Snapshot.machine c.args.snapshot.now).spaces c.args.space d).entries tt c.in_err-append_entry.field-0.0 c.args.out.now
    c.loop-place.out c.append_entry.new.out c.args.held.now.items c.loop-place.held.items c.append_entry.new.held.items c.loop-place.place c.entry.result
    (rw (c.len-place-end.ensures d) at c.loop-place-test.true) (c.loop-place.invariant d) (rw (c.entry.ensures d) at c.in_err-append_entry.ensures))

pub returns : goal.returns
returns g c = λ d.
    list_done g.O.Sink entry_form (get_or (g.S.Snapshot.machine c.args.snapshot.now).spaces c.args.space d).entries tt c.args.out.now c.loop-place.out c.args.held.now.items
    c.loop-place.held.items c.loop-place.place (rw (c.len-place-end.ensures d) at c.loop-place-test.false) (c.loop-place.invariant d)
