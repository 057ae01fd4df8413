use Rattle.std.proofs.Common.{◌∙◌, false, refl, subst, arith, rules, ◌≡◌, Err}
use Rattle.outside.specs.Pieces.{Appends, Puts}
use Rattle.work_images.specs.Guests.{guest_name}
use Rattle.nesthv_top.specs.Runnings.{work_names}
use Rattle.nesthv_top.specs.Works.{line_of}
use Rattle.nesthv_top.proofs.Sectioning.{put_further, put_none, stopped_at}
use Rattle.nesthv_top.proofs.Working.{name_at}
use Rattle.nesthv_top.proofs.works.put_lines.Goals as goal
use Rattle.outside.proofs.Faults.{rose_since}

pub loop-i-init : goal.loop-i-init
loop-i-init g c = record { put = put_none g.O.Sink.stands_for c.args.out.now line_of work_names c.args.host.now.machines; count = omega arith; stays = refl }

pub returns-in_err-put : goal.returns-in_err-put
returns-in_err-put g c =
    let is : c.from_residual.result ≡ Err c.in_err-put.field-0.0 = search rules in
    let put = subst (λ line. Puts g.O.Sink.stands_for c.loop-i.out c.put.new.self false line) (c.as_slice.ensures.value ∙ c.sum_line-line.ensures) c.in_err-put.ensures.bytes in
    rw is (record {
      bytes = stopped_at g.O.Sink.stands_for c.args.out.now c.loop-i.out c.put.new.self line_of work_names c.args.host.now.machines c.loop-i.i (guest_name c.loop-i.i)
          c.requires.count c.loop-i-test.true (name_at c.loop-i.i c.loop-i-test.true) c.loop-i.invariant.put
          (rw (c.status.ensures, c.steps.ensures, c.console.ensures) at put);
      cause = rose_since _ _ _ c.loop-i.invariant.count c.in_err-put.ensures.cause;
      count = omega (arith, c.loop-i.invariant.count, c.put.ensures.count);
      stays = c.put.ensures.stays ∙ c.loop-i.invariant.stays;
    })

pub loop-i-preserved : goal.loop-i-preserved
loop-i-preserved g c =
    let put = subst (λ line. Appends g.O.Sink.stands_for c.loop-i.out c.put.new.self line) (c.as_slice.ensures.value ∙ c.sum_line-line.ensures) c.in_ok-put.ensures.bytes in
    record {
      put = put_further g.O.Sink.stands_for c.args.out.now c.loop-i.out c.put.new.self line_of work_names c.args.host.now.machines c.loop-i.i (guest_name c.loop-i.i)
          c.requires.count c.loop-i-test.true (name_at c.loop-i.i c.loop-i-test.true) c.loop-i.invariant.put
          (rw (c.status.ensures, c.steps.ensures, c.console.ensures) at put);
      count = omega (arith, c.loop-i.invariant.count, c.put.ensures.count);
      stays = c.put.ensures.stays ∙ c.loop-i.invariant.stays;
    }
