use Rattle.std.proofs.Common.{◌∙◌, false, refl, subst, arith, rules, ◌≡◌, Err}
use Rattle.outside.specs.Pieces.{Appends, Puts}
use Rattle.nesthv_top.proofs.CheckLines.{put_further, put_none, stopped_at}
use Rattle.nesthv_top.proofs.checking.put_guests.Goals as goal
use Rattle.outside.proofs.Faults.{rose_since}

pub loop-guest-init : goal.loop-guest-init
loop-guest-init g c = record { put = put_none g.O.Sink.stands_for c.args.out.now; count = omega arith; stays = refl }

pub returns-in_err-put : goal.returns-in_err-put
returns-in_err-put g c =
    let is : c.from_residual.result ≡ Err c.in_err-put.field-0.0 = search rules in
    rw is (record {
      bytes = stopped_at g.O.Sink.stands_for c.args.out.now c.loop-guest.out c.put.new.self c.args.guests.now c.loop-guest.guest-index c.guest-item.result
          c.loop-guest-test.true c.guest-item.is c.loop-guest.invariant.put
          (subst (λ line. Puts g.O.Sink.stands_for c.loop-guest.out c.put.new.self false line) (c.as_slice.ensures.value ∙ c.guest_line.ensures) c.in_err-put.ensures.bytes);
      cause = rose_since _ _ _ c.loop-guest.invariant.count c.in_err-put.ensures.cause;
      count = omega (arith, c.loop-guest.invariant.count, c.put.ensures.count);
      stays = c.put.ensures.stays ∙ c.loop-guest.invariant.stays;
    })

pub loop-guest-preserved : goal.loop-guest-preserved
loop-guest-preserved g c = record {
  put = put_further g.O.Sink.stands_for c.args.out.now c.loop-guest.out c.put.new.self c.args.guests.now c.loop-guest.guest-index c.guest-item.result
      c.loop-guest-test.true c.guest-item.is c.loop-guest.invariant.put
      (subst (λ line. Appends g.O.Sink.stands_for c.loop-guest.out c.put.new.self line) (c.as_slice.ensures.value ∙ c.guest_line.ensures) c.in_ok-put.ensures.bytes);
  count = omega (arith, c.loop-guest.invariant.count, c.put.ensures.count);
  stays = c.put.ensures.stays ∙ c.loop-guest.invariant.stays;
}
