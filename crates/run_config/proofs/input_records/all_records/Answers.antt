use Rattle.std.proofs.Common.{[], arith}
use Rattle.run_config.specs.Records.{record_byte, moment_at}
use Rattle.turn_plan.proofs.Rounds.{place_more}
use Rattle.run_config.proofs.Recording.{each_whole}
use Rattle.run_config.proofs.input_records.all_records.Goals as goal

pub moment_at-requires : goal.moment_at-requires
moment_at-requires c = each_whole _ _ c.requires (rw c.record_count-count.ensures at c.loop-number-test.true)

pub byte_at-requires : goal.byte_at-requires
byte_at-requires c = each_whole _ _ c.requires (rw c.record_count-count.ensures at c.loop-number-test.true)

pub loop-number-preserved : goal.loop-number-preserved
loop-number-preserved c = record {
  items = rw (c.push_reserved.ensures.items, c.moment_at.ensures, c.byte_at.ensures) (place_more (λ number. (moment_at c.args.bytes.now number, record_byte c.args.bytes.now number)) c.loop-number.inputs.items [] c.loop-number.number c.loop-number.invariant.items);
  len = omega (arith, c.push_reserved.ensures.len, c.loop-number.invariant.len);
  room = omega (arith, c.push_reserved.ensures.capacity, c.loop-number.invariant.room);
}
