use Rattle.std.proofs.Common.{arith}
use Rattle.nesthv_top.proofs.Framing.{frames_all, frames_more}
use Rattle.nesthv_top.proofs.loading.frames_for.Goals as goal

pub loop-files-preserved : goal.loop-files-preserved
loop-files-preserved c = record {
  frames = frames_more c.args.guests.now c.loop-files.files-index c.loop-files.sum c.frames-sum.result c.files-item.result c.loop-files-test.true c.files-item.is
      c.loop-files.invariant.frames (rw c.need.ensures.need at c.frames-sum.ensures.value);
  most = omega (arith, c.loop-files.invariant.most, c.frames-sum.ensures.most);
}

pub returns-clause-frames : goal.returns-clause-frames
returns-clause-frames c = frames_all c.args.guests.now c.loop-files.files-index c.loop-files.sum c.loop-files-test.false c.loop-files.invariant.frames
