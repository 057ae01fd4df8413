use Rattle.std.proofs.Common.{◌≡◌, ◌+◌, ◌*◌, arith, subst}
use Rattle.frame_split.specs.Shares.{BlocksLieBelow, blocks_of_all}
use Rattle.frame_split.proofs.Spare.{spare_left}
use Rattle.frame_split.proofs.Sums.{frames_sum}
use Rattle.frame_split.proofs.planning.plan.Goals as goal

pub returns-then-frames-gt-MOST_FRAMES-clause-refused : goal.returns-then-frames-gt-MOST_FRAMES-clause-refused
returns-then-frames-gt-MOST_FRAMES-clause-refused c =
    (omega (arith, frames_sum c.args.needs.now, c.all_needed-totals.ensures.blocks, c.all_needed-totals.ensures.roots, c.all_needed-totals.ensures.tables), omega (arith, c.if-frames-gt-MOST_FRAMES.true))

pub returns-in-None-clause-refused : goal.returns-in-None-clause-refused
returns-in-None-clause-refused c =
    omega (
      arith,
      frames_sum c.args.needs.now,
      c.all_needed-totals.ensures.blocks,
      c.all_needed-totals.ensures.roots,
      c.all_needed-totals.ensures.tables,
      c.if-frames-gt-MOST_FRAMES.false,
    )

pub returns-in-Some-clause-shared : goal.returns-in-Some-clause-shared
returns-in-Some-clause-shared c =
    let totals = c.all_needed-totals.ensures in
    let first : 0 + blocks_of_all c.args.needs.now ≡ c.all_needed-totals.result.blocks = omega (arith, totals.blocks) in
    let given = c.in-Some.ensures in
    record {
      parts = given.split;
      blocks = totals.blocks;
      leaves = spare_left c.args.needs.now c.in-Some.parts.items c.all_needed-totals.result.blocks c.args.spare
          (512 * (c.all_needed-totals.result.blocks + c.args.spare) + 4 * c.all_needed-totals.result.roots + c.all_needed-totals.result.tables)
          given.split (subst (λ block. BlocksLieBelow block c.in-Some.parts.items) first given.blocks) given.roots (omega arith);
      frames = omega (arith, frames_sum c.args.needs.now, totals.blocks, totals.roots, totals.tables);
      fits = omega (arith, c.if-frames-gt-MOST_FRAMES.false);
    }
