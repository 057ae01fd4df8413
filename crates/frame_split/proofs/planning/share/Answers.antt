use Rattle.std.proofs.Common.{◌≡◌, ◌++◌, [], ◌∷◌, length, arith, rules, get_or, subst}
use Rattle.std.proofs.lemmas.List.{get_or_default}
use Rattle.guest_settings.specs.declared.needs.Need.{Need}
use Rattle.frame_split.specs.Shares.{SoFar}
use Rattle.frame_split.proofs.Sharing.{blocks_below, roots_from, so_far_none, so_far_more, so_far_all}
use Rattle.frame_split.proofs.Sums.{blocks_more, roots_more}
use Rattle.frame_split.proofs.planning.share.Goals as goal

pub loop-i-init : goal.loop-i-init
loop-i-init c =
    rw c.in-Ok.ensures.items
    (so_far_none c.args.needs.now c.args.start c.args.frames c.requires.room.blocks c.requires.room.roots c.requires.room.tables c.requires.room.aligned)

pub part_at-part-requires-clause-begin : goal.part_at-part-requires-clause-begin
part_at-part-requires-clause-begin c = record {
  aligned = c.loop-i.invariant.aligned;
  small = omega (arith, c.loop-i.invariant.tables, c.requires.most);
}

pub part_at-part-requires-clause-ordered : goal.part_at-part-requires-clause-ordered
part_at-part-requires-clause-ordered c =
    let need : Need = record { blocks = 0; spaces = 0; entries = 0 } in
    record {
      blocks = omega (arith, c.loop-i.invariant.blocks, c.loop-i.invariant.from.1, blocks_more c.args.needs.now c.loop-i.i need c.loop-i-test.true);
      roots = omega (arith, c.loop-i.invariant.roots, c.loop-i.invariant.from.2, roots_more c.args.needs.now c.loop-i.i need c.loop-i-test.true);
    }

pub after_need-free-requires-clause-room : goal.after_need-free-requires-clause-room
after_need-free-requires-clause-room c = (
  omega (arith, c.loop-i.invariant.blocks, c.loop-i.invariant.from.1, c.loop-i.invariant.roots, c.loop-i.invariant.from.2, c.loop-i.invariant.tables, c.requires.most),
  omega (arith, c.loop-i.invariant.roots, c.loop-i.invariant.from.2, c.loop-i.invariant.tables, c.requires.most),
  omega (arith, c.loop-i.invariant.tables, c.requires.most),
)

pub loop-i-preserved : goal.loop-i-preserved
loop-i-preserved c =
    let need : Need = get_or c.args.needs.now c.loop-i.i (record { blocks = 0; spaces = 0; entries = 0 }) in
    let pushed : c.push.new.self.items ≡ c.loop-i.parts.items ++ c.part_at-part.result ∷ [] = search rules in
    rw (pushed, c.after_need-free.ensures)
    (so_far_more c.args.needs.now c.loop-i.i c.loop-i.parts.items c.args.start c.loop-i.free c.args.frames need c.part_at-part.result
    c.loop-i.invariant c.loop-i-test.true (get_or_default c.args.needs.now c.loop-i.i (record { blocks = 0; spaces = 0; entries = 0 }) need c.loop-i-test.true)
    c.part_at-part.ensures.meets c.part_at-part.ensures.once c.part_at-part.ensures.between)

pub returns-clause-split : goal.returns-clause-split
returns-clause-split c =
    let last : c.loop-i.i ≡ length c.args.needs.now = omega (arith, c.loop-i-test.false, c.loop-i.auto.i-end) in
    so_far_all c.args.needs.now c.loop-i.parts.items c.args.start c.loop-i.free c.args.frames
    (subst (λ i. SoFar c.args.needs.now i c.loop-i.parts.items c.args.start c.loop-i.free c.args.frames) last c.loop-i.invariant)

pub returns-clause-blocks : goal.returns-clause-blocks
returns-clause-blocks c =
    let last : c.loop-i.i ≡ length c.args.needs.now = omega (arith, c.loop-i-test.false, c.loop-i.auto.i-end) in
    blocks_below c.args.needs.now c.loop-i.parts.items c.args.start c.loop-i.free c.args.frames
    (subst (λ i. SoFar c.args.needs.now i c.loop-i.parts.items c.args.start c.loop-i.free c.args.frames) last c.loop-i.invariant)

pub returns-clause-roots : goal.returns-clause-roots
returns-clause-roots c =
    let last : c.loop-i.i ≡ length c.args.needs.now = omega (arith, c.loop-i-test.false, c.loop-i.auto.i-end) in
    roots_from c.args.needs.now c.loop-i.parts.items c.args.start c.loop-i.free c.args.frames
    (subst (λ i. SoFar c.args.needs.now i c.loop-i.parts.items c.args.start c.loop-i.free c.args.frames) last c.loop-i.invariant)
