use Rattle.std.proofs.Common.{refl, sym, ◌+◌, ◌∙◌, arith, ap, length, take, drop}
use Rattle.std.proofs.lemmas.List.{length-set}
use Rattle.arch_defs.specs.FirstBuffers.{is_named_by}
use Rattle.arch_defs.specs.FirstEntries.{unnamed_first}
use Rattle.arch_defs.proofs.FirstSlots.{passed_over, put_behind, rest_moves, rest_stays}
use Rattle.arch_defs.proofs.first_buffers.keep_unnamed.Goals as goal

pub loop-i-init : goal.loop-i-init
unfolding unnamed_first
loop-i-init c = record { room = c.told-slots; few = omega arith; kept = refl; rest = refl }

pub loop-i-preserved-then-names : goal.loop-i-preserved-then-names
loop-i-preserved-then-names c = record {
  room = c.loop-i.invariant.room;
  few = omega (arith, c.loop-i.invariant.few);
  kept = passed_over (is_named_by c.args.named.now) c.loop-i.kept c.loop-i.i c.loop-i.slots c.args.slots.now (omega (arith, c.loop-i-test.true, c.requires.room, c.told-slots))
      c.loop-i.invariant.rest c.loop-i.invariant.kept (sym c.names.ensures ∙ c.if-names.true);
  rest = rest_moves c.loop-i.i c.loop-i.slots c.args.slots.now c.loop-i.invariant.rest;
}

pub loop-i-preserved : goal.loop-i-preserved
loop-i-preserved c = let e = c.move_down.ensures in record {
  room = ap length e ∙ length-set c.loop-i.slots c.loop-i.kept _ ∙ c.loop-i.invariant.room;
  few = omega (arith, c.loop-i.invariant.few);
  kept = ap (take (c.loop-i.kept + 1)) e
      ∙ put_behind (is_named_by c.args.named.now) c.loop-i.kept c.loop-i.i c.loop-i.slots c.args.slots.now c.loop-i.invariant.few
      (omega (arith, c.loop-i-test.true, c.requires.room, c.told-slots)) (c.loop-i.invariant.room ∙ sym c.told-slots)
      c.loop-i.invariant.rest c.loop-i.invariant.kept (sym c.names.ensures ∙ c.if-names.false);
  rest = ap (drop (c.loop-i.i + 1)) e ∙ rest_stays c.loop-i.kept c.loop-i.i c.loop-i.slots c.args.slots.now _ c.loop-i.invariant.few c.loop-i.invariant.rest;
}
