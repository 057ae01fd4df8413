use Rattle.std.proofs.Common.{◌-◌, ◌∙◌, arith}
use Rattle.std.proofs.lemmas.List.{length-set, take-set-le}
use Rattle.arch_defs.specs.FirstBuffers.{no_entry}
use Rattle.arch_defs.proofs.FirstSlots.{later, one_emptied_before}
use Rattle.arch_defs.proofs.first_buffers.empty.Goals as goal

pub loop-first-preserved : goal.loop-first-preserved
loop-first-preserved c = record {
  room = length-set c.loop-first.slots (c.loop-first.first - 1) no_entry ∙ c.loop-first.invariant.room;
  bound = omega (arith, c.loop-first.invariant.bound);
  front = take-set-le c.args.from c.loop-first.slots (c.loop-first.first - 1) no_entry (omega (arith, c.loop-first-test.true)) ∙ c.loop-first.invariant.front;
  rest = one_emptied_before c.loop-first.first c.loop-first.slots (omega (arith, c.loop-first-test.true)) (omega (arith, c.loop-first.invariant.bound, c.requires.room))
      c.loop-first.invariant.room c.loop-first.invariant.rest;
}

pub returns-clause-empty : goal.returns-clause-empty
returns-clause-empty c = later c.loop-first.first c.args.from c.loop-first.slots c.loop-first-test.false c.loop-first.invariant.rest
