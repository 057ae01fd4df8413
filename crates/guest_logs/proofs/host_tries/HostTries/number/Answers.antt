use Rattle.std.proofs.Common.{arith}
use Rattle.guest_logs.proofs.Numbers.{one_more, small_enough, smaller}
use Rattle.guest_logs.proofs.host_tries.HostTries.number.Goals as goal

pub overflow_mul-value : goal.overflow_mul-value
overflow_mul-value c =
    let is = c.loop-at.invariant in
    omega (arith, small_enough c.loop-at.value c.loop-at.at c.args.width c.loop-at-test.true is.within c.requires.width is.small)

pub overflow_add-value : goal.overflow_add-value
overflow_add-value c =
    let is = c.loop-at.invariant in
    omega (arith, small_enough c.loop-at.value c.loop-at.at c.args.width c.loop-at-test.true is.within c.requires.width is.small, c.byte.type_inv)

pub loop-at-preserved : goal.loop-at-preserved
loop-at-preserved c =
    let is = c.loop-at.invariant in
    record {
      value =
          one_more c.args.self.now.ram c.args.offset c.loop-at.at c.args.width c.loop-at.value c.byte.result c.loop-at-test.true is.within is.value
          c.byte.ensures;
      within = omega (arith, is.within);
      small = smaller c.loop-at.value c.byte.result c.loop-at.at c.args.width c.loop-at-test.true is.within c.byte.type_inv is.small;
    }
