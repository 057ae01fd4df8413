use Rattle.std.proofs.Common.{arith, ◌+◌, ◌<◌, ◌∙◌, ℕ, ap, length}
use Rattle.guest_turns.proofs.SpaceCounts.{more_few, one_more}
use Rattle.guest_turns.proofs.memory_views.MemoryView.second_count.Goals as goal

pub overflow_add-count : goal.overflow_add-count
overflow_add-count c =
    let spaces = c.args.self.now.spaces in
    let inside : c.loop-space.space < length spaces = omega (arith, c.loop-space-test.true, c.held-space-end.ensures) in
    let few = more_few spaces c.loop-space.space c.len-count.result inside c.len-count.ensures in
    omega (arith, few, c.loop-space.invariant, c.has_few_cached.ensures)

pub loop-space-preserved : goal.loop-space-preserved
loop-space-preserved c =
    let spaces = c.args.self.now.spaces in
    let inside : c.loop-space.space < length spaces = omega (arith, c.loop-space-test.true, c.held-space-end.ensures) in
    ap (λ (n : ℕ). n + c.len-count.result) c.loop-space.invariant
    ∙ one_more spaces c.loop-space.space c.len-count.result inside c.len-count.ensures
