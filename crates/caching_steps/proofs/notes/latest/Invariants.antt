use Rattle.std.proofs.Common.{◌≡◌, ◌≤◌, length, take}
use Rattle.caching_steps.specs.Noting.{noted_step}
use Rattle.caching_steps.proofs.notes.latest.Given as goal

abbrev pub invariant-loop-left : goal.invariant-loop-left
invariant-loop-left l = record {
  so_far : noted_step l.notes l.name ≡ noted_step (take l.left l.notes) l.name;
  inside : l.left ≤ length l.notes;
}

abbrev pub decreases-loop-left : goal.decreases-loop-left
decreases-loop-left l = l.left
