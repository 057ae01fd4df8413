use Rattle.std.proofs.Common.{◌≡◌, ◌-◌, ◌≤◌, length}
use Rattle.arch_defs.specs.Memory.{pasted, zeros}
use Rattle.phys_mem.proofs.memory.PhysMem.clear.Given as goal

abbrev pub invariant-loop-done : goal.invariant-loop-done
invariant-loop-done l = record {
  within : l.done ≤ l.count;
  size : length l.self ≡ length l.fn.self;
  cleared : l.self ≡ pasted l.fn.self l.at (zeros l.done);
}

abbrev pub decreases-loop-done : goal.decreases-loop-done
decreases-loop-done l = l.count - l.done
