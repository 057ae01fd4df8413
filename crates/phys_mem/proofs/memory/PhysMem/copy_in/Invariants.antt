use Rattle.std.proofs.Common.{◌≡◌, ◌-◌, ◌≤◌, length, take}
use Rattle.arch_defs.specs.Memory.{pasted}
use Rattle.phys_mem.proofs.memory.PhysMem.copy_in.Given as goal

abbrev pub invariant-loop-done : goal.invariant-loop-done
invariant-loop-done l = record {
  within : l.done ≤ length l.bytes;
  size : length l.self ≡ length l.fn.self;
  laid : l.self ≡ pasted l.fn.self l.at (take l.done l.bytes);
}

abbrev pub decreases-loop-done : goal.decreases-loop-done
decreases-loop-done l = length l.bytes - l.done
