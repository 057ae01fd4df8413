use Rattle.std.proofs.Common.{◌≡◌}
use Rattle.work_images.specs.Numbers.{number}
use Rattle.work_images.specs.Noise.{noise}
use Rattle.work_images.proofs.noises.noise.Given as goal

abbrev pub invariant-loop-done : goal.invariant-loop-done
invariant-loop-done l = record {
  numbers : l.numbers ≡ number l.fn.seed l._done;
  bytes : l.bytes.items ≡ noise l.fn.seed l._done;
}
