use Rattle.std.proofs.Common.{refl}
use Rattle.arch_defs.specs.CsrBits.{guest_root_of, hgatp_bits}
use Rattle.tests_surface_host.proofs.states.key.Goals as goal

pub invariant_of-result : goal.invariant_of-result
unfolding guest_root_of hgatp_bits
invariant_of-result c = refl
