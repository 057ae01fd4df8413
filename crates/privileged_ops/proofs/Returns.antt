-- SRET is allowed in HS and VS alone.
use Rattle.std.proofs.Common.{◌≡◌, None, IsTrue, refl}
use Rattle.arch_defs.specs.declared.modes.Mode.{Mode}
use Rattle.arch_defs.specs.declared.modes.Mode.TheVariants.{HS, U, VS, VU}
use Rattle.arch_defs.specs.declared.registers.HypervisorStatus.{HypervisorStatus}
use Rattle.arch_defs.specs.Traps.{is_supervisor}
use Rattle.op_defs.specs.declared.ops.Privileged.TheVariants.{Sret}
use Rattle.machine_defs.specs.Privileges.{refusal}

pub sret_is_supervisor : (h : HypervisorStatus) (mode : Mode) → refusal Sret h mode ≡ None → IsTrue (is_supervisor mode)
unfolding refusal
sret_is_supervisor h HS e = refl
sret_is_supervisor h U e = absurd (cc)
sret_is_supervisor h VS e = refl
sret_is_supervisor h VU e = absurd (cc)
