-- The fences among the instructions.
use Rattle.std.specs.Prelude.{⊤}
use Rattle.arch_defs.specs.declared.cached.Fence.{Fence}
use Rattle.op_defs.specs.declared.ops.Effect.{Effect}
use Rattle.op_defs.specs.declared.ops.Effect.TheVariants as effect
use Rattle.op_defs.specs.declared.ops.Op.{Op}
use Rattle.op_defs.specs.declared.ops.Op.TheVariants as op
use Rattle.op_defs.specs.declared.ops.Privileged.TheVariants as privileged

-- an instruction is an SFENCE.VMA, an HFENCE.VVMA or an HFENCE.GVMA
abbrev pub IsFence : Op → Type 0
IsFence (op.SfenceVma rs1 rs2) = ⊤
IsFence (op.HfenceVvma rs1 rs2) = ⊤
IsFence (op.HfenceGvma rs1 rs2) = ⊤
IsFence other = ⊥

-- what each asks for that names this
abbrev pub fences_first : Fence → Effect
fences_first fence = effect.Privileged (privileged.SfenceVma fence)

abbrev pub fences_nested : Fence → Effect
fences_nested fence = effect.Privileged (privileged.HfenceVvma fence)

abbrev pub fences : Fence → Effect
fences fence = effect.Privileged (privileged.HfenceGvma fence)

abbrev pub fence_effect : Op → Fence → Effect
fence_effect (op.SfenceVma rs1 rs2) fence = fences_first fence
fence_effect (op.HfenceVvma rs1 rs2) fence = fences_nested fence
fence_effect other fence = fences fence
