-- What an instruction does that the log tells by a line of its own, by how it ends.
use Rattle.std.specs.Prelude.{ℕ, Option, Some, None}
use Rattle.arch_defs.specs.declared.modes.Mode.{Mode}
use Rattle.arch_defs.specs.declared.modes.Mode.TheVariants.{HS, U, VS, VU}
use Rattle.log_lines.specs.declared.lines.FenceOp.TheVariants.{SfenceVma, HfenceVvma, HfenceGvma}
use Rattle.op_defs.specs.declared.ops.Effect.{Effect}
use Rattle.op_defs.specs.declared.ops.Effect.TheVariants as effect
use Rattle.op_defs.specs.declared.ops.Privileged.{Privileged}
use Rattle.op_defs.specs.declared.ops.Privileged.TheVariants as privileged
use Rattle.machine_defs.specs.Outcomes.{Called, Fenced, FirstFenced, Outcome}
use Rattle.machine_defs.specs.Outcomes as outcome
use Rattle.run_log.specs.Fences.{kind_for}
use Rattle.step_lines.specs.declared.acts.Act.{Act}
use Rattle.step_lines.specs.declared.acts.Act.TheVariants.{Accesses, Calls, Fences, Other, Waits}

abbrev pub act_in : Option Outcome → Act
act_in (Some Called) = Calls
act_in (Some (outcome.Waits virt)) = Waits
act_in (Some (Fenced virt named)) = Fences HfenceGvma named
act_in (Some (FirstFenced virt tag named)) = Fences (kind_for tag) named
act_in (Some (outcome.Accesses wanted)) = Accesses wanted
act_in _ = Other

-- what it does where its mode allows it
abbrev pub act_from : Mode → Act
act_from HS = Calls
act_from U = Other
act_from VS = Other
act_from VU = Other

abbrev pub privileged_act : Privileged → Act
privileged_act privileged.Wfi = Waits
privileged_act (privileged.SfenceVma named) = Fences SfenceVma named
privileged_act (privileged.HfenceVvma named) = Fences HfenceVvma named
privileged_act (privileged.HfenceGvma named) = Fences HfenceGvma named
privileged_act (privileged.HlvAccess wanted) = Accesses wanted
privileged_act _ = Other

abbrev pub effect_act : Mode → Effect → Act
effect_act mode effect.Calls = act_from mode
effect_act mode (effect.Privileged asked) = privileged_act asked
effect_act mode _ = Other
