-- What holds of what an instruction leaves, however it ends.
use Rattle.arch_defs.specs.declared.registers.Virtual.{Virtual}
use Rattle.op_defs.specs.declared.ops.DataAccess.{DataAccess}
use Rattle.machine_defs.specs.Core.{Completion, completion_of}
use Rattle.machine_defs.specs.HlvAccesses.{HlvEnd, Completes, Device, Traps}
use Rattle.machine_defs.specs.Outcomes.{Outcome, Done, Trapped, Missed, Called, Waits, Fenced, FirstFenced, Accesses}

-- L holds of what an instruction leaves that completes, P of the state after one that waits or fences, and A
-- of the access of an HLV, HLVX or HSV
abbrev pub OutcomeHas : (Completion → Type 0) → (Virtual → Type 0) → (DataAccess → Type 0) → Outcome → Type 0
OutcomeHas L P A (Done state stored event) = L (completion_of state stored)
OutcomeHas L P A (Waits state) = P state
OutcomeHas L P A (Fenced state fence) = P state
OutcomeHas L P A (FirstFenced state named fence) = P state
OutcomeHas L P A (Accesses wanted) = A wanted
OutcomeHas L P A (Trapped trap) = Unit {0}
OutcomeHas L P A (Missed missing wanted) = Unit {0}
OutcomeHas L P A Called = Unit {0}

-- L holds of what an HLV, HLVX or HSV leaves, if it completes
abbrev pub HlvHas : (Completion → Type 0) → HlvEnd → Type 0
HlvHas L (Completes completion) = L completion
HlvHas L (Device missing) = Unit {0}
HlvHas L (Traps trap) = Unit {0}
