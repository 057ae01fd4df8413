-- What the answers say of the definition.
use Rattle.std.specs.Prelude.{⊤, ◌≡◌, Option, Some, None, Result, Ok, Err}
use Rattle.run_config.specs.declared.faults.ConfigFault.{ConfigFault}
use Rattle.run_config.specs.declared.ends.ReadEnd.{ReadEnd}
use Rattle.run_config.specs.declared.ends.ReadEnd.TheVariants.{NoMemory, Refused}

-- a fact of the fault, where there is no configuration for a fault
abbrev pub IfRefused : {A : Type 0} → Result A ReadEnd → (ConfigFault → Type 0) → Type 0
IfRefused (Ok value) P = ⊤
IfRefused (Err NoMemory) P = ⊤
IfRefused (Err (Refused found)) P = P found

-- the answer is this value where there is no fault, and else the fault: or there was no memory
abbrev pub AnswersWith : {A : Type 0} → Option ConfigFault → A → Result A ReadEnd → Type 0
AnswersWith fault value (Ok found) = (fault ≡ None) × (found ≡ value)
AnswersWith fault value (Err NoMemory) = ⊤
AnswersWith fault value (Err (Refused found)) = fault ≡ Some found

-- a test is passed where there is no fault, and else it answers the fault
abbrev pub Passes : {A : Type 0} → Option ConfigFault → Result A ConfigFault → Type 0
Passes fault (Ok value) = fault ≡ None
Passes fault (Err found) = fault ≡ Some found
