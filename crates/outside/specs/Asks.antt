use Rattle.std.specs.Prelude.{ℕ, List, [], ◌∷◌, Bool, true, false, Result, Ok, Err}
use Rattle.outside.specs.declared.stores.StoreFault.{StoreFault}
use Rattle.outside.specs.declared.stores.StoreFault.TheVariants.{NoMemory, Failed}

-- a read that was asked for: the name, the most bytes, and whether it answered a failure
pub record Ask : Type 0 where
  pub name : List ℕ
  pub most : ℕ
  pub failed : Bool

-- what a read with this result adds to the reads asked for; running out of memory adds nothing
abbrev pub told : {A : Type 0} → List ℕ → ℕ → Result A StoreFault → List Ask
told name most (Ok a) = record { name = name; most = most; failed = false } ∷ []
told name most (Err Failed) = record { name = name; most = most; failed = true } ∷ []
told name most (Err NoMemory) = []
