use Rattle.std.specs.Prelude.{◌≡◌, ◌↔◌, ℕ, Option, Some, is_some, Result, is_err, IsErrOf}
use Rattle.std.specs.declared.io.ErrorKind.{ErrorKind}
use Rattle.std.specs.declared.io.ErrorKind.TheVariants.{OutOfMemory}
use Rattle.outside.specs.declared.stores.StoreFault.{StoreFault}
use Rattle.outside.specs.declared.stores.StoreFault.TheVariants.{NoMemory}

-- what a `FileStore` holds: its faults, and the kind of the system's error at the last read, if there was one
pub record FileState : Type 0 where
  pub faults : ℕ
  pub error : Option ErrorKind

-- an error of the system is a fault, which is out of memory exactly where the error's kind says so
pub record IsErrorOf {A : Type 0} (result : Result A StoreFault) (kind : Option ErrorKind) : Type 0 where
  pub error : is_some kind ≡ is_err result
  pub memory : IsErrOf result NoMemory ↔ (kind ≡ Some OutOfMemory)
