use Rattle.std.specs.Prelude.{ℕ, Bool, ◌+◌, List, [], length, take, nat_eq, if◌then◌else◌, Option, Some, None, ◌≡◌, ⊤, option_map, Result, Ok, Err, false}
use Rattle.std.specs.List.{list_any}
use Rattle.std.specs.Global.{Vec}
use Rattle.outside.specs.Files.{Files}
use Rattle.outside.specs.Asks.{Ask}
use Rattle.outside.specs.Faults.{one_more}
use Rattle.outside.specs.Named.{content_of}
use Rattle.outside.specs.declared.stores.StoreFault.{StoreFault}
use Rattle.outside.specs.declared.stores.StoreFault.TheVariants.{NoMemory, Failed}

-- what a `MapStore` holds: its files with their names, the numbers of the reads that are to fail, the
-- reads asked for, and its faults
pub record StoreState : Type 0 where
  pub files : List (List ℕ × List ℕ)
  pub failing : List ℕ
  pub asked : List Ask
  pub faults : ℕ

-- what a new store holds
abbrev pub empty_store : StoreState
empty_store = record { files = []; failing = []; asked = []; faults = 0 }

-- the files as each store tells them; a name outside them is a fault
abbrev pub files_of : List (List ℕ × List ℕ) → Files
files_of files = record { bytes_of = content_of files; absent_is_empty = false }

-- whether the next read's number is to fail
abbrev pub fails_next : StoreState → Bool
fails_next held = list_any (nat_eq (length held.asked + 1)) held.failing

-- what the next read gives, and nothing where it fails: where its number is to fail, or no file has the name
abbrev pub read_answer : StoreState → List ℕ → ℕ → Option (List ℕ)
read_answer held name most =
    if fails_next held then None else option_map (take most) (content_of held.files name)

-- the faults after a read with this result; the count stands still at its last value
abbrev pub faults_after : {A : Type 0} → ℕ → Result A StoreFault → ℕ
faults_after count (Ok a) = count
faults_after count (Err Failed) = one_more count
faults_after count (Err NoMemory) = count

-- the read gave this, or failed where it is nothing; out of memory is a free answer
abbrev pub Answers : Result (Vec ℕ) StoreFault → Option (List ℕ) → Type 0
Answers (Ok v) answer = answer ≡ Some v.items
Answers (Err Failed) answer = answer ≡ None
Answers (Err NoMemory) answer = ⊤
