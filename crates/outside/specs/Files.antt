use Rattle.std.specs.Prelude.{◌≡◌, ℕ, List, [], take, Bool, true, false, Option, Some, None}

-- what each name stands for, and whether a name that stands for nothing reads as an empty file
pub record Files : Type 0 where
  pub bytes_of : List ℕ → Option (List ℕ)
  pub absent_is_empty : Bool

-- what a read of at most that many bytes gives, and nothing where it must not answer Ok
abbrev pub read_of : Option (List ℕ) → Bool → ℕ → Option (List ℕ)
read_of (Some bytes) empty most = Some (take most bytes)
read_of None true most = Some []
read_of None false most = None

-- the bytes are what the files, where they are told, give of this name
abbrev pub GivesFile : Option Files → List ℕ → ℕ → List ℕ → Type 0
GivesFile None name most bytes = Unit {0}
GivesFile (Some files) name most bytes =
    read_of (files.bytes_of name) files.absent_is_empty most ≡ Some bytes
