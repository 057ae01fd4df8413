use Rattle.std.specs.Prelude.{◌≡◌, ⊤, ℕ, List, [], map, take, Option, Some, None, slice_get, option_map, if◌then◌else◌}
use Rattle.std.specs.Str.{is_utf8}

-- the word of an argument: its text, or the empty word where it is not UTF-8
abbrev pub word_of : List ℕ → List ℕ
word_of argument = if is_utf8 argument then argument else []

-- the argument of this number, where the arguments are told; none past the last
abbrev pub IsArgument : Option (List (List ℕ)) → ℕ → Option (List ℕ) → Type 0
IsArgument (Some arguments) i argument = argument ≡ slice_get arguments i
IsArgument None i argument = ⊤

-- the same for its word
abbrev pub IsWord : Option (List (List ℕ)) → ℕ → Option (List ℕ) → Type 0
IsWord (Some arguments) i word = word ≡ option_map word_of (slice_get arguments i)
IsWord None i word = ⊤

-- the words of the first n arguments, where they are told
abbrev pub AreFirst : Option (List (List ℕ)) → ℕ → List (List ℕ) → Type 0
AreFirst (Some arguments) n words = words ≡ map word_of (take n arguments)
AreFirst None n words = ⊤

-- the words of all arguments, where they are told
abbrev pub AreWords : Option (List (List ℕ)) → List (List ℕ) → Type 0
AreWords (Some arguments) words = words ≡ map word_of arguments
AreWords None words = ⊤
