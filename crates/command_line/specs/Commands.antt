-- The commands of the program, by its words.
use Rattle.std.specs.Prelude.{ℕ, ◌-◌, ◌^◌, Bool, false, ◌&&◌, List, [], ◌∷◌, Option, Some, None, option_and_then, option_map, codes, bytes_eq, nat_eq, nat_le, not, length, if◌then◌else◌}
use Rattle.std.specs.Char.{is_ascii_digit}
use Rattle.std.specs.List.{list_all}
use Rattle.std.specs.Str.Parse.{digits_value}

-- a command on files: a run of the configuration in this file, the same compared with the report in another
-- file, what a run would need, or the same run, after which the guest of this number is saved
pub data FileCommand : Type 0 where
  Run : List ℕ → FileCommand
  Replay : List ℕ → List ℕ → FileCommand
  Check : List ℕ → FileCommand
  Save : List ℕ → ℕ → FileCommand

-- what is asked for: one of these, or a run of the guests that are generated from a seed and a size
pub data Command : Type 0 where
  OnFiles : FileCommand → Command
  Work : ℕ → ℕ → Command

-- a word that is not empty and does not begin with a dash
abbrev pub is_plain : List ℕ → Bool
is_plain [] = false
is_plain (first ∷ rest) = not (nat_eq first 45)

-- whether a word has 1 to that many bytes, each a decimal digit
abbrev pub is_numeral : ℕ → List ℕ → Bool
is_numeral digits word = nat_le 1 (length word) && nat_le (length word) digits && list_all is_ascii_digit word

-- a number, where it is within these bounds
abbrev pub if_within : ℕ → ℕ → ℕ → Option ℕ
if_within least most n = if nat_le least n && nat_le n most then Some n else None

-- the number of a word of 1 to that many digits, of which the first may be zeros, where it is within these
-- bounds (own)
unfoldable pub bounded_number : ℕ → ℕ → ℕ → List ℕ → Option ℕ
bounded_number digits least most word =
    if is_numeral digits word then if_within least most (digits_value 10 word) else None

abbrev pub seed_of : List ℕ → Option ℕ
seed_of word = bounded_number 10 0 (2 ^ 31 - 1) word

abbrev pub size_of : List ℕ → Option ℕ
size_of word = bounded_number 5 1 10000 word

-- the number of a guest, of 1 or 2 digits
abbrev pub guest_number : List ℕ → Option ℕ
guest_number word = bounded_number 2 0 99 word

-- a run of generated guests, where these words are a seed and a size
abbrev pub work_of : List ℕ → List ℕ → Option Command
work_of seed size = option_and_then (λ s. option_map (Work s) (size_of size)) (seed_of seed)

-- a run after which a guest is saved, where the second word is a guest's number
abbrev pub save_of : List ℕ → List ℕ → Option Command
save_of config guest = option_map (λ g. OnFiles (Save config g)) (guest_number guest)

-- the command of the words after the program's name
abbrev pub asked_by : List (List ℕ) → Option Command
asked_by (verb ∷ config ∷ []) =
    if bytes_eq (codes "run") verb then Some (OnFiles (Run config))
    else (if bytes_eq (codes "check") verb then Some (OnFiles (Check config)) else None)
asked_by (verb ∷ first ∷ second ∷ []) =
    if bytes_eq (codes "replay") verb then Some (OnFiles (Replay first second))
    else (if bytes_eq (codes "save") verb then save_of first second
    else (if bytes_eq (codes "work") verb then work_of first second else None))
asked_by words = None

-- the command of all words; the first is the program's name, and is not looked at
unfoldable pub command_of : List (List ℕ) → Option Command
command_of [] = None
command_of (name ∷ words) = if list_all is_plain words then asked_by words else None
