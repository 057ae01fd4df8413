-- Forms that are kept, and the chunks of bytes that they share.
use Rattle.std.specs.Prelude.{ℕ, ◌≡◌, ◌<◌, ◌≤◌, List, [], ◌∷◌, length}
use Rattle.std.specs.List.{flat_map, slice_index_or}

-- the forms that are kept, the bytes of the partial one, and the count of faults of its puts
pub record Forms : Type 0 where
  pub kept : List (List ℕ)
  pub partial : List ℕ
  pub faults : ℕ

abbrev pub no_forms : Forms
no_forms = record { kept = []; partial = []; faults = 0 }

-- forms one after the other, each behind its length; no others have the same (own)
abbrev pub with_lengths : List (List ℕ) → List ℕ
with_lengths = flat_map (λ form. length form ∷ form)

-- the bytes of the chunks of these numbers
abbrev pub bytes_of : List (List ℕ) → List ℕ → List ℕ
bytes_of chunks = flat_map (λ number. slice_index_or chunks number [])

-- the chunk of a number has these bytes
pub record IsNumberOf (chunks : List (List ℕ)) (bytes : List ℕ) (number : ℕ) : Type 0 where
  pub inside : number < length chunks
  pub same : slice_index_or chunks number [] ≡ bytes

-- each chunk that there was is there with its number
pub record AreStillThere (old new : List (List ℕ)) : Type 0 where
  pub more : length old ≤ length new
  pub same : (number : ℕ) → number < length old → slice_index_or new number [] ≡ slice_index_or old number []
