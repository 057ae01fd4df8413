-- Forms, as chunks and their numbers in code say them.
use Rattle.std.specs.Prelude.{ℕ, ◌<◌, List, length, map}
use Rattle.std.specs.List.{All}
use Rattle.form_pool.specs.declared.pools.FormPool.TheInside.{Inside}
use Rattle.form_pool.specs.Forms.{Forms, bytes_of}

abbrev pub forms_of : Inside → Forms
forms_of pool = record {
  kept = map (bytes_of pool.chunks) pool.kept.items;
  partial = bytes_of pool.chunks pool.partial.items;
  faults = pool.faults;
}

-- these are numbers of chunks
abbrev pub AreNumbers : List (List ℕ) → List ℕ → Type 0
AreNumbers chunks = All (λ number. number < length chunks)

-- each form has chunks that are there
pub record HasChunks (pool : Inside) : Type 0 where
  pub kept : All (AreNumbers pool.chunks) pool.kept.items
  pub partial : AreNumbers pool.chunks pool.partial.items
