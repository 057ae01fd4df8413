-- Noise: bytes that the generator draws one after the other (own).
use Rattle.std.specs.Prelude.{ℕ, List, map}
use Rattle.std.specs.List.{range_with_len}
use Rattle.work_images.specs.Numbers.{draw}

-- that many bytes from a seed: byte i is its draw of index i, of one of 256
unfoldable pub noise : ℕ → ℕ → List ℕ
noise seed count = map (λ i. draw seed i 256) (range_with_len 0 count)
