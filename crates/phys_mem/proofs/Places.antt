-- Places of memory that an access fits in, and the bytes of a value.
use Rattle.std.proofs.Common.{◌≡◌, ℕ, zero, suc, ◌+◌, ◌%◌, ◌<◌, ◌≤◌, ◌⊎◌, inl, inr, List, take, refl, arith}
use Rattle.std.specs.Int.{bytes_low_first}

-- an access at a place that is a multiple of its width lies in memory of whole frames
pub fits : (width at size : ℕ) → (width ≡ 1) ⊎ (width ≡ 2) ⊎ (width ≡ 4) ⊎ (width ≡ 8) → size % 4096 ≡ 0 → at % width ≡ 0 → at < size → at + width ≤ size
fits width at size (inl e) whole aligned inside = omega arith
fits width at size (inr (inl e)) whole aligned inside = let a : at % 2 ≡ 0 = rw (← e) aligned in omega arith
fits width at size (inr (inr (inl e))) whole aligned inside = let a : at % 4 ≡ 0 = rw (← e) aligned in omega arith
fits width at size (inr (inr (inr e))) whole aligned inside = let a : at % 8 ≡ 0 = rw (← e) aligned in omega arith

-- the lowest bytes of a value are those of its bytes that come first
pub take_bytes : (i n m x : ℕ) → n ≤ m → take n (bytes_low_first i m x) ≡ bytes_low_first i n x
take_bytes i zero m x h = refl
take_bytes i (suc n) zero x h = absurd (omega arith)
take_bytes i (suc n) (suc m) x h = rw (take_bytes (suc i) n m x (omega arith)) refl

pub fronts : (bytes : List ℕ) (x : ℕ) → bytes ≡ bytes_low_first 0 8 x → (n : ℕ) → n ≤ 8 → take n bytes ≡ bytes_low_first 0 n x
fronts bytes x e n h = rw e (take_bytes 0 n 8 x h)

-- and in one frame
pub in_frame : (width at : ℕ) → (width ≡ 1) ⊎ (width ≡ 2) ⊎ (width ≡ 4) ⊎ (width ≡ 8) → at % width ≡ 0 → at % 4096 + width ≤ 4096
in_frame width at (inl e) aligned = omega arith
in_frame width at (inr (inl e)) aligned = let a : at % 2 ≡ 0 = rw (← e) aligned in omega arith
in_frame width at (inr (inr (inl e))) aligned = let a : at % 4 ≡ 0 = rw (← e) aligned in omega arith
in_frame width at (inr (inr (inr e))) aligned = let a : at % 8 ≡ 0 = rw (← e) aligned in omega arith
