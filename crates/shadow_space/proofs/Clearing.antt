-- Memory of zeros.
use Rattle.std.proofs.Common.{◌≡◌, ℕ, ◌<◌, ◌≤◌, ◌⊎◌, inl, inr, get_or, replicate, arith}
use Rattle.std.proofs.lemmas.Bool.{cases_lt}
use Rattle.std.proofs.lemmas.List.{get_or-replicate, get_or_past, length-replicate}
use Rattle.arch_defs.specs.Memory.{zeros}

pub zeros_at : (n i : ℕ) → get_or (zeros n) i 0 ≡ 0
unfolding zeros
zeros_at n i = by (cases_lt i n)
  where
    by : (i < n) ⊎ (n ≤ i) → get_or {A = ℕ} (replicate n 0) i 0 ≡ 0
    by (inl before) = get_or-replicate n i 0 0 before
    by (inr past) = get_or_past (replicate n 0) i 0 (omega (arith, length-replicate {A = ℕ} n 0, past))
