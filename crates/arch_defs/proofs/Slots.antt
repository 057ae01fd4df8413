-- The blocks of a part in slots of a fixed number, those behind them zero.
use Rattle.std.proofs.Common.{◌≡◌, ℕ, ◌-◌, ◌++◌, List, length, take, drop, replicate, refl}
use Rattle.std.proofs.lemmas.List.{take_at, drop_at, drop-replicate}

pub filled : (n : ℕ) (piece blocks : List ℕ) → piece ≡ blocks → take (length blocks) (piece ++ drop (length blocks) (replicate n 0)) ≡ blocks
filled n piece blocks e = rw e (take_at blocks (drop (length blocks) (replicate n 0)) (length blocks) refl)

pub behind : (n : ℕ) (piece blocks : List ℕ) → piece ≡ blocks
    → drop (length blocks) (piece ++ drop (length blocks) (replicate n 0)) ≡ replicate (n - length blocks) 0
behind n piece blocks e =
    rw (e, drop_at blocks (drop (length blocks) (replicate n 0)) (length blocks) refl) (drop-replicate (length blocks) n 0)
