-- What a comparison has seen, and what it says of it.
use Rattle.std.specs.Prelude.{◌≡◌, ℕ, suc, Bool, List, ◌∷◌, length, nat_eq, nat_lt, bytes_eq, if◌then◌else◌}
use Rattle.replay.specs.declared.comparisons.Verdict.{Verdict}
use Rattle.replay.specs.declared.comparisons.Verdict.TheVariants.{Same, Differs}

-- what a `Compare` holds: the bytes that are expected, how many of them agree with those that were put, from
-- the first on, and whether more were put
pub record Comparison : Type 0 where
  pub expected : List ℕ
  pub place : ℕ
  pub differs : Bool

-- how many bytes of two lists agree, from the first on
unfoldable pub agreeing : List ℕ → List ℕ → ℕ
agreeing (a ∷ expected) (b ∷ bytes) = if nat_eq a b then suc (agreeing expected bytes) else 0
agreeing expected bytes = 0

-- the comparison is that of these bytes
pub record Saw (held : Comparison) (bytes : List ℕ) : Type 0 where
  pub place : held.place ≡ agreeing held.expected bytes
  pub differs : held.differs ≡ nat_lt held.place (length bytes)

-- what is said of bytes: the same, or the first place where they differ, which is the shorter length where
-- one of the lists is the beginning of the other
abbrev pub verdict_of : List ℕ → List ℕ → Verdict
verdict_of expected bytes = if bytes_eq expected bytes then Same else Differs (agreeing expected bytes)
