-- The frames that were added since `begin`.
use Rattle.std.proofs.Common.{◌≡◌, ℕ, zero, suc, ◌%◌, ◌^◌, ◌<◌, Bool, true, false, ◌&&◌, max, bit_or, refl, ap, ◌∙◌, arith}
use Rattle.std.specs.Int.{bit_at}
use Rattle.std.proofs.lemmas.Bool.{and_from, and_parts, eq-eqb, eqb-true}
use Rattle.std.proofs.lemmas.Nat.Bits.{bit_at-lt, bit_at-zero, bit_at_or, bit_at-pow_same}
use Rattle.arch_defs.specs.Bits.{bit}
use Rattle.arch_defs.specs.Frames.{Within}
use Rattle.translation_buffer.specs.declared.frame_sets.FrameSet.{FrameSet}
use Rattle.translation_buffer.specs.Holding.{has_among, has_frame, has_recent}

-- bits
most : (n : ℕ) → n < 2 → (max 1 n ≡ 1) × (max n 1 ≡ 1)
most zero h = (refl, refl)
most (suc zero) h = (refl, refl)
most (suc (suc n)) h = absurd (omega (arith, h))

bit_kept : (w mark k : ℕ) → bit k w ≡ true → bit k (bit_or w mark) ≡ true
bit_kept w mark k is = eq-eqb (bit_at (bit_or w mark) k) 1
    (bit_at_or w mark k ∙ ap (λ n. max n (bit_at mark k)) (eqb-true (bit_at w k) 1 is) ∙ (most (bit_at mark k) (bit_at-lt mark k)).0)

bit_set : (w mark k : ℕ) → mark ≡ 2 ^ k → bit k (bit_or w mark) ≡ true
bit_set w mark k is = eq-eqb (bit_at (bit_or w mark) k) 1
    (bit_at_or w mark k ∙ ap (λ n. max (bit_at w k) n) (ap (λ m. bit_at m k) is ∙ bit_at-pow_same k) ∙ (most (bit_at w k) (bit_at-lt w k)).1)

-- the bits change nothing of what is held
pub held_more : (old held : FrameSet) (recent : ℕ) → Within (has_frame old) (has_frame held) → Within (has_frame old) (has_frame (record held { recent = recent }))
unfolding has_frame
held_more old held recent more frame named = more frame named

pub recent_more : (old held : FrameSet) (mark : ℕ) → Within (has_frame old) (has_frame held) → held.recent ≡ old.recent
    → Within (has_recent old) (has_recent (record held { recent = bit_or held.recent mark }))
unfolding has_among has_frame
recent_more old held mark more same frame named =
    let parts = and_parts (has_frame old frame) (bit (frame % 64) old.recent) named in
    and_from _ _ (more frame parts.0) (rw same (bit_kept old.recent mark (frame % 64) parts.1))

pub recent_added : (held : FrameSet) (mark frame : ℕ) → has_frame held frame ≡ true → mark ≡ 2 ^ (frame % 64)
    → has_recent (record held { recent = bit_or held.recent mark }) frame ≡ true
unfolding has_among has_frame
recent_added held mark frame has is = and_from _ _ has (bit_set held.recent mark (frame % 64) is)

pub ruleset noting = (held_more, recent_more, recent_added)

-- after `begin`
pub begun_same : (held : FrameSet) (frame : ℕ) → has_frame (record held { recent = 0 }) frame ≡ has_frame held frame
unfolding has_frame
begun_same held frame = refl

none_with : (has : Bool) → (has && false) ≡ false
none_with true = refl
none_with false = refl

pub begun_none : (held : FrameSet) (frame : ℕ) → has_recent (record held { recent = 0 }) frame ≡ false
unfolding has_among
begun_none held frame = rw (bit_at-zero (frame % 64)) (none_with (has_frame (record held { recent = 0 }) frame))

pub ruleset beginning = (begun_same, begun_none)
