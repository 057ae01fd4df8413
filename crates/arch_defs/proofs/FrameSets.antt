-- Frames that changed, and frames that are the same.
use Rattle.std.proofs.Common.{◌≡◌, ℕ, suc, ◌+◌, ◌/◌, ◌<◌, ◌≤◌, ◌⊎◌, inl, inr, Bool, true, false, ◌||◌, ◌==◌, List, [], ◌∷◌, length, get_or, slice_index, refl, subst, ◌∙◌, arith}
use Rattle.std.proofs.lemmas.Bool.{cases_lt, cases_Bool, or_cases, both_ways, and_parts, and_from, and_left, and_right, le-leb, lt-leb, lt-ltb, le-ltb, leb-true, ltb-true, eqb-true, eq-eqb}
use Rattle.std.proofs.lemmas.List.Folds.{list_any_at}
use Rattle.arch_defs.specs.Memory.{load, pasted}
use Rattle.arch_defs.specs.Frames.{Frames, within, in_blocks, joined, Apart, Within, Only, Same}
use Rattle.arch_defs.proofs.Pastes.{length_pasted, pasted_before, pasted_after, load_same}

-- nothing changed
pub only_none : (changed : Frames) (bytes : List ℕ) → Only changed bytes bytes
only_none changed bytes = record { size = refl; others = λ at out. refl }

-- one change after another
pub only_both : (changed : Frames) (old between new : List ℕ) → Only changed old between → Only changed between new → Only changed old new
only_both changed old between new first second =
    record { size = second.size ∙ first.size; others = λ at out. second.others at out ∙ first.others at out }

-- a change within some frames is one within more
outside : (less more : Frames) → Within less more → (frame : ℕ) → more frame ≡ false → less frame ≡ false
outside less more fewer frame out = by (cases_Bool (less frame))
  where
    by : (less frame ≡ true) ⊎ (less frame ≡ false) → less frame ≡ false
    by (inl named) = absurd (both_ways (more frame) out (fewer frame named))
    by (inr free) = free

pub only_more : (less more : Frames) (old new : List ℕ) → Within less more → Only less old new → Only more old new
only_more less more old new fewer change =
    record { size = change.size; others = λ at out. change.others at (outside less more fewer (at / 4096) out) }

-- frames apart from those that changed are the same
pub kept : (named changed : Frames) (old new : List ℕ) → Apart named changed → Only changed old new → Same named old new
kept named changed old new apart change = record { size = change.size; bytes = λ at inside. change.others at (apart (at / 4096) inside) }

pub apart_sym : (a b : Frames) → Apart a b → Apart b a
apart_sym a b apart frame named = by (cases_Bool (a frame))
  where
    by : (a frame ≡ true) ⊎ (a frame ≡ false) → a frame ≡ false
    by (inl both) = absurd (both_ways (b frame) (apart frame both) named)
    by (inr free) = free

pub apart_within : (a less more : Frames) → Within less more → Apart a more → Apart a less
apart_within a less more fewer apart frame named = outside less more fewer frame (apart frame named)

pub within_apart : (less more b : Frames) → Within less more → Apart more b → Apart less b
within_apart less more b fewer apart frame named = apart frame (fewer frame named)

pub same_none : (named : Frames) (bytes : List ℕ) → Same named bytes bytes
same_none named bytes = record { size = refl; bytes = λ at inside. refl }

pub same_both : (named : Frames) (old between new : List ℕ) → Same named old between → Same named between new → Same named old new
same_both named old between new first second =
    record { size = second.size ∙ first.size; bytes = λ at inside. second.bytes at inside ∙ first.bytes at inside }

pub same_fewer : (less more : Frames) (old new : List ℕ) → Within less more → Same more old new → Same less old new
same_fewer less more old new fewer same = record { size = same.size; bytes = λ at inside. same.bytes at (fewer (at / 4096) inside) }

-- joined sets
pub left_within : (a b : Frames) → Within a (joined a b)
left_within a b frame named = rw named refl

pub right_within : (a b : Frames) → Within b (joined a b)
right_within a b frame named = by (a frame)
  where
    by : (x : Bool) → (x || b frame) ≡ true
    by true = refl
    by false = named

pub joined_within : (a b more : Frames) → Within a more → Within b more → Within (joined a b) more
joined_within a b more left right frame named = by (or_cases (a frame) (b frame) named)
  where
    by : (a frame ≡ true) ⊎ (b frame ≡ true) → more frame ≡ true
    by (inl h) = left frame h
    by (inr h) = right frame h

-- ranges
pub in_range : (first count frame : ℕ) → first ≤ frame → frame < first + count → within first count frame ≡ true
in_range first count frame from to = and_from _ _ (le-leb first frame from) (lt-ltb frame (first + count) to)

pub range_parts : (first count frame : ℕ) → within first count frame ≡ true → (first ≤ frame) × (frame < first + count)
range_parts first count frame named =
    let parts = and_parts _ _ named in (leb-true first frame parts.0, ltb-true frame (first + count) parts.1)

pub range_below : (first count frame : ℕ) → frame < first → within first count frame ≡ false
range_below first count frame below = and_left _ _ (lt-leb first frame below)

pub range_above : (first count frame : ℕ) → first + count ≤ frame → within first count frame ≡ false
range_above first count frame above = and_right _ _ (le-ltb frame (first + count) above)

pub ranges_apart : (a m b n : ℕ) → a + m ≤ b → Apart (within a m) (within b n)
ranges_apart a m b n before frame named = let parts = range_parts a m frame named in range_below b n frame (omega (arith, parts.1))

pub range_within : (a m b n : ℕ) → b ≤ a → a + m ≤ b + n → Within (within a m) (within b n)
range_within a m b n from to frame named =
    let parts = range_parts a m frame named in in_range b n frame (omega (arith, parts.0)) (omega (arith, parts.1))

-- blocks
pub in_block_at : (blocks : List ℕ) (i frame : ℕ) → i < length blocks → slice_index blocks i ≡ frame / 512 → in_blocks blocks frame ≡ true
in_block_at blocks i frame h e = list_any_at (λ block. block == frame / 512) blocks i 0 h (eq-eqb (slice_index blocks i) (frame / 512) e)

pub block_found : (blocks : List ℕ) (frame : ℕ) → in_blocks blocks frame ≡ true → (i : ℕ) × (i < length blocks) × (slice_index blocks i ≡ frame / 512)
block_found [] frame named = absurd (both_ways false refl named)
block_found (b ∷ bs) frame named = by (block_found bs frame) (or_cases (b == frame / 512) (in_blocks bs frame) named)
  where
    by : (in_blocks bs frame ≡ true → (i : ℕ) × (i < length bs) × (slice_index bs i ≡ frame / 512))
        → (((b == frame / 512) ≡ true) ⊎ (in_blocks bs frame ≡ true))
        → (i : ℕ) × (i < length (b ∷ bs)) × (slice_index (b ∷ bs) i ≡ frame / 512)
    by below (inl first) = (0, omega arith, eqb-true b (frame / 512) first)
    by below (inr after) = let found = below after in (suc found.0, omega (arith, found.1), found.2)

-- a piece laid within some frames changes nothing else
pub only_pasted : (changed : Frames) (bytes : List ℕ) (at : ℕ) (piece : List ℕ) → at + length piece ≤ length bytes
    → ((place : ℕ) → at ≤ place → place < at + length piece → changed (place / 4096) ≡ true) → Only changed bytes (pasted bytes at piece)
only_pasted changed bytes at piece fits named =
    record { size = length_pasted bytes at piece fits; others = λ place out. by place out (cases_lt place at) (cases_lt place (at + length piece)) }
  where
    by : (place : ℕ) → changed (place / 4096) ≡ false → (place < at) ⊎ (at ≤ place) → (place < at + length piece) ⊎ (at + length piece ≤ place)
        → get_or (pasted bytes at piece) place 0 ≡ get_or bytes place 0
    by place out (inl before) last = pasted_before bytes at piece place (omega arith) before
    by place out (inr after) (inl inside) = absurd (both_ways (changed (place / 4096)) out (named place after inside))
    by place out (inr after) (inr behind) = pasted_after bytes at piece place (omega arith) behind

-- a number in frames that are the same is the same
pub load_kept : (named : Frames) (old new : List ℕ) (at n : ℕ) → Same named old new
    → ((place : ℕ) → at ≤ place → place < at + n → named (place / 4096) ≡ true) → load new at n ≡ load old at n
load_kept named old new at n same inside =
    load_same new old at at n (λ k h. same.bytes (at + k) (inside (at + k) (omega arith) (omega arith)))

-- a frame of one block alone is in it
pub one_block : (block frame : ℕ) → in_blocks (block ∷ []) frame ≡ true → block ≡ frame / 512
one_block block frame named = by (block_found (block ∷ []) frame named)
  where
    by : (i : ℕ) × (i < 1) × (slice_index (block ∷ []) i ≡ frame / 512) → block ≡ frame / 512
    by (i, few, is) = let first : i ≡ 0 = omega (arith, few) in subst (λ k. slice_index (block ∷ []) k ≡ frame / 512) first is
