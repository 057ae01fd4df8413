-- Which block moves after which turn, and which guests retire: who has what of machine memory after turns.
use Rattle.std.specs.Prelude.{◌≡◌, ℕ, zero, suc, ◌+◌, ◌%◌, ◌==◌, nat_eq, nat_le, Bool, true, false, ◌&&◌, if◌then◌else◌, List, [], ◌∷◌, length, slice_index, slice_set, Option, Some, None}
use Rattle.std.specs.List.{count_by}
use Rattle.arch_defs.specs.Frames.{within}
use Rattle.arch_defs.specs.Layouts.{Layout}
use Rattle.block_moves.specs.Moves.{with_block, without_blocks}
use Rattle.frame_split.specs.Shares.{IsSplit, blocks_of_all, frames_with}
use Rattle.guest_settings.specs.declared.needs.Need.{Need}
use Rattle.guest_turns.specs.Hosted.{Hosted, is_set, lowest, part_at, with_free}
use Rattle.guest_turns.specs.TurnLists.{updated}

-- how many of these turns are a guest's
abbrev pub own_turns : ℕ → List (ℕ × ℕ) → ℕ
own_turns g turns = count_by (λ turn. turn.0 == g) turns

-- one turn more of the guest that is kept, if one is, which no guest has: so it never retires
abbrev pub kept_turn : Option ℕ → ℕ → ℕ
kept_turn None g = 0
kept_turn (Some kept) g = if kept == g then 1 else 0

-- the turns of a guest that come, and one more where it is kept
abbrev pub turns_due : Option ℕ → ℕ → List (ℕ × ℕ) → ℕ
turns_due kept g turns = own_turns g turns + kept_turn kept g

-- who has what of machine memory: the part of each guest, which blocks are free, and which guests have
-- retired
pub record Shares : Type 0 where
  pub parts : List Layout
  pub free : List Bool
  pub retired : List Bool

abbrev pub shares_of : Hosted → Shares
shares_of host = record { parts = host.parts; free = host.free; retired = host.retired }

abbrev pub blocks_at : Shares → ℕ → List ℕ
blocks_at shares g = (part_at shares.parts g).blocks

-- a block of the guest g has moved: it is the block that was the lowest free one, and is free in its place
abbrev pub with_move : ℕ → ℕ → Shares → Shares
with_move g block shares = record {
  parts = updated g (λ part. with_block part block (lowest shares.free)) shares.parts;
  free = with_free (slice_index (blocks_at shares g) block ∷ [])
      (slice_set shares.free (lowest shares.free) false);
  retired = shares.retired;
}

-- the guest g has retired: it has no block, and those that it had are free
abbrev pub with_retired : ℕ → Shares → Shares
with_retired g shares = record {
  parts = updated g without_blocks shares.parts;
  free = with_free (blocks_at shares g) shares.free;
  retired = slice_set shares.retired g true;
}

abbrev pub with_retired_if : Bool → ℕ → Shares → Shares
with_retired_if true g shares = with_retired g shares
with_retired_if false g shares = shares

-- after turn t, which is one of the guest g: block t mod its blocks has moved, and then the guest has
-- retired, where none of the turns that come is its own, unless it is kept (own)
abbrev pub after_turn : Option ℕ → ℕ → ℕ → List (ℕ × ℕ) → Shares → Shares
after_turn kept t g later shares =
    with_retired_if (nat_eq (turns_due kept g later) 0) g
    (with_move g (t % length (blocks_at shares g)) shares)

-- after turns in order, the first of which is turn t
unfoldable pub with_moves : Option ℕ → ℕ → List (ℕ × ℕ) → Shares → Shares
with_moves kept t [] shares = shares
with_moves kept t ((g, k) ∷ turns) shares = with_moves kept (t + 1) turns (after_turn kept t g turns shares)

-- so the guests that retire are those that have a turn, but for the one that is kept
abbrev pub retires : Option ℕ → List (ℕ × ℕ) → ℕ → Bool
retires kept turns g = nat_le 1 (own_turns g turns) && nat_eq (kept_turn kept g) 0

-- the same by how many spare blocks there were: with none, no block moves and no guest retires
abbrev pub moved_by : ℕ → Option ℕ → List (ℕ × ℕ) → Shares → Shares
moved_by zero kept turns shares = shares
moved_by (suc spare) kept turns shares = with_moves kept 0 turns shares

abbrev pub retires_by : ℕ → Option ℕ → List (ℕ × ℕ) → ℕ → Bool
retires_by zero kept turns g = false
retires_by (suc spare) kept turns g = retires kept turns g

-- who has what when guests with these needs have booted with that many spare blocks
pub record AreBooted (needs : List Need) (spare : ℕ) (shares : Shares) : Type 0 where
  pub parts : IsSplit needs shares.parts (frames_with needs spare)
  pub free : (block : ℕ) → is_set shares.free block ≡ within (blocks_of_all needs) spare block
  pub active : (g : ℕ) → is_set shares.retired g ≡ false

-- and after their turns
abbrev pub HasMovedBy : List Need → ℕ → Option ℕ → List (ℕ × ℕ) → Hosted → Type 0
HasMovedBy needs spare kept turns host = (booted : Shares) × AreBooted needs spare booted
    × (shares_of host ≡ moved_by spare kept turns booted)
