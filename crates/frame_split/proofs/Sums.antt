-- Sums of needs, need by need.
use Rattle.std.proofs.Common.{◌≡◌, ℕ, ◌+◌, ◌*◌, ◌<◌, List, [], ◌∷◌, length, get_or, drop, arith}
use Rattle.std.proofs.lemmas.List.{at_drop_more}
use Rattle.guest_settings.specs.declared.needs.Need.{Need}
use Rattle.guest_settings.specs.Needs.{tables_for}
use Rattle.frame_split.specs.Shares.{frames_of_all, blocks_of_all, roots_of_all, tables_of_all}

pub blocks_more : (needs : List Need) (i : ℕ) (d : Need) → i < length needs → blocks_of_all (drop i needs) ≡ (get_or needs i d).blocks + blocks_of_all (drop (i + 1) needs)
blocks_more needs i d h = at_drop_more blocks_of_all needs i d h

pub roots_more : (needs : List Need) (i : ℕ) (d : Need) → i < length needs → roots_of_all (drop i needs) ≡ 1 + (get_or needs i d).spaces + roots_of_all (drop (i + 1) needs)
roots_more needs i d h = at_drop_more roots_of_all needs i d h

pub tables_more : (needs : List Need) (i : ℕ) (d : Need) → i < length needs
    → tables_of_all (drop i needs) ≡ 1 + (get_or needs i d).spaces * tables_for (get_or needs i d).entries + tables_of_all (drop (i + 1) needs)
tables_more needs i d h = at_drop_more tables_of_all needs i d h

-- the frames are those of the blocks, the roots and the other tables
one_need : (b s e : ℕ) → 512 * b + 5 + s * (4 + tables_for e) ≡ 512 * b + 4 * (1 + s) + (1 + s * tables_for e)
one_need b s e = omega arith

pub frames_sum : (needs : List Need) → frames_of_all needs ≡ 512 * blocks_of_all needs + 4 * roots_of_all needs + tables_of_all needs
frames_sum [] = omega arith
frames_sum (need ∷ needs) = omega (arith, frames_sum needs, one_need (need.blocks) (need.spaces) (need.entries))
