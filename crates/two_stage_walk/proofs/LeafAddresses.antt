-- The address under a leaf, by the leaf's level.
use Rattle.std.proofs.Common.{◌≡◌, ℕ, zero, suc, ◌+◌, ◌*◌, ◌%◌, ◌^◌, ◌<◌, arith}
use Rattle.arch_defs.specs.TableEntries.{span}
use Rattle.arch_defs.specs.Walk.{most_levels}

-- it has the address's offset in a page
pub offset_is : (frame va level : ℕ) → level < most_levels → (4096 * frame + va % (1 * 2 ^ (12 + 9 * level) % 2 ^ 64)) % 4096 ≡ va % 4096
offset_is frame va zero few = omega arith
offset_is frame va (suc zero) few = omega arith
offset_is frame va (suc (suc zero)) few = omega arith
offset_is frame va (suc (suc (suc zero))) few = omega arith
offset_is frame va (suc (suc (suc (suc level)))) few = absurd (omega (arith, few))

-- and 56 bits, since the leaf's frame is the first of its page
pub address_fits : (frame va level : ℕ) → level < most_levels → frame < 2 ^ 44 → frame % span level ≡ 0 → 4096 * frame + va % (1 * 2 ^ (12 + 9 * level) % 2 ^ 64) < 2 ^ 56
address_fits frame va zero few small aligned = omega (arith, small)
address_fits frame va (suc zero) few small aligned = omega (arith, small, aligned)
address_fits frame va (suc (suc zero)) few small aligned = omega (arith, small, aligned)
address_fits frame va (suc (suc (suc zero))) few small aligned = omega (arith, small, aligned)
address_fits frame va (suc (suc (suc (suc level)))) few small aligned = absurd (omega (arith, few))
