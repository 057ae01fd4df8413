-- A leaf's frame is the first of its page where its address is a multiple of the page's size.
use Rattle.std.proofs.Common.{◌≡◌, ℕ, zero, suc, ◌+◌, ◌*◌, ◌%◌, ◌^◌, ◌<◌, ◌==◌, arith}
use Rattle.arch_defs.specs.TableEntries.{span}
use Rattle.arch_defs.specs.Walk.{most_levels}

pub aligned_alike : (frame level : ℕ) → level < most_levels
    → (4096 * frame % (1 * 2 ^ (12 + 9 * level) % 2 ^ 64) == 0) ≡ (frame % span level == 0)
aligned_alike frame zero few = grind arith
aligned_alike frame (suc zero) few = grind arith
aligned_alike frame (suc (suc zero)) few = grind arith
aligned_alike frame (suc (suc (suc zero))) few = grind arith
aligned_alike frame (suc (suc (suc (suc level)))) few = absurd (omega (arith, few))
