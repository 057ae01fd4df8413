use Rattle.std.proofs.Common.{arith, ◌≡◌, ℕ, ◌+◌, ◌*◌, ◌/◌, ◌%◌, ◌<◌}
use Rattle.arch_defs.specs.Memory.{block_size}
use Rattle.guest_turns.proofs.BlockBytes.{byte_in_block, within_block}
use Rattle.guest_turns.proofs.memory_views.MemoryView.byte.Goals as goal

split : (n : ℕ) → n / 2097152 * 2097152 + n % 2097152 ≡ n
split n = omega arith

small : (n : ℕ) → n % 2097152 < 2097152
small n = omega arith

pub bounds-block-offset : goal.bounds-block-offset
bounds-block-offset c =
    let n = c.args.offset in
    within_block c.args.self.now.ram _ block_size (n / block_size * block_size) (n % block_size) n c.block.ensures (split n) (small n) c.requires

pub returns : goal.returns
returns c =
    let n = c.args.offset in
    byte_in_block c.args.self.now.ram _ block_size (n / block_size * block_size) (n % block_size) n c.block.ensures (split n) (small n)
