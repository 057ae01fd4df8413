use Rattle.std.proofs.Common.{◌≡◌, ◌+◌, ◌*◌, ◌-◌, arith, refl}
use Rattle.phys_mem.proofs.memory.PhysMem.block.Goals as goal

pub returns : goal.returns
returns c =
    let size : c.args.n * 2097152 + 2097152 - c.args.n * 2097152 ≡ 2097152 = omega arith in
    rw (size, c.bytes-bytes.ensures.bytes) refl
