use Rattle.std.proofs.Common.{◌≡◌, take}
use Rattle.form_pool.specs.Forms.{bytes_of}
use Rattle.form_pool.proofs.pools.FormPool.write.Given as goal

abbrev pub invariant-loop-i : goal.invariant-loop-i
invariant-loop-i l = l.out.items ≡ bytes_of l.self-inside.chunks (take l.i l.form-inside.list.items)
