-- What a read of time shows is where the clock is.
use Rattle.std.proofs.Common.{◌≡◌, ap, sym}
use Rattle.machine_defs.specs.Machine.{Platform, with_pending_lines}

pub time_is_set : (p : Platform) → with_pending_lines p ≡ p → p.virt.csrs.time ≡ p.clock.time
time_is_set p is = sym (ap (λ (p : Platform). p.virt.csrs.time) is)
