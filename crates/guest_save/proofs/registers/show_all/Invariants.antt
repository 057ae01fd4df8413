use Rattle.std.proofs.Common.{◌≡◌, length, map, take}
use Rattle.arch_defs.specs.CsrAccess.{shown}
use Rattle.guest_save.proofs.registers.show_all.Given as goal

abbrev pub invariant-loop-i : goal.invariant-loop-i
invariant-loop-i l = record {
  filled : take l.i l.into ≡ map (shown l.csrs) (take l.i l.registers);
  size : length l.into ≡ length l.fn.into;
}
