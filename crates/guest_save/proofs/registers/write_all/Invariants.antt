use Rattle.std.proofs.Common.{◌≡◌, drop}
use Rattle.guest_save.specs.Registers.{all_written}
use Rattle.guest_save.proofs.registers.write_all.Given as goal

abbrev pub invariant-loop-i : goal.invariant-loop-i
invariant-loop-i l = all_written l.csrs (drop l.i l.registers) (drop l.i l.numbers) ≡ all_written l.fn.csrs l.registers l.numbers
