use Rattle.std.proofs.Common.{◌≡◌, Some, drop}
use Rattle.gdb_commands.specs.Numbers.{digits_with}
use Rattle.gdb_commands.proofs.numbers.digits_in.Given as goal

abbrev pub invariant-loop-i : goal.invariant-loop-i
invariant-loop-i l = digits_with l.base l.most l.n (drop l.i l.bytes) ≡ digits_with l.base l.most (Some 0) l.bytes
