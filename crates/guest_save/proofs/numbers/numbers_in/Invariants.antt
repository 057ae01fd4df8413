use Rattle.std.proofs.Common.{◌≡◌, ◌*◌, drop, length, take}
use Rattle.guest_save.specs.Numbers.{leading_numbers}
use Rattle.guest_save.proofs.numbers.numbers_in.Given as goal

abbrev pub invariant-loop-i : goal.invariant-loop-i
invariant-loop-i l = record {
  filled : take l.i l.into ≡ leading_numbers l.i l.bytes;
  rest : l.rest ≡ drop (8 * l.i) l.bytes;
  size : length l.into ≡ length l.fn.into;
}
