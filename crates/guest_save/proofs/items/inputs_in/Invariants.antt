use Rattle.std.proofs.Common.{◌≡◌, ◌*◌, drop}
use Rattle.guest_save.specs.Reading.{leading_inputs}
use Rattle.guest_save.proofs.items.inputs_in.Given as goal

abbrev pub invariant-loop-i : goal.invariant-loop-i
invariant-loop-i l = record {
  read : l.inputs.items ≡ leading_inputs l.i l.bytes;
  rest : l.rest ≡ drop (9 * l.i) l.bytes;
}
