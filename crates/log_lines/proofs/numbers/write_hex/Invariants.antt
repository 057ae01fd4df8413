use Rattle.std.proofs.Common.{◌≡◌, ◌+◌, ◌≤◌, ◌++◌, length, take, drop}
use Rattle.log_lines.specs.Numbers.{hex_text}
use Rattle.log_lines.proofs.numbers.write_hex.Given as goal

abbrev pub invariant-loop-rest : goal.invariant-loop-rest
invariant-loop-rest l =
    (l.at ≤ 16) × (length l.digits ≡ 16) × (l.at + length (hex_text l.number) ≡ 16 + length (hex_text l.rest))
    × (hex_text l.rest ++ drop l.at l.digits ≡ hex_text l.number) × (take l.at l.digits ≡ take l.at l.fn.digits)

abbrev pub decreases-loop-rest : goal.decreases-loop-rest
decreases-loop-rest l = l.rest
