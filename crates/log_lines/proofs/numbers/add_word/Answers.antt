use Rattle.std.proofs.Common.{arith, refl, drop, length-drop}
use Rattle.std.proofs.lemmas.List.{take_all}
use Rattle.log_lines.proofs.HexDigits.{widened_word}
use Rattle.log_lines.proofs.numbers.add_word.Goals as goal

pub returns-clause-text : goal.returns-clause-text
returns-clause-text c =
    let written = c.write_hex.ensures in
    let line = c.write_hex.new.digits in
    let all = take_all 8 (drop 8 line) (omega (arith, c.write_hex.array_long, length-drop 8 line)) in
    let eight = widened_word c.args.word c.write_hex.result _ line written.within c.ranges.word.fits c.write_hex.array_long refl written.text written.front in
    rw (all, eight) at (rw (c.unwrap.ensures) at c.try_extend_from_slice.ensures.ok)
