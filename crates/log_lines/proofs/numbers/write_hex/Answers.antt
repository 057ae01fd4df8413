use Rattle.std.proofs.Common.{◌≡◌, ◌+◌, ◌-◌, take, sym, ap, ◌∙◌, arith, append_assoc, length-set, take-take}
use Rattle.std.proofs.lemmas.List.{drop-set, take-set}
use Rattle.log_lines.proofs.HexDigits.{hex_more, hex_one, length-hex_more, length-hex_one, length-hex_word, wide}
use Rattle.log_lines.proofs.numbers.write_hex.Goals as goal

pub overflow_sub-at : goal.overflow_sub-at
overflow_sub-at c =
    let l = c.loop-rest in
    omega (arith, length-hex_word c.args.number c.ranges.number.fits, length-hex_more l.rest (omega arith) (wide l.rest l.auto.rest-fits.fits))

pub loop-rest-preserved : goal.loop-rest-preserved
loop-rest-preserved c =
    let l = c.loop-rest in
    let long = length-hex_word c.args.number c.ranges.number.fits in
    let fits = wide l.rest l.auto.rest-fits.fits in
    let step = length-hex_more l.rest (omega arith) fits in
    let e : l.at - 1 + 1 ≡ l.at = omega arith in (
      omega arith,
      omega (arith, length-set l.digits (l.at - 1) c.digit.result),
      omega arith,
      rw (drop-set l.digits (l.at - 1) _ (omega arith), e, c.digit.ensures) (rw (hex_more l.rest (omega arith) fits, append_assoc) at l.invariant.3),
      take-set l.digits (l.at - 1) _
          ∙ sym (take-take (l.at - 1) l.at l.digits (omega arith)) ∙ ap (take (l.at - 1)) l.invariant.4 ∙ take-take (l.at - 1) l.at _ (omega arith),
    )

pub overflow_sub-digits : goal.overflow_sub-digits
overflow_sub-digits c =
    omega (arith, length-hex_word c.args.number c.ranges.number.fits, length-hex_one c.loop-rest.rest (omega arith))

pub overflow_sub-result : goal.overflow_sub-result
overflow_sub-result c =
    omega (arith, length-hex_word c.args.number c.ranges.number.fits, length-hex_one c.loop-rest.rest (omega arith))

pub returns-clause-text : goal.returns-clause-text
returns-clause-text c =
    let l = c.loop-rest in
    let some = length-hex_word c.args.number c.ranges.number.fits in
    let one = length-hex_one l.rest (omega arith) in
    let e : l.at - 1 + 1 ≡ l.at = omega arith in
    rw (drop-set l.digits (l.at - 1) _ (omega arith), e, c.digit-2.ensures) (rw (hex_one l.rest (omega arith)) at l.invariant.3)

pub returns-clause-front : goal.returns-clause-front
returns-clause-front c =
    let l = c.loop-rest in
    take-set l.digits (l.at - 1) _
    ∙ sym (take-take (l.at - 1) l.at l.digits (omega arith)) ∙ ap (take (l.at - 1)) l.invariant.4 ∙ take-take (l.at - 1) l.at _ (omega arith)
