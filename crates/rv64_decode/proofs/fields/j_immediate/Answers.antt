use lib.Signed.{shr_z}
use Rattle.std.proofs.Common.{◌≡◌, ◌+◌, ◌-◌, ◌*◌, ◌/◌, ◌%◌, ◌^◌, ◌∙◌, ap, sym, arith, of_z, to_z, w32, w64}
use Rattle.rv64_decode.proofs.Immediates.{extended_word, jump_offset, upper_twelve}
use Rattle.rv64_decode.proofs.fields.j_immediate.Goals as goal

pub returns : goal.returns
returns c =
    let word = c.args.word in
    let fits = c.ranges.word.fits in
    let upper = c.cast_unsigned-upper.result in
    let is : upper ≡ word / 2 ^ 20 + word / 2 ^ 31 * (2 ^ 32 - 2 ^ 12) =
    c.cast_unsigned-upper.ensures ∙ ap (λ z. of_z w32 (to_z w32 (of_z w32 (shr_z (to_z w32 (of_z w32 z)) (2 ^ 20))))) c.cast_signed.ensures ∙ upper_twelve word fits in
    let sign : upper / 2 ^ 20 ≡ word / 2 ^ 31 % 2 * 4095 = omega (arith, is, fits) in
    let low : upper / 2 % 2 ^ 10 ≡ word / 2 ^ 21 % 2 ^ 10 = omega (arith, is) in
    let value = c.cast_unsigned.ensures ∙ ap (λ z. of_z w64 (to_z w64 (of_z w64 (to_z w32 (of_z w32 z))))) c.cast_signed-2.ensures
    ∙ extended_word (upper / 2 ^ 20 * 2 ^ 20 + (word / 4096 % 256 * 4096 + word / 2 ^ 20 % 2 * 2048 + upper / 2 % 1024 * 2)) (omega (arith, sign)) in
    omega (arith, value, sign, low)
    ∙ sym (jump_offset (word / 2 ^ 31 % 2) (word / 2 ^ 12 % 2 ^ 8) (word / 2 ^ 20 % 2) (word / 2 ^ 21 % 2 ^ 10) (omega arith) (omega arith) (omega arith) (omega arith))
