use Rattle.std.proofs.Common.{◌≡◌, ℕ, ◌/◌, ◌%◌, ◌^◌, ◌==◌, get_or, ap, arith}
use Rattle.std.proofs.lemmas.List.{take_rest}
use Rattle.guest_save.proofs.Parsing.{csrs_of_numbers}
use Rattle.guest_save.proofs.registers.csrs_in.Goals as goal

pub returns : goal.returns
returns c =
    let n = get_or c.args.numbers.now 9 0 in
    let lowest : n % 2 ≡ n / 2 ^ 0 % 2 ^ 1 = omega arith in
    csrs_of_numbers c.args.numbers.now _ c.at_reset-csrs.result c.write_all.new.csrs c.write_all-2.new.csrs (n % 2 == 1) c.at_reset-csrs.ensures c.write_all.ensures
    (ap (λ (x : ℕ). x == 1) lowest) (take_rest c.args.numbers.now 10) c.write_all-2.ensures
