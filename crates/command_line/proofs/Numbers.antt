-- What `parse` makes of a word of decimal digits.
use Rattle.std.proofs.Common.{cond, ◌&&◌, ◌≡◌, ◌∙◌, ℕ, zero, suc, ◌^◌, ◌<◌, ◌≤◌, ◌==◌, Bool, true, false, List, Some, None, Result, Ok, Err, length, nat_le, refl, sym, arith}
use Rattle.std.proofs.Common.{◌⊎◌, inl, inr}
use Rattle.std.proofs.lemmas.Bool.{cases_lt}
use Rattle.std.specs.Char.{is_ascii_digit}
use Rattle.std.specs.List.{list_all}
use Rattle.std.specs.Str.Parse.{ParsesUnsigned, digits_value}
use Rattle.std.proofs.lemmas.Str.Parse.{IsDigitsTest, numerals_by_value, parse_digits}
use Rattle.command_line.specs.Commands.{is_numeral, if_within}

pub both_first : (a b : Bool) → (a && b) ≡ true → a ≡ true
both_first true b h = refl
both_first false b h = cc

pub both_second : (a b : Bool) → (a && b) ≡ true → b ≡ true
both_second true b h = h
both_second false b h = cc

-- the test of each byte is a test of digits
list_tells : IsDigitsTest (λ word. list_all is_ascii_digit word ≡ true)
list_tells = record {
  empty = refl;
  parts = λ c rest h.
      let one : is_ascii_digit c ≡ true = both_first (is_ascii_digit c) (list_all is_ascii_digit rest) h in
      ((digit_least c one, digit_most c one), both_second (is_ascii_digit c) (list_all is_ascii_digit rest) h);
  more = λ c rest inside h. rw (is_digit c inside.0 inside.1) h;
}
  where
    digit_least : (c : ℕ) → is_ascii_digit c ≡ true → 48 ≤ c
    digit_least c h = grind (arith, h)

    digit_most : (c : ℕ) → is_ascii_digit c ≡ true → c ≤ 57
    digit_most c h = grind (arith, h)

    is_digit : (c : ℕ) → 48 ≤ c → c ≤ 57 → is_ascii_digit c ≡ true
    is_digit c least most = grind (arith, least, most)

-- the whole test, where its first parts hold
pub numeral_is : (digits : ℕ) (word : List ℕ) (empty each : Bool) → empty ≡ (length word == 0) → empty ≡ false → length word ≤ digits
    → each ≡ list_all is_ascii_digit word → each ≡ is_numeral digits word
numeral_is digits word empty each is some few all =
    rw (least (length word) (sym is ∙ some), most (length word) digits few) all
  where
    least : (n : ℕ) → (n == 0) ≡ false → nat_le 1 n ≡ true
    least zero h = cc
    least (suc n) h = grind arith

    most : (n d : ℕ) → n ≤ d → nat_le n d ≡ true
    most n d h = grind (arith, h)

-- the parts of a numeral
record IsNumeral (digits : ℕ) (word : List ℕ) : Type 0 where
  some : 0 < length word
  each : list_all is_ascii_digit word ≡ true

parts_of : (digits : ℕ) (word : List ℕ) → is_numeral digits word ≡ true → IsNumeral digits word
parts_of digits word h =
    let a = nat_le 1 (length word) in
    let b = nat_le (length word) digits in
    let c = list_all is_ascii_digit word in
    let p = of_three a b c h in
    record { some = positive (length word) p.0; each = p.1 }
  where
    of_three : (a b c : Bool) → (a && b && c) ≡ true → (a ≡ true) × (c ≡ true)
    of_three true true true h = (refl, refl)
    of_three true true false h = cc
    of_three true false c h = cc
    of_three false b c h = cc

    positive : (n : ℕ) → nat_le 1 n ≡ true → 0 < n
    positive n h = grind (arith, h)

-- a number that is read is the word's, and one that is not is too large
pub number_read : {E : Type 0} (digits : ℕ) (word : List ℕ) (r : Result ℕ E) (n : ℕ) → ParsesUnsigned 64 10 word r → r ≡ Ok n → is_numeral digits word ≡ true
    → n ≡ digits_value 10 word
number_read digits word r n parses is numeral =
    let parts = parts_of digits word numeral in
    let told = parse_digits (numerals_by_value _ list_tells) 64 word r parses parts.each in
    let here = rw is at told in
    here.1

too_large : {E : Type 0} (digits : ℕ) (word : List ℕ) (r : Result ℕ E) (e : E) → ParsesUnsigned 64 10 word r → r ≡ Err e → is_numeral digits word ≡ true
    → digits_value 10 word < 2 ^ 64 → ⊥
too_large digits word r e parses is numeral less =
    let parts = parts_of digits word numeral in
    let told = parse_digits (numerals_by_value _ list_tells) 64 word r parses parts.each in
    let here = rw is at told in
    here (parts.some, less)

above : (least most n : ℕ) → most < n → if_within least most n ≡ None
above least most n more = by (nat_le least n) (nat_le n most) (not_le n most more)
  where
    not_le : (n most : ℕ) → most < n → nat_le n most ≡ false
    not_le n most more = grind (arith, more)

    by : (a b : Bool) → b ≡ false → cond (a && b) (Some n) None ≡ None
    by true false h = refl
    by true true h = cc
    by false b h = refl

pub number_past : {E : Type 0} (digits least most : ℕ) (word : List ℕ) (r : Result ℕ E) (e : E) → ParsesUnsigned 64 10 word r → r ≡ Err e → is_numeral digits word ≡ true
    → most < 2 ^ 64 → if_within least most (digits_value 10 word) ≡ None
number_past digits least most word r e parses is numeral small =
    let v = digits_value 10 word in
    above least most v (by (cases_lt v (2 ^ 64)))
  where
    by : (digits_value 10 word < 2 ^ 64) ⊎ (2 ^ 64 ≤ digits_value 10 word) → most < digits_value 10 word
    by (inl less) = absurd (too_large digits word r e parses is numeral less)
    by (inr past) = omega (arith, past, small)

pub ruleset numbers = (number_read, number_past)
