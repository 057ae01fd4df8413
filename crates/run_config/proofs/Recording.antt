-- Records of a file, one after the other.
use Rattle.std.proofs.Common.{◌≡◌, ◌≢◌, ℕ, zero, suc, ◌+◌, ◌*◌, ◌-◌, ◌^◌, ◌%◌, ◌<◌, ◌≤◌, Bool, true, false, nat_le, nat_lt, cond, List, [], ◌∷◌, get_or, length, map, take, drop, Option, Some, None, refl, ◌∙◌, add-one, arith}
use Rattle.std.proofs.Math.Nat.{min-le_left, min-le_right}
use Rattle.std.proofs.lemmas.Bool.{eqb-false, le-leb, ltb-false, or_parts}
use Rattle.std.proofs.lemmas.Bool.Decides.{nat_tests}
use Rattle.std.proofs.lemmas.List.{get_or-drop, get_or-take, length-drop, length-take}
use Rattle.std.proofs.lemmas.List.Elements.{All-nil, All-cons, All-get_or}
use Rattle.std.proofs.lemmas.List.FromFn.{get_or-range_with_len, length-map-range_with_len, length-range_with_len}
use Rattle.std.specs.List.{All, find, range_with_len, slice_index}
use Rattle.guest_settings.specs.Inputs.{AreInputs}
use Rattle.run_config.specs.Configurations.{AreByteInputs}
use Rattle.run_config.specs.Guests.{rise_from}
use Rattle.run_config.specs.Records.{bad_record, record_byte, is_bad, moment_at, moment_before, record_at, record_count, records_of}
use Rattle.run_config.proofs.Within.{rise_in_order}

-- where a record begins
pub begins : (bytes : List ℕ) (number : ℕ) → number < record_count bytes → 9 * number ≤ length bytes
unfolding record_count
begins bytes number h = omega (arith, h, min-le_left 1 (length bytes % 9))

-- the first bad record from this one on
abbrev pub rest_bad : List ℕ → ℕ → Option ℕ
rest_bad bytes number = find (is_bad bytes) (range_with_len number (record_count bytes - number))

range_more : (number count : ℕ) → number < count → range_with_len number (count - number) ≡ number ∷ range_with_len (number + 1) (count - (number + 1))
range_more number count h =
    let e : count - number ≡ suc (count - (number + 1)) = omega (arith, h) in
    rw e refl

pub first_rest : (bytes : List ℕ) (number : ℕ) → number ≤ 0 → bad_record bytes ≡ rest_bad bytes number
unfolding bad_record
first_rest bytes number h =
    let e : number ≡ 0 = omega (arith, h) in
    let all : record_count bytes - number ≡ record_count bytes = omega (arith, h) in
    rw (all, e) refl

pub record_passes : (bytes : List ℕ) (number : ℕ) → number < record_count bytes → is_bad bytes number ≡ false → rest_bad bytes number ≡ rest_bad bytes (number + 1)
record_passes bytes number h e = rw (range_more number (record_count bytes) h, e) refl

pub record_fails : (bytes : List ℕ) (number : ℕ) → number < record_count bytes → is_bad bytes number ≡ true → rest_bad bytes number ≡ Some number
record_fails bytes number h e = rw (range_more number (record_count bytes) h, e) refl

pub no_record : (bytes : List ℕ) (number : ℕ) → record_count bytes ≤ number → rest_bad bytes number ≡ None
no_record bytes number h =
    let e : record_count bytes - number ≡ 0 = omega (arith, h) in
    rw e refl

-- what holds of a record that is not bad
record IsGood (bytes : List ℕ) (number : ℕ) : Type 0 where
  whole : 9 * number + 9 ≤ length bytes
  early : moment_at bytes number < 2 ^ 62
  later : moment_before bytes number ≤ moment_at bytes number
  other : number ≢ 65536

is_whole : (bytes : List ℕ) (number : ℕ) → nat_lt (length (record_at bytes number)) 9 ≡ false → 9 * number + 9 ≤ length bytes
unfolding record_at
is_whole bytes number e =
    let long : 9 ≤ length (take 9 (drop (9 * number) bytes)) = ltb-false _ 9 e in
    let rest : 9 ≤ length (drop (9 * number) bytes) = omega (arith, long, length-take 9 (drop (9 * number) bytes), min-le_right 9 (length (drop (9 * number) bytes))) in
    omega (arith, rest, length-drop (9 * number) bytes)

good : (bytes : List ℕ) (number : ℕ) → is_bad bytes number ≡ false → IsGood bytes number
unfolding is_bad
good bytes number e =
    let (rest, d) = or_parts _ _ e in
    let (rest, c) = or_parts _ _ rest in
    let (a, b) = or_parts _ _ rest in
    record {
      whole = is_whole bytes number a;
      early = grind (arith, nat_tests, b);
      later = ltb-false _ _ c;
      other = eqb-false number 65536 d;
    }

pub not_last : (bytes : List ℕ) (number : ℕ) → is_bad bytes number ≡ false → number ≤ 65536 → number + 1 ≤ 65536
not_last bytes number e h = omega (arith, h, (good bytes number e).other)

passes : (b : Bool) (x : ℕ) (rest : Option ℕ) → cond b (Some x) rest ≡ None → (b ≡ false) × (rest ≡ None)
passes true x rest e = cc
passes false x rest e = (refl, e)

none_among : (bytes xs : List ℕ) → find (is_bad bytes) xs ≡ None → All (λ k. is_bad bytes k ≡ false) xs
none_among bytes [] e = All-nil (λ k. is_bad bytes k ≡ false)
none_among bytes (x ∷ xs) e =
    let (here, rest) = passes (is_bad bytes x) x (find (is_bad bytes) xs) e in
    All-cons (λ k. is_bad bytes k ≡ false) x xs here (none_among bytes xs rest)

each_good : (bytes : List ℕ) → bad_record bytes ≡ None → (number : ℕ) → number < record_count bytes → IsGood bytes number
unfolding bad_record
each_good bytes none number h =
    let all = none_among bytes (range_with_len 0 (record_count bytes)) none in
    let at = All-get_or (λ k. is_bad bytes k ≡ false) (range_with_len 0 (record_count bytes)) number 0 (rw (length-range_with_len 0 (record_count bytes)) h) all in
    let same : get_or (range_with_len 0 (record_count bytes)) number 0 ≡ number = get_or-range_with_len 0 (record_count bytes) number 0 h ∙ omega arith in
    good bytes number (rw same at at)

-- without a bad record each is whole
pub each_whole : (bytes : List ℕ) (number : ℕ) → bad_record bytes ≡ None → number < record_count bytes → 9 * number + 9 ≤ length bytes
each_whole bytes number none h = (each_good bytes none number h).whole

few_records : (bytes : List ℕ) → bad_record bytes ≡ None → record_count bytes ≤ 65536
few_records bytes none = by_test (nat_le (record_count bytes) 65536) refl
  where
    by_test : (b : Bool) → nat_le (record_count bytes) 65536 ≡ b → record_count bytes ≤ 65536
    by_test true e = grind (arith, nat_tests, e)
    by_test false e =
        let many : 65536 < record_count bytes = grind (arith, nat_tests, e) in
        absurd ((each_good bytes none 65536 many).other refl)

before_next : (bytes : List ℕ) (number : ℕ) → moment_before bytes (number + 1) ≡ moment_at bytes number
unfolding moment_before
before_next bytes number = rw (add-one number) refl

rises : (bytes : List ℕ) (start n : ℕ) → ((k : ℕ) → start ≤ k → k < start + n → IsGood bytes k)
    → rise_from (moment_before bytes start) (map (λ k. (moment_at bytes k, record_byte bytes k)) (range_with_len start n)) ≡ true
unfolding rise_from
rises bytes start zero each = refl
rises bytes start (suc n) each =
    let later : moment_before bytes start ≤ moment_at bytes start = (each start (omega arith) (omega arith)).later in
    let rest = rises bytes (start + 1) n (λ k least most. each k (omega (arith, least)) (omega (arith, most))) in
    rw (le-leb (moment_before bytes start) (moment_at bytes start) later) (rw (before_next bytes start) at rest)

all_at : (P : ℕ × ℕ → Type 0) (f : ℕ → ℕ × ℕ) (start n : ℕ) → ((k : ℕ) → start ≤ k → k < start + n → P (f k)) → All P (map f (range_with_len start n))
all_at P f start zero each = All-nil P
all_at P f start (suc n) each =
    All-cons P (f start) _ (each start (omega arith) (omega arith)) (all_at P f (start + 1) n (λ k least most. each k (omega (arith, least)) (omega (arith, most))))

byte_small : (bytes : List ℕ) → ((k : ℕ) → slice_index bytes k < 256) → (number : ℕ) → record_byte bytes number < 256
unfolding record_byte record_at
byte_small bytes small number =
    rw (get_or-take 9 (drop (9 * number) bytes) 8 0 (omega arith), get_or-drop (9 * number) bytes 8 0) (small (9 * number + 8))

-- the inputs of records none of which is bad
pub records_are_inputs : (bytes : List ℕ) → bad_record bytes ≡ None → AreInputs (records_of bytes)
unfolding records_of moment_before
records_are_inputs bytes none =
    let f : ℕ → ℕ × ℕ = λ k. (moment_at bytes k, record_byte bytes k) in
    let each = each_good bytes none in
    record {
      count = rw (length-map-range_with_len {X = ℕ × ℕ} f 0 (record_count bytes)) (few_records bytes none);
      moments = all_at (λ input. input.0 < 2 ^ 62) f 0 (record_count bytes) (λ k least most. (each k (omega (arith, most))).early);
      order = rise_in_order 0 (map f (range_with_len 0 (record_count bytes))) (rises bytes 0 (record_count bytes) (λ k least most. each k (omega (arith, most))));
    }

-- the same where each byte is one
pub records_within : (bytes : List ℕ) → ((k : ℕ) → slice_index bytes k < 256) → bad_record bytes ≡ None → AreByteInputs (records_of bytes)
unfolding records_of
records_within bytes small none = record {
  inputs = records_are_inputs bytes none;
  bytes = all_at (λ input. input.1 < 256) (λ k. (moment_at bytes k, record_byte bytes k)) 0 (record_count bytes) (λ k least most. byte_small bytes small k);
}

pub ruleset records = (begins, first_rest, record_passes, record_fails, no_record, not_last)
