-- Hexadecimal digits, one by one from the last.
use Rattle.std.proofs.Common.{arith, ◌≡◌, sym, ap, ◌∙◌, refl, ⊎_elim, ℕ, zero, suc, ◌+◌, ◌/◌, ◌%◌, ◌^◌, ◌<◌, ◌≤◌, List, [], ◌∷◌, ◌++◌, length, false, cond, append_assoc, length-append, eq-eqb, ne_eqb, lt_of_lt_of_le, ◌-◌, replicate, take, drop, length-drop, take-append-drop, ap₂}
use Rattle.std.proofs.Math.Nat.{pow-le-pow_right}
use Rattle.std.proofs.lemmas.Bool.{cases_lt}
use Rattle.std.proofs.lemmas.List.{drop-append-le, drop-replicate, length-replicate, take-replicate}
use Rattle.std.specs.Fmt.{digits, digit_glyph, digits_onto}
use Rattle.log_lines.specs.Numbers.{hex_text, wide_hex}

abbrev spell : ℕ → ℕ → List ℕ → List ℕ
spell k n acc = digits_onto k 16 false n acc

abbrev pub glyph : ℕ → ℕ
glyph d = digit_glyph false d

spell_last : (k n : ℕ) (acc : List ℕ) → n < 16 → spell (suc k) n acc ≡ glyph (n % 16) ∷ acc
spell_last k n acc h =
    ap (λ t. cond t (glyph (n % 16) ∷ acc) (spell k (n / 16) (glyph (n % 16) ∷ acc))) (eq-eqb (n / 16) 0 (omega arith))

spell_next : (k n : ℕ) (acc : List ℕ) → 16 ≤ n → spell (suc k) n acc ≡ spell k (n / 16) (glyph (n % 16) ∷ acc)
spell_next k n acc h =
    ap (λ t. cond t (glyph (n % 16) ∷ acc) (spell k (n / 16) (glyph (n % 16) ∷ acc))) (ne_eqb (n / 16) 0 (λ e. omega arith))

spell-append : (k n : ℕ) (acc : List ℕ) → spell k n acc ≡ spell k n [] ++ acc
spell-append zero n acc = refl
spell-append (suc k) n acc = ⊎_elim
    (λ l. spell_last k n acc l ∙ ap (λ x. x ++ acc) (sym (spell_last k n [] l)))
    (λ l. spell_next k n acc l ∙ spell-append k (n / 16) (glyph (n % 16) ∷ acc) ∙ sym (append_assoc (spell k (n / 16) []) (glyph (n % 16) ∷ []) acc) ∙ ap (λ x. x ++ acc) (sym (spell_next k n [] l ∙ spell-append k (n / 16) (glyph (n % 16) ∷ []))))
    (cases_lt n 16)

-- the limit of digits does not matter once it is large enough
spell_enough : (j k n : ℕ) (acc : List ℕ) → n < 16 ^ suc j → n < 16 ^ suc k → spell (suc j) n acc ≡ spell (suc k) n acc
spell_enough zero k n acc p q = spell_last zero n acc (omega arith) ∙ sym (spell_last k n acc (omega arith))
spell_enough (suc j) zero n acc p q = spell_last (suc j) n acc (omega arith) ∙ sym (spell_last zero n acc (omega arith))
spell_enough (suc j) (suc k) n acc p q = ⊎_elim
    (λ l. spell_last (suc j) n acc l ∙ sym (spell_last (suc k) n acc l))
    (λ l. spell_next (suc j) n acc l ∙ spell_enough j k (n / 16) (glyph (n % 16) ∷ acc) (omega arith) (omega arith) ∙ sym (spell_next (suc k) n acc l))
    (cases_lt n 16)

hex_is_spelled : (n : ℕ) → hex_text n ≡ spell 64 n []
unfolding digits
hex_is_spelled n = refl

-- a number below 16 has one digit, and another one that of its last digit behind those of the rest
pub hex_one : (n : ℕ) → n < 16 → hex_text n ≡ glyph n ∷ []
hex_one n small = hex_is_spelled n ∙ spell_last 63 n [] small ∙ ap (λ d. glyph d ∷ []) {x = n % 16} {y = n} (omega arith)

pub hex_more : (n : ℕ) → 16 ≤ n → n < 16 ^ 64 → hex_text n ≡ hex_text (n / 16) ++ glyph (n % 16) ∷ []
hex_more n more small =
    hex_is_spelled n ∙ spell_next 63 n [] more ∙ spell_enough 62 63 (n / 16) (glyph (n % 16) ∷ []) (omega arith) (omega arith)
    ∙ spell-append 64 (n / 16) (glyph (n % 16) ∷ []) ∙ ap (λ x. x ++ glyph (n % 16) ∷ []) (sym (hex_is_spelled (n / 16)))

pub length-hex_more : (n : ℕ) → 16 ≤ n → n < 16 ^ 64 → length (hex_text n) ≡ length (hex_text (n / 16)) + 1
length-hex_more n more small = ap length (hex_more n more small) ∙ length-append (hex_text (n / 16)) (glyph (n % 16) ∷ [])

pub length-hex_one : (n : ℕ) → n < 16 → length (hex_text n) ≡ 1
length-hex_one n small = ap length (hex_one n small)

below : (n k : ℕ) → k ≤ 64 → n < 16 ^ k → n < 16 ^ 64
below n k most small = lt_of_lt_of_le small (pow-le-pow_right {n = 16} (omega arith) {i = k} {j = 64} most)

-- how many digits there are at most
pub length-hex-le : (k n : ℕ) → 0 < k → k ≤ 64 → n < 16 ^ k → length (hex_text n) ≤ k
length-hex-le zero n some most small = absurd (omega (arith, some))
length-hex-le (suc zero) n some most small = omega (arith, length-hex_one n (omega arith))
length-hex-le (suc (suc k)) n some most small = ⊎_elim
    (λ l. omega (arith, length-hex_one n l))
    (λ l. omega (arith, length-hex_more n l (below n (suc (suc k)) most small), length-hex-le (suc k) (n / 16) (omega arith) (omega arith) (omega arith)))
    (cases_lt n 16)

pub length-hex_word : (n : ℕ) → n < 2 ^ 64 → length (hex_text n) ≤ 16
length-hex_word n small = length-hex-le 16 n (omega arith) (omega arith) (omega arith)

-- a number of 64 bits has fewer digits than are counted
pub wide : (n : ℕ) → n < 2 ^ 64 → n < 16 ^ 64
wide n small = omega arith

-- zeros, of which those from a place on are written over by all digits, are the digits up to the width
pub widened : (n s : ℕ) (zeros line : List ℕ) → s < 16 → n < 2 ^ 64 → length line ≡ 16 → zeros ≡ replicate 16 48
    → drop s line ≡ hex_text n → take s line ≡ take s zeros → line ≡ wide_hex 16 n
widened n s zeros line within small long same text front =
    let few : 16 - length (hex_text n) ≡ s = omega (arith, ap length (sym text), length-drop s line, long) in
    sym (take-append-drop s line) ∙ ap₂ (λ a b. a ++ b) (front ∙ ap (take s) same ∙ zeros_first s (omega arith)) text
    ∙ ap (λ k. replicate k 48 ++ hex_text n) (sym few)
  where
    zeros_first : (k : ℕ) → k ≤ 16 → take {A = ℕ} k (replicate 16 48) ≡ replicate k 48
    zeros_first k most = take-replicate k 16 48 most

-- and the last 8 of them are those of a number of 32 bits
pub widened_word : (n s : ℕ) (zeros line : List ℕ) → s < 16 → n < 2 ^ 32 → length line ≡ 16 → zeros ≡ replicate 16 48
    → drop s line ≡ hex_text n → take s line ≡ take s zeros → drop 8 line ≡ wide_hex 8 n
widened_word n s zeros line within small long same text front =
    let few = length-hex-le 8 n (omega arith) (omega arith) (omega arith) in
    rw (widened n s zeros line within (omega arith) long same text front) (rest_of (length (hex_text n)) (hex_text n) few)
  where
    rest_of : (k : ℕ) (xs : List ℕ) → k ≤ 8 → drop 8 (replicate (16 - k) 48 ++ xs) ≡ replicate (8 - k) 48 ++ xs
    rest_of k xs most =
        drop-append-le 8 (replicate (16 - k) 48) xs (omega (arith, length-replicate {A = ℕ} (16 - k) 48))
        ∙ ap (λ r. r ++ xs) (drop-replicate 8 (16 - k) 48) ∙ ap (λ n. replicate n 48 ++ xs) {x = 16 - k - 8} {y = 8 - k} (omega arith)
