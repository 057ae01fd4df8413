-- Numbers of eight bytes, and lists of items of one size, read again.
use Rattle.std.specs.Int.{from_le_bytes, w64}
use Rattle.std.specs.List.{All, flat_map}
use Rattle.std.specs.Prelude.{nat_le}
use Rattle.std.proofs.Common.{◌≡◌, ℕ, zero, suc, ◌+◌, ◌*◌, ◌^◌, ◌<◌, true, List, [], ◌∷◌, ◌++◌, length, drop, refl, ap, ◌∙◌, arith, append_assoc, length-append}
use Rattle.std.proofs.lemmas.Bool.{le-leb}
use Rattle.std.proofs.lemmas.List.{drop-drop, drop_at, take_at}
use Rattle.std.proofs.lemmas.List.Elements.{All-head, All-tail}
use Rattle.std.proofs.lemmas.Nat.{from_le_bytes-to_le_bytes_8}
use Rattle.guest_save.specs.Numbers.{items_in, number_bytes, number_in, numbers, leading_numbers}

pub number_length : (n : ℕ) → length (number_bytes n) ≡ 8
unfolding number_bytes
number_length n = refl

written_once : (n : ℕ) → n < 2 ^ 64 → from_le_bytes w64 (number_bytes n) ≡ n
unfolding number_bytes
written_once n fits = from_le_bytes-to_le_bytes_8 n fits

-- a number that has 64 bits, and what follows it
pub number_again : (n : ℕ) (rest : List ℕ) → n < 2 ^ 64 → number_in (number_bytes n ++ rest) ≡ n
unfolding number_in
number_again n rest fits =
    let enough : nat_le 8 (length (number_bytes n ++ rest)) ≡ true = le-leb 8 (length (number_bytes n ++ rest)) (omega (arith, length-append (number_bytes n) rest, number_length n)) in
    rw (enough, take_at (number_bytes n) rest 8 (number_length n)) (written_once n fits)

pub after_number : (n : ℕ) (rest : List ℕ) → drop 8 (number_bytes n ++ rest) ≡ rest
after_number n rest = drop_at (number_bytes n) rest 8 (number_length n)

-- items of one size
module _ {A : Type 0} (form : A → List ℕ) (item : List ℕ → A) (size : ℕ) where
  pub items_form_length : ((x : A) → length (form x) ≡ size) → (xs : List A) → length (flat_map form xs) ≡ size * length xs
  items_form_length sizes [] = omega arith
  items_form_length sizes (x ∷ xs) = omega (arith, length-append (form x) (flat_map form xs), sizes x, items_form_length sizes xs)

  pub items_again : (Fit : A → Type 0) → ((x : A) → length (form x) ≡ size) → ((x : A) (rest : List ℕ) → Fit x → item (form x ++ rest) ≡ x)
      → (xs : List A) (rest : List ℕ) → All Fit xs → items_in item size (length xs) (flat_map form xs ++ rest) ≡ xs
  unfolding items_in
  items_again Fit sizes again [] rest fit = refl
  items_again Fit sizes again (x ∷ xs) rest fit =
      let tail = flat_map form xs ++ rest in
      let first = again x tail (All-head Fit x xs fit) in
      let next = drop_at (form x) tail size (sizes x) in
      let others = ap (items_in item size (length xs)) next ∙ items_again Fit sizes again xs rest (All-tail Fit x xs fit) in
      rw (append_assoc (form x) (flat_map form xs) rest) (λ i. first i ∷ others i)

  pub after_items : ((x : A) → length (form x) ≡ size) → (xs : List A) (rest : List ℕ) → drop (size * length xs) (flat_map form xs ++ rest) ≡ rest
  after_items sizes xs rest = drop_at (flat_map form xs) rest (size * length xs) (items_form_length sizes xs)

-- one more item
module _ {A : Type 0} (item : List ℕ → A) (size : ℕ) where
  item_more : (count : ℕ) (bytes : List ℕ) → items_in item size (suc count) bytes ≡ items_in item size count bytes ++ item (drop (size * count) bytes) ∷ []
  unfolding items_in
  item_more zero bytes = let none : size * zero ≡ 0 = omega arith in rw none refl
  item_more (suc count) bytes =
      let further : size + size * count ≡ size * suc count = omega arith in
      let place : drop (size * count) (drop size bytes) ≡ drop (size * suc count) bytes = drop-drop (size * count) size bytes ∙ ap (λ (n : ℕ). drop n bytes) further in
      let rest = item_more count (drop size bytes) ∙ ap (λ (tail : List ℕ). items_in item size count (drop size bytes) ++ item tail ∷ []) place in
      ap (λ (xs : List A). item bytes ∷ xs) rest

  pub items_more : (count : ℕ) (bytes : List ℕ) → items_in item size (count + 1) bytes ≡ items_in item size count bytes ++ item (drop (size * count) bytes) ∷ []
  items_more count bytes = let next : count + 1 ≡ suc count = omega arith in rw next (item_more count bytes)

  pub after_more : (count : ℕ) (bytes : List ℕ) → drop size (drop (size * count) bytes) ≡ drop (size * (count + 1)) bytes
  after_more count bytes =
      let further : size * count + size ≡ size * (count + 1) = omega arith in
      drop-drop size (size * count) bytes ∙ ap (λ (n : ℕ). drop n bytes) further

  pub items_length : (count : ℕ) (bytes : List ℕ) → length (items_in item size count bytes) ≡ count
  unfolding items_in
  items_length zero bytes = refl
  items_length (suc count) bytes = ap suc (items_length count (drop size bytes))

pub numbers_length : (ns : List ℕ) → length (numbers ns) ≡ 8 * length ns
numbers_length ns = items_form_length number_bytes number_in 8 number_length ns

pub so_many_again : (k : ℕ) (ns rest : List ℕ) → length ns ≡ k → All (λ n. n < 2 ^ 64) ns → leading_numbers k (numbers ns ++ rest) ≡ ns
so_many_again k ns rest many fit = rw (← many) (items_again number_bytes number_in 8 (λ n. n < 2 ^ 64) number_length number_again ns rest fit)
