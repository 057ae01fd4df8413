-- Pieces of an image, with zeros behind them.
use Rattle.std.proofs.Common.{◌≡◌, ℕ, ◌+◌, ◌-◌, ◌<◌, ◌≤◌, ◌⊎◌, inl, inr, List, ◌++◌, length, get_or, take, drop, min, replicate, refl, sym, ap, ◌∙◌, arith, length-append, length-drop}
use Rattle.std.proofs.lemmas.Bool.{cases_lt}
use Rattle.std.proofs.lemmas.Grind.{same_number_lists}
use Rattle.std.proofs.lemmas.List.{length-take, length-take-le, length-replicate, get_or-take, get_or-drop, get_or-replicate, get_or_past, get_or_append_left, get_or-append_right, take_min, drop_min}
use Rattle.arch_defs.specs.Memory.{pasted, zeros, loaded}
use Rattle.arch_defs.proofs.Images.{length_loaded}
use Rattle.arch_defs.proofs.Pastes.{length_pasted, pasted_before, pasted_inside, pasted_after}

zero_at : (n i : ℕ) → ◌≡◌ {A = ℕ} (get_or (zeros n) i 0) 0
unfolding zeros
zero_at n i = by (cases_lt i n)
  where
    by : (i < n) ⊎ (n ≤ i) → ◌≡◌ {A = ℕ} (get_or (replicate n 0) i 0) 0
    by (inl inside) = get_or-replicate n i 0 0 inside
    by (inr past) = get_or_past (replicate n 0) i 0 (omega (arith, length-replicate {A = ℕ} n 0, past))

-- the bytes of memory with an image in it
pub image_byte : (size : ℕ) (image : List ℕ) (i : ℕ) → get_or (loaded size image) i 0 ≡ get_or image i 0
unfolding loaded
image_byte size image i = by (cases_lt i (length image))
  where
    by : (i < length image) ⊎ (length image ≤ i) → get_or (image ++ zeros (size - length image)) i 0 ≡ get_or image i 0
    by (inl inside) = get_or_append_left image (zeros (size - length image)) 0 i inside
    by (inr past) =
        get_or-append_right image (zeros (size - length image)) (length image) i 0 refl past
        ∙ (zero_at (size - length image) (i - length image) ∙ sym (get_or_past image i 0 past))

-- memory with the front of an image in it, and the next piece of the image laid behind that
pub next_piece : (size : ℕ) (image : List ℕ) (a n : ℕ) → length image ≤ size → a + n ≤ size
    → pasted (loaded size (take a image)) a (take n (drop a image)) ≡ loaded size (take (a + n) image)
next_piece size image a n fits room =
    same_number_lists (pasted (loaded size (take a image)) a piece) (loaded size (take (a + n) image))
    (left_size ∙ (before_size ∙ sym (length_loaded size (take (a + n) image) (front_fits (a + n)))))
    (λ i h. by i (cases_lt i a) (cases_lt i (a + length piece)) ∙ sym (image_byte size (take (a + n) image) i))
  where
    piece : List ℕ
    piece = take n (drop a image)

    piece_size : length piece ≡ min n (length image - a)
    piece_size = length-take n (drop a image) ∙ ap (min n) (length-drop a image)

    front_fits : (k : ℕ) → length (take k image) ≤ size
    front_fits k = omega (arith, length-take k image, fits)

    before_size : length (loaded size (take a image)) ≡ size
    before_size = length_loaded size (take a image) (front_fits a)

    left_size : length (pasted (loaded size (take a image)) a piece) ≡ length (loaded size (take a image))
    left_size = length_pasted (loaded size (take a image)) a piece (omega (arith, before_size, piece_size, room))

    by : (i : ℕ) → (i < a) ⊎ (a ≤ i) → (i < a + length piece) ⊎ (a + length piece ≤ i)
        → get_or (pasted (loaded size (take a image)) a piece) i 0 ≡ get_or (take (a + n) image) i 0
    by i (inl before) y =
        pasted_before (loaded size (take a image)) a piece i (omega (arith, before_size, room)) before
        ∙ (image_byte size (take a image) i
        ∙ (get_or-take a image i 0 before ∙ sym (get_or-take (a + n) image i 0 (omega (arith, before)))))
    by i (inr after) (inl inside) =
        let there : a + (i - a) ≡ i = omega arith in
        let within : i - a < n = omega (arith, after, inside, piece_size) in
        pasted_inside (loaded size (take a image)) a piece i (omega (arith, before_size, room)) after inside
        ∙ (get_or-take n (drop a image) (i - a) 0 within
        ∙ (get_or-drop a image (i - a) 0
        ∙ (ap (λ k. get_or image k 0) there ∙ sym (get_or-take (a + n) image i 0 (omega (arith, within, after))))))
    by i (inr after) (inr past) =
        pasted_after (loaded size (take a image)) a piece i (omega (arith, before_size, room)) past
        ∙ (image_byte size (take a image) i
        ∙ (get_or_past (take a image) i 0 (omega (arith, length-take a image, after))
        ∙ sym (get_or_past (take (a + n) image) i 0 (omega (arith, length-take (a + n) image, past, piece_size)))))

-- what is done of a memory, and what is still as it was
mixed_before : (t r : List ℕ) (a k : ℕ) → a ≤ length t → k < a → get_or (take a t ++ drop a r) k 0 ≡ get_or t k 0
mixed_before t r a k fits h =
    get_or_append_left (take a t) (drop a r) 0 k (omega (arith, length-take-le a t fits, h)) ∙ get_or-take a t k 0 h

mixed_after : (t r : List ℕ) (a k : ℕ) → a ≤ length t → a ≤ k → get_or (take a t ++ drop a r) k 0 ≡ get_or r k 0
mixed_after t r a k fits h =
    let whole : a + (k - a) ≡ k = omega arith in
    get_or-append_right (take a t) (drop a r) a k 0 (length-take-le a t fits) h ∙ (get_or-drop a r (k - a) 0 ∙ ap (λ n. get_or r n 0) whole)

mixed_size : (t r : List ℕ) (a : ℕ) → length t ≡ length r → a ≤ length t → length (take a t ++ drop a r) ≡ length t
mixed_size t r a sizes fits = omega (arith, length-append (take a t) (drop a r), length-take-le a t fits, length-drop a r, sizes, fits)

-- and the next piece of it done
pub next_front : (t r : List ℕ) (a n : ℕ) → length t ≡ length r → a + n ≤ length t
    → pasted (take a t ++ drop a r) a (take n (drop a t)) ≡ take (a + n) t ++ drop (a + n) r
next_front t r a n sizes room =
    same_number_lists (pasted (take a t ++ drop a r) a (take n (drop a t))) (take (a + n) t ++ drop (a + n) r)
    (left_size ∙ (whole ∙ sym (mixed_size t r (a + n) sizes room)))
    (λ i h. by i (cases_lt i a) (cases_lt i (a + n)))
  where
    piece : length (take n (drop a t)) ≡ n
    piece = length-take-le n (drop a t) (omega (arith, length-drop a t, room))

    whole : length (take a t ++ drop a r) ≡ length t
    whole = mixed_size t r a sizes (omega (arith, room))

    left_size : length (pasted (take a t ++ drop a r) a (take n (drop a t))) ≡ length (take a t ++ drop a r)
    left_size = length_pasted (take a t ++ drop a r) a (take n (drop a t)) (omega (arith, piece, whole, room))

    by : (i : ℕ) → (i < a) ⊎ (a ≤ i) → (i < a + n) ⊎ (a + n ≤ i)
        → get_or (pasted (take a t ++ drop a r) a (take n (drop a t))) i 0 ≡ get_or (take (a + n) t ++ drop (a + n) r) i 0
    by i (inl before) y =
        pasted_before (take a t ++ drop a r) a (take n (drop a t)) i (omega (arith, whole, room)) before
        ∙ (mixed_before t r a i (omega (arith, room)) before ∙ sym (mixed_before t r (a + n) i room (omega (arith, before))))
    by i (inr after) (inl inside) =
        let there : a + (i - a) ≡ i = omega arith in
        pasted_inside (take a t ++ drop a r) a (take n (drop a t)) i (omega (arith, whole, room)) after (omega (arith, inside, piece))
        ∙ (get_or-take n (drop a t) (i - a) 0 (omega (arith, after, inside))
        ∙ (get_or-drop a t (i - a) 0
        ∙ (ap (λ k. get_or t k 0) there ∙ sym (mixed_before t r (a + n) i room inside))))
    by i (inr after) (inr past) =
        pasted_after (take a t ++ drop a r) a (take n (drop a t)) i (omega (arith, whole, room)) (omega (arith, past, piece))
        ∙ (mixed_after t r a i (omega (arith, room)) after ∙ sym (mixed_after t r (a + n) i room past))

-- a cut of an image
pub cut : (image : List ℕ) (from most : ℕ) → take (min most (length (drop (min from (length image)) image))) (drop (min from (length image)) image) ≡ take most (drop from image)
cut image from most = take_min most (drop (min from (length image)) image) ∙ ap (take most) (drop_min from image)
