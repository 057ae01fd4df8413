-- The slices of a list with these numbers, of any size, one after the other.
use Rattle.std.proofs.Common.{◌≡◌, ℕ, suc, ◌+◌, ◌-◌, ◌*◌, ◌/◌, ◌%◌, ◌<◌, ◌≤◌, ◌⊎◌, inl, inr, List, [], ◌∷◌, ◌++◌, length, get_or, slice_index, take, drop, refl, sym, ap, ◌∙◌, arith, length-append, length-drop}
use Rattle.std.proofs.Math.Nat.{div-eq_of_lt, mod-eq_of_lt}
use Rattle.std.proofs.lemmas.Bool.{cases_lt}
use Rattle.std.proofs.lemmas.Grind.{same_number_lists}
use Rattle.std.proofs.lemmas.List.{length-take-le, get_or-take, get_or-drop, get_or_append_left, get_or-append_right}
use Rattle.std.proofs.lemmas.Nat.{div-add-mod', div-mul-add, mod-mul-add, mod_below, div_below, same_from_place}
use Rattle.arch_defs.specs.Memory.{load, pasted}
use Rattle.arch_defs.specs.Ram.{slices, place_in, SlicesLieIn, IsDistinct}
use Rattle.arch_defs.proofs.Pastes.{length_pasted, pasted_before, pasted_inside, pasted_after, load_same}

later : (size n : ℕ) (ns : List ℕ) (most : ℕ) → SlicesLieIn size (n ∷ ns) most → SlicesLieIn size ns most
later size n ns most lie = λ i h. lie (suc i) (omega arith)

pub length_slices : (size : ℕ) (ns memory : List ℕ) → SlicesLieIn size ns (length memory) → length (slices size ns memory) ≡ length ns * size
unfolding slices
length_slices size [] memory lie = omega arith
length_slices size (n ∷ ns) memory lie =
    let first = lie 0 (omega arith) in
    let taken : length (take size (drop (n * size) memory)) ≡ size = length-take-le size (drop (n * size) memory) (omega (arith, length-drop (n * size) memory, first)) in
    let rest = length_slices size ns memory (later size n ns (length memory) lie) in
    omega (arith, length-append (take size (drop (n * size) memory)) (slices size ns memory), taken, rest)

-- an offset is in a slice and in no other, and its place is inside
pub slot : (size count offset : ℕ) → 0 < size → offset < count * size → offset / size < count
slot size count offset some h = div_below offset size count some h

pub place_fits : (size : ℕ) (ns : List ℕ) (most offset : ℕ) → 0 < size → SlicesLieIn size ns most → offset < length ns * size
    → place_in size ns offset + size ≤ most + offset % size
place_fits size ns most offset some lie h =
    let whole = lie (offset / size) (slot size (length ns) offset some h) in omega arith

pub place_inside : (size : ℕ) (ns : List ℕ) (most offset : ℕ) → 0 < size → SlicesLieIn size ns most → offset < length ns * size → place_in size ns offset < most
place_inside size ns most offset some lie h =
    let fits = place_fits size ns most offset some lie h in
    let rest = mod_below offset size some in omega (arith, fits, rest)

-- two offsets have two places
pub places_apart : (size : ℕ) (ns : List ℕ) (a b : ℕ) → 0 < size → IsDistinct ns → a < length ns * size → b < length ns * size
    → place_in size ns a ≡ place_in size ns b → a ≡ b
places_apart size ns a b some distinct a_in b_in same =
    let parts = same_from_place (slice_index ns (a / size)) (a % size) (slice_index ns (b / size)) (b % size) size (mod_below a size some) (mod_below b size some) same in
    let slots = distinct (a / size) (b / size) (slot size (length ns) a some a_in) (slot size (length ns) b some b_in) parts.0 in
    sym (div-add-mod' a size) ∙ (ap (λ q. q * size + a % size) slots ∙ ap (λ r. b / size * size + r) parts.1) ∙ div-add-mod' b size

-- the places of one slice go on together
forth : (size offset k : ℕ) → offset % size + k < size → (offset + k ≡ offset / size * size + (offset % size + k))
forth size offset k h = omega (arith, div-add-mod' offset size)

pub same_slot : (size offset k : ℕ) → offset % size + k < size → (offset + k) / size ≡ offset / size
same_slot size offset k h = ap (λ n. n / size) (forth size offset k h) ∙ div-mul-add (offset / size) size (offset % size + k) h

pub along : (size : ℕ) (ns : List ℕ) (offset k : ℕ) → offset % size + k < size → place_in size ns (offset + k) ≡ place_in size ns offset + k
along size ns offset k h =
    let rest : (offset + k) % size ≡ offset % size + k = ap (λ n. n % size) (forth size offset k h) ∙ mod-mul-add (offset / size) size (offset % size + k) h in
    let quotient = ap (λ q. slice_index ns q * size) (same_slot size offset k h) in omega (arith, rest, quotient)

-- an offset beyond the first slice
beyond : (size offset : ℕ) → 0 < size → size ≤ offset → offset ≡ suc ((offset - size) / size) * size + (offset - size) % size
beyond size offset some h = omega (arith, div-add-mod' (offset - size) size)

next_slot : (size offset : ℕ) → 0 < size → size ≤ offset → offset / size ≡ suc ((offset - size) / size)
next_slot size offset some h =
    ap (λ n. n / size) (beyond size offset some h) ∙ div-mul-add (suc ((offset - size) / size)) size ((offset - size) % size) (mod_below (offset - size) size some)

next_rest : (size offset : ℕ) → 0 < size → size ≤ offset → offset % size ≡ (offset - size) % size
next_rest size offset some h =
    ap (λ n. n % size) (beyond size offset some h) ∙ mod-mul-add (suc ((offset - size) / size)) size ((offset - size) % size) (mod_below (offset - size) size some)

place_first : (size n : ℕ) (ns : List ℕ) (offset : ℕ) → offset < size → place_in size (n ∷ ns) offset ≡ n * size + offset
place_first size n ns offset h =
    let quotient : offset / size ≡ 0 = div-eq_of_lt h in
    let rest : offset % size ≡ offset = mod-eq_of_lt h in
    rw (quotient, rest) refl

place_next : (size n : ℕ) (ns : List ℕ) (offset : ℕ) → 0 < size → size ≤ offset → place_in size (n ∷ ns) offset ≡ place_in size ns (offset - size)
place_next size n ns offset some h = rw (next_slot size offset some h, next_rest size offset some h) refl

-- each byte is the one at its place
pub byte_of : (size : ℕ) (ns memory : List ℕ) (offset : ℕ) → 0 < size → SlicesLieIn size ns (length memory) → offset < length ns * size
    → get_or (slices size ns memory) offset 0 ≡ get_or memory (place_in size ns offset) 0
unfolding slices
byte_of size [] memory offset some lie h = absurd (omega (arith, h))
byte_of size (n ∷ ns) memory offset some lie h =
    let first = lie 0 (omega arith) in
    let taken : length (take size (drop (n * size) memory)) ≡ size = length-take-le size (drop (n * size) memory) (omega (arith, length-drop (n * size) memory, first)) in
    by taken (byte_of size ns memory (offset - size) some (later size n ns (length memory) lie)) (cases_lt offset size)
  where
    by : length (take size (drop (n * size) memory)) ≡ size
        → (offset - size < length ns * size → get_or (slices size ns memory) (offset - size) 0 ≡ get_or memory (place_in size ns (offset - size)) 0)
        → (offset < size) ⊎ (size ≤ offset) → get_or (take size (drop (n * size) memory) ++ slices size ns memory) offset 0 ≡ get_or memory (place_in size (n ∷ ns) offset) 0
    by taken below (inl inside) =
        get_or_append_left (take size (drop (n * size) memory)) (slices size ns memory) 0 offset (omega (arith, taken, inside))
        ∙ (get_or-take size (drop (n * size) memory) offset 0 inside
        ∙ (get_or-drop (n * size) memory offset 0
        ∙ ap (λ p. get_or memory p 0) (sym (place_first size n ns offset inside))))
    by taken below (inr behind) =
        get_or-append_right (take size (drop (n * size) memory)) (slices size ns memory) size offset 0 taken behind
        ∙ (below (omega (arith, h, behind))
        ∙ ap (λ p. get_or memory p 0) (sym (place_next size n ns offset some behind)))

-- so equal bytes at their places make equal slices
pub slices_alike : (size : ℕ) (ns old new : List ℕ) → 0 < size → length new ≡ length old → SlicesLieIn size ns (length old)
    → ((offset : ℕ) → offset < length ns * size → get_or new (place_in size ns offset) 0 ≡ get_or old (place_in size ns offset) 0)
    → slices size ns new ≡ slices size ns old
slices_alike size ns old new some sizes lie same =
    same_number_lists (slices size ns new) (slices size ns old) (counted ∙ sym (length_slices size ns old lie))
    (λ i h. by i (omega (arith, counted, h)))
  where
    lie_too : SlicesLieIn size ns (length new)
    lie_too = λ i h. let fits = lie i h in omega (arith, fits, sizes)

    counted : length (slices size ns new) ≡ length ns * size
    counted = length_slices size ns new lie_too

    by : (i : ℕ) → i < length ns * size → get_or (slices size ns new) i 0 ≡ get_or (slices size ns old) i 0
    by i h = byte_of size ns new i some lie_too h ∙ (same i h ∙ sym (byte_of size ns old i some lie h))

-- a number that lies in one slice is read at its place
pub load_slices : (size : ℕ) (ns memory : List ℕ) (offset n : ℕ) → 0 < size → SlicesLieIn size ns (length memory)
    → offset + n ≤ length ns * size → offset % size + n ≤ size → load (slices size ns memory) offset n ≡ load memory (place_in size ns offset) n
load_slices size ns memory offset n some lie inside one =
    load_same (slices size ns memory) memory offset (place_in size ns offset) n
    (λ k h. byte_of size ns memory (offset + k) some lie (omega arith) ∙ ap (λ p. get_or memory p 0) (along size ns offset k (omega arith)))

-- and a piece laid over one slice lies there in all of them
pub pasted_slices : (size : ℕ) (ns memory : List ℕ) (offset : ℕ) (piece : List ℕ) → 0 < size → SlicesLieIn size ns (length memory) → IsDistinct ns
    → offset < length ns * size → offset + length piece ≤ length ns * size → offset % size + length piece ≤ size
    → slices size ns (pasted memory (place_in size ns offset) piece) ≡ pasted (slices size ns memory) offset piece
pasted_slices size ns memory offset piece some lie distinct from inside one =
    same_number_lists (slices size ns (pasted memory place piece)) (pasted (slices size ns memory) offset piece)
    (counted_new ∙ sym (length_pasted (slices size ns memory) offset piece (omega (arith, counted, inside)) ∙ counted))
    (λ i h. by i (omega (arith, counted_new, h)) (cases_lt i offset) (cases_lt i (offset + length piece)))
  where
    place : ℕ
    place = place_in size ns offset

    fits : place + length piece ≤ length memory
    fits = let room = place_fits size ns (length memory) offset some lie from in omega (arith, room, one)

    counted : length (slices size ns memory) ≡ length ns * size
    counted = length_slices size ns memory lie

    sizes : length (pasted memory place piece) ≡ length memory
    sizes = length_pasted memory place piece fits

    lie_too : SlicesLieIn size ns (length (pasted memory place piece))
    lie_too = λ i h. let room = lie i h in omega (arith, room, sizes)

    counted_new : length (slices size ns (pasted memory place piece)) ≡ length ns * size
    counted_new = length_slices size ns (pasted memory place piece) lie_too

    outside : (i : ℕ) → i < length ns * size → (i < offset) ⊎ (offset + length piece ≤ i)
        → (place_in size ns i < place) ⊎ (place ≤ place_in size ns i) → (place_in size ns i < place + length piece) ⊎ (place + length piece ≤ place_in size ns i)
        → get_or (pasted memory place piece) (place_in size ns i) 0 ≡ get_or memory (place_in size ns i) 0
    outside i h away (inl before) last = pasted_before memory place piece (place_in size ns i) (omega (arith, fits)) before
    outside i h away (inr after) (inr behind) = pasted_after memory place piece (place_in size ns i) (omega (arith, fits)) behind
    outside i h away (inr after) (inl last) =
        let k : ℕ = place_in size ns i - place in
        let there : place_in size ns (offset + k) ≡ place + k = along size ns offset k (omega arith) in
        let same : i ≡ offset + k = places_apart size ns i (offset + k) some distinct h (omega arith) (omega arith) in
        absurd (elim away [ inl e ↦ omega arith | inr e ↦ omega arith ])

    away : (i : ℕ) → i < length ns * size → (i < offset) ⊎ (offset + length piece ≤ i)
        → get_or (slices size ns (pasted memory place piece)) i 0 ≡ get_or (slices size ns memory) i 0
    away i h out =
        byte_of size ns (pasted memory place piece) i some lie_too h
        ∙ (outside i h out (cases_lt (place_in size ns i) place) (cases_lt (place_in size ns i) (place + length piece))
        ∙ sym (byte_of size ns memory i some lie h))

    within : (i : ℕ) → i < length ns * size → offset ≤ i → i < offset + length piece
        → get_or (slices size ns (pasted memory place piece)) i 0 ≡ get_or piece (i - offset) 0
    within i h after before =
        let k : ℕ = i - offset in
        let whole : offset + k ≡ i = omega arith in
        let there : place_in size ns i ≡ place + k = ap (place_in size ns) (sym whole) ∙ along size ns offset k (omega arith) in
        let rest : place_in size ns i - place ≡ i - offset = omega arith in
        byte_of size ns (pasted memory place piece) i some lie_too h
        ∙ (pasted_inside memory place piece (place_in size ns i) (omega (arith, fits)) (omega (arith, there)) (omega (arith, there, before))
        ∙ ap (λ k. get_or piece k 0) rest)

    by : (i : ℕ) → i < length ns * size → (i < offset) ⊎ (offset ≤ i) → (i < offset + length piece) ⊎ (offset + length piece ≤ i)
        → get_or (slices size ns (pasted memory place piece)) i 0 ≡ get_or (pasted (slices size ns memory) offset piece) i 0
    by i h (inl before) last = away i h (inl before) ∙ sym (pasted_before (slices size ns memory) offset piece i (omega (arith, counted, inside)) before)
    by i h (inr after) (inl last) = within i h after last ∙ sym (pasted_inside (slices size ns memory) offset piece i (omega (arith, counted, inside)) after last)
    by i h (inr after) (inr behind) = away i h (inr behind) ∙ sym (pasted_after (slices size ns memory) offset piece i (omega (arith, counted, inside)) behind)
