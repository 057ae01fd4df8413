-- Bytes with a piece laid over them, byte by byte, and the numbers in them.
use Rattle.std.proofs.Common.{◌≡◌, ℕ, zero, suc, ◌+◌, ◌-◌, ◌^◌, ◌<◌, ◌≤◌, List, ◌++◌, length, get_or, take, drop, refl, sym, ap, ◌∙◌, arith, length-append, length-drop}
use Rattle.std.proofs.lemmas.List.{length-take-le, get_or-take, get_or-drop, get_or_append_left, get_or-append_right, append_assoc, drop_at}
use Rattle.byteorder.specs.Endian.{little_from, little_number, little_bytes}
use Rattle.byteorder.specs.Numbers.{little_number-reads_back}
use Rattle.arch_defs.specs.Memory.{load, pasted}

-- the pieces of a list of three
front : (a p c : List ℕ) (i : ℕ) → i < length a → get_or (a ++ p ++ c) i 0 ≡ get_or a i 0
front a p c i h =
    get_or_append_left (a ++ p) c 0 i (omega (arith, length-append a p)) ∙ get_or_append_left a p 0 i h

middle : (a p c : List ℕ) (n i : ℕ) → length a ≡ n → n ≤ i → i < n + length p → get_or (a ++ p ++ c) i 0 ≡ get_or p (i - n) 0
middle a p c n i e from to =
    get_or_append_left (a ++ p) c 0 i (omega (arith, length-append a p)) ∙ get_or-append_right a p n i 0 e from

back : (a p c : List ℕ) (n i : ℕ) → length a + length p ≡ n → n ≤ i → get_or (a ++ p ++ c) i 0 ≡ get_or c (i - n) 0
back a p c n i e from = get_or-append_right (a ++ p) c n i 0 (length-append a p ∙ e) from

pub length_pasted : (bytes : List ℕ) (at : ℕ) (piece : List ℕ) → at + length piece ≤ length bytes → length (pasted bytes at piece) ≡ length bytes
length_pasted bytes at piece h =
    let first = length-append (take at bytes ++ piece) (drop (at + length piece) bytes) in
    let second = length-append (take at bytes) piece in
    let taken = length-take-le at bytes (omega arith) in
    let left = length-drop (at + length piece) bytes in
    omega (arith, first, second, taken, left)

pub pasted_before : (bytes : List ℕ) (at : ℕ) (piece : List ℕ) (i : ℕ) → at ≤ length bytes → i < at → get_or (pasted bytes at piece) i 0 ≡ get_or bytes i 0
pasted_before bytes at piece i fits before =
    front (take at bytes) piece (drop (at + length piece) bytes) i (omega (arith, length-take-le at bytes fits)) ∙ get_or-take at bytes i 0 before

pub pasted_inside : (bytes : List ℕ) (at : ℕ) (piece : List ℕ) (i : ℕ) → at ≤ length bytes → at ≤ i → i < at + length piece
    → get_or (pasted bytes at piece) i 0 ≡ get_or piece (i - at) 0
pasted_inside bytes at piece i fits from to =
    middle (take at bytes) piece (drop (at + length piece) bytes) at i (length-take-le at bytes fits) from to

pub pasted_after : (bytes : List ℕ) (at : ℕ) (piece : List ℕ) (i : ℕ) → at ≤ length bytes → at + length piece ≤ i
    → get_or (pasted bytes at piece) i 0 ≡ get_or bytes i 0
pasted_after bytes at piece i fits from =
    let taken = length-take-le at bytes fits in
    let whole : at + length piece + (i - (at + length piece)) ≡ i = omega arith in
    back (take at bytes) piece (drop (at + length piece) bytes) (at + length piece) i (omega arith) from
    ∙ get_or-drop (at + length piece) bytes (i - (at + length piece)) 0
    ∙ ap (λ k. get_or bytes k 0) whole

-- a number depends on its bytes
same_from : (n i : ℕ) (a b : List ℕ) → ((k : ℕ) → i ≤ k → k < i + n → get_or a k 0 ≡ get_or b k 0) → little_from i n a ≡ little_from i n b
same_from zero i a b same = refl
same_from (suc n) i a b same =
    rw (same i (omega arith) (omega arith), same_from n (suc i) a b (λ k from to. same k (omega arith) (omega arith))) refl

pub load_same : (a b : List ℕ) (p q n : ℕ) → ((k : ℕ) → k < n → get_or a (p + k) 0 ≡ get_or b (q + k) 0) → load a p n ≡ load b q n
load_same a b p q n same =
    same_from n 0 (drop p a) (drop q b) (λ k from to. get_or-drop p a k 0 ∙ same k (omega arith) ∙ sym (get_or-drop q b k 0))

-- what was written is read back
pub load_pasted : (bytes : List ℕ) (at n value : ℕ) → at ≤ length bytes → value < 256 ^ n → load (pasted bytes at (little_bytes n value)) at n ≡ value
load_pasted bytes at n value fits small =
    let rest = drop (at + length (little_bytes n value)) bytes in
    ap (little_number n) (ap (drop at) (append_assoc (take at bytes) (little_bytes n value) rest)
    ∙ drop_at (take at bytes) (little_bytes n value ++ rest) at (length-take-le at bytes fits))
    ∙ little_number-reads_back n value rest small

-- and what lies apart from it stays
pub load_apart : (bytes : List ℕ) (at : ℕ) (piece : List ℕ) (place n : ℕ) → at + length piece ≤ length bytes → place + n ≤ at → load (pasted bytes at piece) place n ≡ load bytes place n
load_apart bytes at piece place n fits before =
    load_same (pasted bytes at piece) bytes place place n (λ k h. pasted_before bytes at piece (place + k) (omega arith) (omega arith))

pub load_behind : (bytes : List ℕ) (at : ℕ) (piece : List ℕ) (place n : ℕ) → at + length piece ≤ length bytes → at + length piece ≤ place → load (pasted bytes at piece) place n ≡ load bytes place n
load_behind bytes at piece place n fits behind =
    load_same (pasted bytes at piece) bytes place place n (λ k h. pasted_after bytes at piece (place + k) (omega arith) (omega arith))
