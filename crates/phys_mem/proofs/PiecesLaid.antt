-- Pieces that are laid over bytes, one after the other.
use Rattle.std.proofs.Common.{◌≡◌, ℕ, ◌+◌, ◌≤◌, List, [], ◌++◌, length, take, drop, sym, ap, ◌∙◌, arith, length-append, length-drop, take-add}
use Rattle.std.proofs.Math.Seq.{drop-append-add, take-append_seam}
use Rattle.std.proofs.lemmas.List.{append_assoc, length-take-le, drop_all, drop-drop, append-nil, replicate-append-replicate, take-append-drop, length-replicate}
use Rattle.arch_defs.specs.Memory.{pasted, zeros}

-- a piece as long as the bytes takes their place
pub pasted_over : (bytes piece : List ℕ) → length piece ≡ length bytes → pasted bytes 0 piece ≡ piece
pasted_over bytes piece e =
    ap (λ l. piece ++ l) (drop_all (0 + length piece) bytes (omega arith)) ∙ append-nil piece

pub taken_front : (a b : List ℕ) (n : ℕ) → length a ≡ n → take n (a ++ b) ≡ a
taken_front a b n e = rw (← e) (take-append_seam a b)

left_behind : (a b : List ℕ) (n k : ℕ) → length a ≡ n → drop (n + k) (a ++ b) ≡ drop k b
left_behind a b n k e = rw (← e) (drop-append-add a b k)

-- one piece after another
pub pasted_on : (bytes : List ℕ) (at : ℕ) (a b : List ℕ) → at + length a + length b ≤ length bytes
    → pasted (pasted bytes at a) (at + length a) b ≡ pasted bytes at (a ++ b)
pasted_on bytes at a b fits =
    let rest = drop (at + length a) bytes in
    let front : length (take at bytes ++ a) ≡ at + length a = length-append (take at bytes) a ∙ ap (λ n. n + length a) (length-take-le at bytes (omega arith)) in
    let place : at + length a + length b ≡ at + length (a ++ b) = omega (arith, length-append a b) in
    let end : drop (length b) rest ≡ drop (at + length (a ++ b)) bytes = drop-drop (length b) (at + length a) bytes ∙ ap (λ n. drop n bytes) place in
    rw (taken_front (take at bytes ++ a) rest (at + length a) front, left_behind (take at bytes ++ a) rest (at + length a) (length b) front, end) (simp append_assoc)

pub pasted_none : (bytes : List ℕ) (at : ℕ) → pasted bytes at [] ≡ bytes
pasted_none bytes at = let place : at + 0 ≡ at = omega arith in rw (append-nil (take at bytes), place) (take-append-drop at bytes)

pub pasted_more : (bytes piece : List ℕ) (at done more : ℕ) → at + length piece ≤ length bytes → done + more ≤ length piece
    → pasted (pasted bytes at (take done piece)) (at + done) (take more (drop done piece)) ≡ pasted bytes at (take (done + more) piece)
pasted_more bytes piece at done more room fits =
    let first : length (take done piece) ≡ done = length-take-le done piece (omega arith) in
    let second : length (take more (drop done piece)) ≡ more = length-take-le more (drop done piece) (omega (arith, length-drop done piece)) in
    let both = pasted_on bytes at (take done piece) (take more (drop done piece)) (omega arith) in
    sym (ap (λ n. pasted (pasted bytes at (take done piece)) (at + n) (take more (drop done piece))) first) ∙ (both ∙ ap (pasted bytes at) (sym (take-add done more piece)))

pub cleared_more : (bytes : List ℕ) (at done more : ℕ) → at + (done + more) ≤ length bytes
    → pasted (pasted bytes at (zeros done)) (at + done) (zeros more) ≡ pasted bytes at (zeros (done + more))
unfolding zeros
cleared_more bytes at done more room =
    let first : length (zeros done) ≡ done = length-replicate done 0 in
    let second : length (zeros more) ≡ more = length-replicate more 0 in
    let both = pasted_on bytes at (zeros done) (zeros more) (omega arith) in
    sym (ap (λ n. pasted (pasted bytes at (zeros done)) (at + n) (zeros more)) first) ∙ (both ∙ ap (pasted bytes at) (replicate-append-replicate done more 0))

pub cleared_none : (bytes : List ℕ) (at : ℕ) → bytes ≡ pasted bytes at (zeros 0)
unfolding zeros
cleared_none bytes at = sym (pasted_none bytes at)
