-- A search for the closing of a packet that goes on where it stopped.
use Rattle.std.proofs.Common.{arith, ◌≡◌, ℕ, zero, suc, ◌+◌, ◌≤◌, ◌⊎◌, inl, inr, List, [], ◌∷◌, ◌++◌, length, drop, refl, Some, true, false, ◌==◌}
use Rattle.std.proofs.lemmas.Bool.{cases_Bool}
use Rattle.std.proofs.lemmas.List.{drop-append-le}
use Rattle.gdb_packets.specs.declared.messages.Received.{Received}
use Rattle.gdb_packets.specs.Frames.{body_length, closing, message_in}
use Rattle.gdb_packets.proofs.Beginnings.{body_within}
use Rattle.gdb_packets.proofs.Streams.{message_whole}

-- what stands before the closing in the rest, behind bytes of which none is one
from_by : (b n : ℕ) (rest : List ℕ) → suc n ≤ body_length (b ∷ rest) → (n ≤ body_length rest → n + body_length (drop n rest) ≡ body_length rest)
    → ((b == closing) ≡ true) ⊎ ((b == closing) ≡ false) → suc n + body_length (drop (suc n) (b ∷ rest)) ≡ body_length (b ∷ rest)
from_by b n rest few later (inl is) = absurd (omega (arith, rw (is) at few))
from_by b n rest few later (inr other) = let few' : n ≤ body_length rest = omega (arith, rw (other) at few) in
    rw (other) (omega (arith, later few'))

pub search_from : (rest : List ℕ) (n : ℕ) → n ≤ body_length rest → n + body_length (drop n rest) ≡ body_length rest
search_from rest zero few = omega arith
search_from [] (suc n) few = absurd (omega (arith, few))
search_from (b ∷ rest) (suc n) few = from_by b n rest few (search_from rest n) (cases_Bool (b == closing))

pub ruleset searches = (search_from, body_within)

-- more bytes bring no closing before those that were searched
more_by : (b : ℕ) (rest more : List ℕ) → body_length rest ≤ body_length (rest ++ more)
    → ((b == closing) ≡ true) ⊎ ((b == closing) ≡ false) → body_length (b ∷ rest) ≤ body_length ((b ∷ rest) ++ more)
more_by b rest more later (inl is) = rw (is) (omega arith)
more_by b rest more later (inr other) = rw (other) (omega (arith, later))

length_grows : (rest more : List ℕ) → body_length rest ≤ body_length (rest ++ more)
length_grows [] more = omega arith
length_grows (b ∷ rest) more = more_by b rest more (length_grows rest more) (cases_Bool (b == closing))

behind_grows : (bytes more : List ℕ) (searched : ℕ) → searched ≤ body_length (drop 1 bytes) → searched ≤ body_length (drop 1 (bytes ++ more))
behind_grows [] more searched few = omega (arith, few)
behind_grows (b ∷ rest) more searched few = omega (arith, few, length_grows rest more)

pub searched_more : (bytes piece : List ℕ) (start searched : ℕ) → start ≤ length bytes → searched ≤ body_length (drop 1 (drop start bytes))
    → searched ≤ body_length (drop 1 (drop start (bytes ++ piece)))
searched_more bytes piece start searched within few = rw (drop-append-le start bytes piece within) (behind_grows (drop start bytes) piece searched few)

-- a message that has come whole has no more bytes than have come
pub whole_within : (bytes : List ℕ) (received : Received) → message_in bytes ≡ Some received → received.length ≤ length bytes
whole_within bytes received is = (message_whole bytes [] received is).within
