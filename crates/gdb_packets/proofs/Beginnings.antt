-- What bytes begin with, by the first one.
use Rattle.std.proofs.Common.{arith, ◌≡◌, ◌≢◌, ℕ, ◌<◌, ◌≤◌, List, [], ◌∷◌, length, drop, slice_index, refl, Some, None, false, not, ◌==◌}
use Rattle.std.proofs.lemmas.List.Sums.{prefix_len-le-length}
use Rattle.gdb_packets.specs.Frames.{body_length, closing, message_in, opening, packet_in, single}

pub body_within : (rest : List ℕ) → body_length rest ≤ length rest
body_within rest = prefix_len-le-length (λ b. not (b == closing)) rest

pub message_none : (bytes : List ℕ) → length bytes ≡ 0 → message_in bytes ≡ None
unfolding message_in
message_none [] none = refl
message_none (b ∷ rest) none = cc

pub message_opens : (bytes : List ℕ) → 0 < length bytes → slice_index bytes 0 ≡ opening → message_in bytes ≡ packet_in (drop 1 bytes)
unfolding message_in
message_opens [] some opens = cc
message_opens (b ∷ rest) some opens = rw (opens) refl

pub message_single : (bytes : List ℕ) → 0 < length bytes → slice_index bytes 0 ≢ opening
    → message_in bytes ≡ Some (record { message = single (slice_index bytes 0); length = 1 })
unfolding message_in
message_single [] some other = grind (arith, some)
message_single (b ∷ rest) some other = let plain : (b == opening) ≡ false = grind (arith, other) in rw (plain) refl

pub ruleset messages = (message_none, message_opens, message_single)
