-- The messages of a stream, in whatever pieces it comes.
use Rattle.std.proofs.Common.{arith, ◌≡◌, ◌∙◌, ℕ, zero, suc, ◌+◌, ◌-◌, ◌<◌, ◌≤◌, List, [], ◌∷◌, ◌++◌, length, drop, take, slice_index, nat_lt, refl, ap, sym, subst, Option, Some, None, true, false, ◌==◌, ◌⊎◌, inl, inr}
use Rattle.std.proofs.lemmas.Bool.{cases_Bool, cases_lt, eqb-true}
use Rattle.std.proofs.lemmas.List.{length-append, length-drop, drop-append-le, get_or_append_left, nil_from_length, take-append-le}
use Rattle.gdb_packets.specs.declared.messages.Message.{Message}
use Rattle.gdb_packets.specs.declared.messages.Received.{Received}
use Rattle.gdb_packets.specs.Frames.{body_length, closing, message_in, opening, packet_at, packet_in, single}
use Rattle.gdb_packets.specs.Streams.{first_messages, messages_in, with_later}
use Rattle.gdb_packets.proofs.Beginnings.{body_within}

-- a closing that is found is found as well before more bytes
length_by : (b : ℕ) (bytes more : List ℕ) → body_length (b ∷ bytes) < length (b ∷ bytes)
    → (body_length bytes < length bytes → body_length (bytes ++ more) ≡ body_length bytes)
    → ((b == closing) ≡ true) ⊎ ((b == closing) ≡ false) → body_length ((b ∷ bytes) ++ more) ≡ body_length (b ∷ bytes)
length_by b bytes more found rest (inl is) = rw (is) refl
length_by b bytes more found rest (inr other) =
    let later : body_length bytes < length bytes = grind (arith, rw (other) at found) in rw (other) (grind (arith, rest later))

length_more : (bytes more : List ℕ) → body_length bytes < length bytes → body_length (bytes ++ more) ≡ body_length bytes
length_more [] more found = absurd (omega (arith, found))
length_more (b ∷ bytes) more found = length_by b bytes more found (length_more bytes more) (cases_Bool (b == closing))

at_front : (bytes more : List ℕ) (k : ℕ) → k < length bytes → slice_index (bytes ++ more) k ≡ slice_index bytes k
at_front bytes more k few = get_or_append_left bytes more 0 k few

packet_more : (n : ℕ) (rest more : List ℕ) → n + 2 < length rest → packet_at n (rest ++ more) ≡ packet_at n rest
packet_more n rest more few =
    let within : n ≤ length rest = omega (arith, few) in
    rw (at_front rest more (n + 1) (omega (arith, few)), at_front rest more (n + 2) few, take-append-le n rest more within) refl

-- a message that has come whole is of one byte at least, and is the same before more bytes
pub record IsWhole (bytes more : List ℕ) (received : Received) : Type 0 where
  pub some : 1 ≤ received.length
  pub within : received.length ≤ length bytes
  pub more_bytes : message_in (bytes ++ more) ≡ Some received

pub opened : (rest : List ℕ) → message_in (opening ∷ rest) ≡ packet_in rest
unfolding message_in
opened rest = refl

single_is : (b : ℕ) (rest : List ℕ) → (b == opening) ≡ false → message_in (b ∷ rest) ≡ Some (record { message = single b; length = 1 })
unfolding message_in
single_is b rest other = rw (other) refl

nothing_is : message_in [] ≡ None
unfolding message_in
nothing_is = refl

packet_long : (rest : List ℕ) → body_length rest + 2 < length rest
    → packet_in rest ≡ Some (record { message = packet_at (body_length rest) rest; length = body_length rest + 4 })
unfolding packet_in
packet_long rest few = let whole : nat_lt (body_length rest + 2) (length rest) ≡ true = grind (arith, few) in rw (whole) refl

packet_short : (rest : List ℕ) → length rest ≤ body_length rest + 2 → packet_in rest ≡ None
unfolding packet_in
packet_short rest few = let cut : nat_lt (body_length rest + 2) (length rest) ≡ false = grind (arith, few) in rw (cut) refl

packet_again : (rest more : List ℕ) → body_length rest + 2 < length rest → packet_in (rest ++ more) ≡ packet_in rest
packet_again rest more few =
    let same : body_length (rest ++ more) ≡ body_length rest = length_more rest more (omega (arith, few)) in
    let longer : body_length (rest ++ more) + 2 < length (rest ++ more) = omega (arith, same, few, length-append rest more) in
    packet_long (rest ++ more) longer
    ∙ ap (λ (n : ℕ). Some (record { message = packet_at n (rest ++ more); length = n + 4 })) same
    ∙ ap (λ (message : Message). Some (record { message = message; length = body_length rest + 4 })) (packet_more (body_length rest) rest more few)
    ∙ sym (packet_long rest few)

length_of : (one other : Received) → Some one ≡ Some other → one.length ≡ other.length
length_of one other is = cc

packet_whole : (rest more : List ℕ) (received : Received) → packet_in rest ≡ Some received → IsWhole (opening ∷ rest) more received
packet_whole rest more received is = by (cases_lt (body_length rest + 2) (length rest))
  where
    by : (body_length rest + 2 < length rest) ⊎ (length rest ≤ body_length rest + 2) → IsWhole (opening ∷ rest) more received
    by (inl few) =
        let size : body_length rest + 4 ≡ received.length = length_of (record { message = packet_at (body_length rest) rest; length = body_length rest + 4 }) received (sym (packet_long rest few) ∙ is) in
        record {
          some = omega (arith, size);
          within = omega (arith, size, few);
          more_bytes = opened (rest ++ more) ∙ packet_again rest more few ∙ is;
        }
    by (inr cut) = let nothing : None ≡ Some received = sym (packet_short rest cut) ∙ is in cc

pub message_whole : (bytes more : List ℕ) (received : Received) → message_in bytes ≡ Some received → IsWhole bytes more received
message_whole [] more received is = let nothing : None ≡ Some received = sym nothing_is ∙ is in cc
message_whole (b ∷ rest) more received is = by (cases_Bool (b == opening))
  where
    by : ((b == opening) ≡ true) ⊎ ((b == opening) ≡ false) → IsWhole (b ∷ rest) more received
    by (inl opens) =
        let same : b ≡ opening = eqb-true b opening opens in
        subst (λ (first : ℕ). IsWhole (first ∷ rest) more received) (sym same)
        (packet_whole rest more received (sym (opened rest) ∙ ap (λ (first : ℕ). message_in (first ∷ rest)) (sym same) ∙ is))
    by (inr other) =
        let size : 1 ≡ received.length = length_of (record { message = single b; length = 1 }) received (sym (single_is b rest other) ∙ is) in
        record {
          some = omega (arith, size);
          within = omega (arith, size);
          more_bytes = single_is b (rest ++ more) other ∙ sym (single_is b rest other) ∙ is;
        }

-- the count of messages that are asked for does not matter, where it is that of the bytes or more
first_suc : (n : ℕ) (bytes : List ℕ) → first_messages (suc n) bytes ≡ with_later (message_in bytes) (λ k. first_messages n (drop k bytes))
unfolding first_messages
first_suc n bytes = refl

first_zero : (bytes : List ℕ) → first_messages 0 bytes ≡ []
unfolding first_messages
first_zero bytes = refl

first_some : (n : ℕ) (bytes : List ℕ) (received : Received) → message_in bytes ≡ Some received
    → first_messages (suc n) bytes ≡ received.message ∷ first_messages n (drop received.length bytes)
first_some n bytes received is = first_suc n bytes ∙ ap (λ (found : Option Received). with_later found (λ k. first_messages n (drop k bytes))) is

first_none : (n : ℕ) (bytes : List ℕ) → message_in bytes ≡ None → first_messages n bytes ≡ []
first_none zero bytes none = first_zero bytes
first_none (suc n) bytes none = first_suc n bytes ∙ ap (λ (found : Option Received). with_later found (λ k. first_messages n (drop k bytes))) none

enough_by : (n : ℕ) (bytes : List ℕ) → length bytes ≤ suc n
    → ((rest : List ℕ) → length rest ≤ n → first_messages (suc n) rest ≡ first_messages n rest)
    → (found : Option Received) → message_in bytes ≡ found → first_messages (suc (suc n)) bytes ≡ first_messages (suc n) bytes
enough_by n bytes few rest None is = first_none (suc (suc n)) bytes is ∙ sym (first_none (suc n) bytes is)
enough_by n bytes few rest (Some received) is =
    let whole : IsWhole bytes [] received = message_whole bytes [] received is in
    first_some (suc n) bytes received is
    ∙ ap (λ (later : List Message). received.message ∷ later)
    (rest (drop received.length bytes) (omega (arith, length-drop received.length bytes, whole.some, whole.within, few)))
    ∙ sym (first_some n bytes received is)

enough : (n : ℕ) (bytes : List ℕ) → length bytes ≤ n → first_messages (suc n) bytes ≡ first_messages n bytes
enough zero bytes few = let none : bytes ≡ [] = nil_from_length bytes (omega (arith, few)) in
    rw (none) (first_none 1 [] nothing_is ∙ sym (first_none 0 [] nothing_is))
enough (suc n) bytes few = enough_by n bytes few (enough n) (message_in bytes) refl

enough_more : (k n : ℕ) (bytes : List ℕ) → length bytes ≤ n → first_messages (n + k) bytes ≡ first_messages n bytes
enough_more zero n bytes few = let none : n + 0 ≡ n = omega arith in ap (λ (k : ℕ). first_messages k bytes) none
enough_more (suc k) n bytes few = let next : n + suc k ≡ suc (n + k) = omega arith in
    ap (λ (k : ℕ). first_messages k bytes) next ∙ enough (n + k) bytes (omega (arith, few)) ∙ enough_more k n bytes few

all_are : (n : ℕ) (bytes : List ℕ) → length bytes ≤ n → first_messages n bytes ≡ messages_in bytes
unfolding messages_in
all_are n bytes few = let more : n ≡ length bytes + (n - length bytes) = omega (arith, few) in
    ap (λ (k : ℕ). first_messages k bytes) more ∙ enough_more (n - length bytes) (length bytes) bytes (omega arith)

-- the next message of a stream, of which the first bytes have come
pub messages_heard : (bytes left : List ℕ) (received : Received) → message_in bytes ≡ Some received
    → messages_in (bytes ++ left) ≡ received.message ∷ messages_in (drop received.length bytes ++ left)
messages_heard bytes left received is =
    let whole : IsWhole bytes left received = message_whole bytes left received is in
    let all = bytes ++ left in
    let rest : drop received.length all ≡ drop received.length bytes ++ left = drop-append-le received.length bytes left whole.within in
    let few : length (drop received.length all) ≤ length all = omega (arith, length-drop received.length all) in
    sym (all_are (suc (length all)) all (omega arith))
    ∙ first_some (length all) all received whole.more_bytes
    ∙ ap (λ (later : List Message). received.message ∷ later) (all_are (length all) (drop received.length all) few)
    ∙ ap (λ (later : List ℕ). received.message ∷ messages_in later) rest

-- and its end
pub messages_over : (bytes : List ℕ) → message_in bytes ≡ None → messages_in bytes ≡ []
unfolding messages_in
messages_over bytes none = first_none (length bytes) bytes none
