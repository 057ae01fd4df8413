-- What is written is read back.
use Rattle.std.proofs.Common.{arith, ◌≡◌, ◌≢◌, ◌∙◌, ℕ, zero, suc, ◌+◌, min, ◌/◌, ◌%◌, ◌<◌, ◌≤◌, List, [], ◌∷◌, ◌++◌, length, nat_lt, take, slice_index, refl, ap, Some, None, Bool, true, false, ◌==◌}
use Rattle.std.specs.List.{All}
use Rattle.std.proofs.lemmas.List.Elements.{All-append, All-cons}
use Rattle.gdb_packets.specs.declared.messages.Message.TheVariants.{Packet}
use Rattle.std.proofs.lemmas.List.{length-append, length-take, get_or-append-add, append_assoc}
use Rattle.gdb_packets.specs.Digits.{byte_digits, digit, digit_value, hex, pair_value}
use Rattle.gdb_packets.specs.Frames.{body_length, checksum, closing, escape, escaped, escaped_byte, framed, is_special, is_sum, message_in, packet_at, packet_in, turned, unescaped}
use Rattle.gdb_packets.specs.Laws.{CutIsNone, FramedIsRead, HexIsRead, IsByte}
use Rattle.gdb_packets.proofs.Beginnings.{body_within}
use Rattle.gdb_packets.proofs.Fronts.{plain_step, turned_step, unescaped_end, unhex_end, unhex_step}
use Rattle.gdb_packets.proofs.Streams.{opened}

-- each but the first
rest_are : (P : ℕ → Type 0) (x : ℕ) (xs : List ℕ) → All P (x ∷ xs) → All P xs
rest_are P x xs all = λ k d few. all (suc k) d (omega (arith, few))

first_is : (P : ℕ → Type 0) (x : ℕ) (xs : List ℕ) → All P (x ∷ xs) → P x
first_is P x xs all = all 0 x (omega arith)

-- a digit has its number, and two digits their byte
digit_back : (n : ℕ) → n < 16 → digit_value (digit n) ≡ Some n
unfolding digit digit_value
digit_back n small = grind (arith, small)

pair_back : (b : ℕ) → b < 256 → pair_value (digit (b / 16)) (digit (b % 16)) ≡ Some b
pair_back b small = rw (digit_back (b / 16) (omega (arith, small)), digit_back (b % 16) (omega arith))
    (ap (λ (v : ℕ). Some v) (omega arith))

pub hex_back : HexIsRead
hex_back [] bytes = unhex_end
hex_back (b ∷ rest) bytes = unhex_step (digit (b / 16)) (digit (b % 16)) (hex rest)
    ∙ rw (pair_back b (first_is IsByte b rest bytes), hex_back rest (rest_are IsByte b rest bytes)) refl

-- what a special byte is sent as is not a closing, and turned again it is the byte
abbrev IsOpen : ℕ → Type 0
IsOpen b = b ≢ closing

turned_open : (b : ℕ) → is_special b ≡ true → turned b ≢ closing
turned_open b special = grind (arith, special)

turned_back : (b : ℕ) → is_special b ≡ true → turned (turned b) ≡ b
turned_back b special = grind (arith, special)

plain_open : (b : ℕ) → is_special b ≡ false → b ≢ closing
plain_open b plain = grind (arith, plain)

plain_escape : (b : ℕ) → is_special b ≡ false → (b == escape) ≡ false
plain_escape b plain = grind (arith, plain)

none_open : All IsOpen []
none_open k d few = omega (arith, few)

-- each byte of a packet's data is open
byte_open : (b : ℕ) (special : Bool) → is_special b ≡ special → All IsOpen (escaped_byte b)
unfolding escaped_byte
byte_open b true is = rw (is) (All-cons IsOpen escape (turned b ∷ []) (λ same. omega (arith, same)) (All-cons IsOpen (turned b) [] (turned_open b is) none_open))
byte_open b false is = rw (is) (All-cons IsOpen b [] (plain_open b is) none_open)

escaped_open : (payload : List ℕ) → All IsOpen (escaped payload)
escaped_open [] = none_open
escaped_open (b ∷ rest) = All-append IsOpen (escaped_byte b) (escaped rest) (byte_open b (is_special b) refl) (escaped_open rest)

-- the closing is found behind them
length_at : (body tail : List ℕ) → All IsOpen body → body_length (body ++ closing ∷ tail) ≡ length body
length_at [] tail open_all = refl
length_at (b ∷ body) tail open_all =
    let other : (b == closing) ≡ false = grind (arith, first_is IsOpen b body open_all) in
    rw (other) (grind (arith, length_at body tail (rest_are IsOpen b body open_all)))

take_body : (body tail : List ℕ) → take (length body) (body ++ tail) ≡ body
take_body [] tail = refl
take_body (b ∷ body) tail = ap (λ (rest : List ℕ). b ∷ rest) (take_body body tail)

at_body : (body tail : List ℕ) (k : ℕ) → slice_index (body ++ tail) (length body + k) ≡ slice_index tail k
at_body body tail k = get_or-append-add body tail k 0

-- data without escapes again
byte_back : (b : ℕ) (rest : List ℕ) (special : Bool) → is_special b ≡ special → unescaped (escaped rest) ≡ Some rest
    → unescaped (escaped_byte b ++ escaped rest) ≡ Some (b ∷ rest)
unfolding escaped_byte
byte_back b rest true is back = rw (is) (turned_step (turned b) (escaped rest) ∙ rw (turned_back b is, back) refl)
byte_back b rest false is back = rw (is) (plain_step b (escaped rest) (plain_escape b is) ∙ rw (back) refl)

unescaped_back : (payload : List ℕ) → unescaped (escaped payload) ≡ Some payload
unescaped_back [] = unescaped_end
unescaped_back (b ∷ rest) = byte_back b rest (is_special b) refl (unescaped_back rest)

-- a packet behind its opening, whatever follows its digits
module _ (body payload rest : List ℕ) (open_all : All IsOpen body) (back : unescaped body ≡ Some payload) where
  abbrev high : ℕ
  high = digit (checksum body / 16)

  abbrev low : ℕ
  low = digit (checksum body % 16)

  abbrev all : List ℕ
  all = body ++ closing ∷ high ∷ low ∷ rest

  sum_read : is_sum (pair_value (slice_index all (length body + 1)) (slice_index all (length body + 2))) (checksum body) ≡ true
  sum_read = rw (at_body body (closing ∷ high ∷ low ∷ rest) 1, at_body body (closing ∷ high ∷ low ∷ rest) 2, pair_back (checksum body) (omega arith))
      (grind arith)

  packet_is : packet_at (length body) all ≡ Packet payload
  packet_is = rw (take_body body (closing ∷ high ∷ low ∷ rest), sum_read, back) refl

  whole : nat_lt (length body + 2) (length all) ≡ true
  whole = grind (arith, length-append body (closing ∷ high ∷ low ∷ rest))

  packet_whole : packet_in all ≡ Some (record { message = Packet payload; length = length body + 4 })
  unfolding packet_in
  packet_whole = rw (length_at body (high ∷ low ∷ rest) open_all, whole, packet_is) refl

pub framed_back : FramedIsRead
framed_back payload rest = let body = escaped payload in
    let size : length body + 4 ≡ length (framed payload) = grind (arith, length-append body (closing ∷ byte_digits (checksum body))) in
    opened ((body ++ closing ∷ byte_digits (checksum body)) ++ rest)
    ∙ ap (λ (bytes : List ℕ). packet_in bytes) (append_assoc body (closing ∷ byte_digits (checksum body)) rest)
    ∙ packet_whole body payload rest (escaped_open payload) (unescaped_back payload)
    ∙ ap (λ (n : ℕ). Some (record { message = Packet payload; length = n })) size

-- a cut packet has too few bytes behind its closing, or none
cut_length : (body tail : List ℕ) (k : ℕ) → All IsOpen body → min k (length body) ≤ body_length (take k (body ++ tail))
cut_length [] tail k open_all = grind arith
cut_length (b ∷ body) tail zero open_all = grind arith
cut_length (b ∷ body) tail (suc k) open_all =
    let other : (b == closing) ≡ false = grind (arith, first_is IsOpen b body open_all) in
    rw (other) (grind (arith, cut_length body tail k (rest_are IsOpen b body open_all)))

packet_cut : (body tail : List ℕ) (k : ℕ) → All IsOpen body → length tail ≡ 3 → k < length body + 3
    → packet_in (take k (body ++ tail)) ≡ None
unfolding packet_in
packet_cut body tail k open_all size few =
    let short : nat_lt (body_length (take k (body ++ tail)) + 2) (length (take k (body ++ tail))) ≡ false =
    grind (arith, cut_length body tail k open_all, length-take k (body ++ tail), length-append body tail, size, few, body_within (take k (body ++ tail))) in
    rw (short) refl

message_nothing : message_in [] ≡ None
unfolding message_in
message_nothing = refl

pub cut_none : CutIsNone
cut_none payload zero few = message_nothing
cut_none payload (suc k) few = let body = escaped payload in
    opened (take k (body ++ closing ∷ byte_digits (checksum body)))
    ∙ packet_cut body (closing ∷ byte_digits (checksum body)) k (escaped_open payload) refl
    (grind (arith, few, length-append body (closing ∷ byte_digits (checksum body))))
