-- The loops over labels, pieces and ops: what is left of a list from an index on.
use Rattle.std.proofs.Common.{◌≡◌, ℕ, zero, suc, ◌+◌, ◌-◌, ◌*◌, ◌<◌, ◌≤◌, List, [], ◌∷◌, ◌++◌, length, drop, take, get_or, Option, Some, None, true, false, is_some, refl, sym, ap, ◌∙◌, add-one, append_assoc, append-nil, arith, drop-cons, length-append, replicate}
use Rattle.std.proofs.lemmas.List.{length-replicate}
use Rattle.std.specs.Prelude.{max, slice_index, unwrap_or, ◌==◌, if◌then◌else◌}
use Rattle.std.proofs.lemmas.Bool.{cond-true, cond-false, eq-eqb, ne_eqb}
use Rattle.std.specs.Option.{option_or}
use Rattle.byteorder.specs.Endian.{little_bytes}
use Rattle.rv64_asm.specs.declared.faults.AsmFault.{AsmFault}
use Rattle.rv64_asm.specs.Words.{encoded}
use Rattle.rv64_asm.specs.Plans.{Item, Label, Piece, index_of, last_end, piece_end, covering, own, first_item_fault, item_fault, code, op_filled, IsImage}

-- an element, and what is left after it
left : {A : Type 0} (xs : List A) (i : ℕ) (x : A) → x ≡ get_or xs i x → i < length xs → drop i xs ≡ x ∷ drop (i + 1) xs
left xs i x e h = rw (add-one, drop-cons xs i x) (ap (λ y. y ∷ drop (suc i) xs) (sym e))

none_left : {A : Type 0} (xs : List A) (i : ℕ) → length xs ≤ i → drop i xs ≡ []
none_left [] zero h = refl
none_left [] (suc i) h = refl
none_left (x ∷ xs) zero h = absurd (omega arith)
none_left (x ∷ xs) (suc i) h = none_left xs i (omega arith)

-- labels

pub index_of_left : (labels : List Label) (i id : ℕ) (x : Label) → x ≡ get_or labels i x → i < length labels
    → index_of (drop i labels) id ≡ (if x.id == id then Some x.index else index_of (drop (i + 1) labels) id)
unfolding index_of
index_of_left labels i id x e h = rw (left labels i x e h) refl

pub index_of_none_left : (labels : List Label) (i id : ℕ) → length labels ≤ i → index_of (drop i labels) id ≡ None
unfolding index_of
index_of_none_left labels i id h = rw (none_left labels i h) refl

pub ruleset looking = (index_of_left, index_of_none_left)

-- pieces

pub last_end_left : (pieces : List Piece) (i : ℕ) (x : Piece) → x ≡ get_or pieces i x → i < length pieces
    → last_end (drop i pieces) ≡ max (piece_end x) (last_end (drop (i + 1) pieces))
unfolding last_end
last_end_left pieces i x e h = rw (left pieces i x e h) refl

pub last_end_none_left : (pieces : List Piece) (i : ℕ) → length pieces ≤ i → last_end (drop i pieces) ≡ 0
unfolding last_end
last_end_none_left pieces i h = rw (none_left pieces i h) refl

pub ruleset ending = (last_end_left, last_end_none_left)

pub covering_left : (pieces : List Piece) (i place : ℕ) (x : Piece) → x ≡ get_or pieces i x → i < length pieces
    → covering (drop i pieces) place ≡ option_or (covering (drop (i + 1) pieces) place) (own x place)
unfolding covering
covering_left pieces i place x e h = rw (left pieces i x e h) refl

pub covering_none_left : (pieces : List Piece) (i place : ℕ) → length pieces ≤ i → covering (drop i pieces) place ≡ None
unfolding covering
covering_none_left pieces i place h = rw (none_left pieces i h) refl

or_unwrapped : (a b : Option ℕ) (c : ℕ) → unwrap_or (option_or a b) c ≡ unwrap_or a (unwrap_or b c)
or_unwrapped None b c = refl
or_unwrapped (Some x) b c = refl

-- a byte after one more piece
pub one_more : (pieces : List Piece) (i place : ℕ) (x : Piece) (before after whole : ℕ) → x ≡ get_or pieces i x → i < length pieces
    → after ≡ unwrap_or (own x place) before → unwrap_or (covering (drop i pieces) place) before ≡ whole
    → unwrap_or (covering (drop (i + 1) pieces) place) after ≡ whole
one_more pieces i place x before after whole e h k l =
    ap (λ b. unwrap_or (covering (drop (i + 1) pieces) place) b) k
    ∙ sym (or_unwrapped (covering (drop (i + 1) pieces) place) (own x place) before)
    ∙ ap (λ o. unwrap_or o before) (sym (covering_left pieces i place x e h)) ∙ l

-- ops

pub first_fault_left : (labels : List Label) (index : ℕ) (items : List Item) (i : ℕ) (x : Item) → x ≡ get_or items i x → i < length items
    → first_item_fault labels index (drop i items) ≡ option_or (item_fault labels index x) (first_item_fault labels (index + 1) (drop (i + 1) items))
unfolding first_item_fault
first_fault_left labels index items i x e h = rw (left items i x e h) refl

pub first_fault_none_left : (labels : List Label) (index : ℕ) (items : List Item) (i : ℕ) → length items ≤ i → first_item_fault labels index (drop i items) ≡ None
unfolding first_item_fault
first_fault_none_left labels index items i h = rw (none_left items i h) refl

pub ruleset faults = (first_fault_left, first_fault_none_left)

neither : (a b : Option AsmFault) → option_or a b ≡ None → (a ≡ None) × (b ≡ None)
neither None b e = (refl, e)
neither (Some x) b e = cc

pub code_left : (labels : List Label) (index : ℕ) (items : List Item) (i : ℕ) (x : Item) → x ≡ get_or items i x → i < length items
    → code labels index (drop i items) ≡ little_bytes 4 (encoded (op_filled labels index x)) ++ code labels (index + 1) (drop (i + 1) items)
unfolding code
code_left labels index items i x e h = rw (left items i x e h) refl

pub code_none_left : (labels : List Label) (index : ℕ) (items : List Item) (i : ℕ) → length items ≤ i → code labels index (drop i items) ≡ []
unfolding code
code_none_left labels index items i h = rw (none_left items i h) refl

pub length_code : (labels : List Label) (index : ℕ) (items : List Item) → length (code labels index items) ≡ 4 * length items
unfolding code
length_code labels index [] = refl
length_code labels index (x ∷ items) =
    length-append (little_bytes 4 (encoded (op_filled labels index x))) (code labels (index + 1) items) ∙ omega (arith, length_code labels (index + 1) items)

-- the steps of the loops

pub found : (labels : List Label) (i id : ℕ) (x : Label) (index : ℕ) → x ≡ get_or labels i x → i < length labels
    → index_of (drop i labels) id ≡ index_of labels id → x.id ≡ id → index ≡ x.index → Some index ≡ index_of labels id
found labels i id x index e h k l m = ap Some m ∙ sym (cond-true (x.id == id) (Some x.index) (index_of (drop (i + 1) labels) id) (eq-eqb x.id id l))
    ∙ sym (index_of_left labels i id x e h) ∙ k

pub not_found : (labels : List Label) (i id : ℕ) (x : Label) → x ≡ get_or labels i x → i < length labels
    → index_of (drop i labels) id ≡ index_of labels id → (x.id ≡ id → ⊥) → index_of (drop (i + 1) labels) id ≡ index_of labels id
not_found labels i id x e h k l = sym (cond-false (x.id == id) (Some x.index) (index_of (drop (i + 1) labels) id) (ne_eqb x.id id l))
    ∙ sym (index_of_left labels i id x e h) ∙ k

pub covered : (pieces : List Piece) (i place before whole : ℕ) → length pieces ≤ i → unwrap_or (covering (drop i pieces) place) before ≡ whole → before ≡ whole
covered pieces i place before whole h k = ap (λ o. unwrap_or o before) (sym (covering_none_left pieces i place h)) ∙ k

pub faulty : (labels : List Label) (items : List Item) (i : ℕ) (x : Item) (fault : Option AsmFault)
    → x ≡ get_or items i x → i < length items → fault ≡ item_fault labels i x → is_some fault ≡ true
    → first_item_fault labels i (drop i items) ≡ first_item_fault labels 0 items → fault ≡ first_item_fault labels 0 items
faulty labels items i x None e h k m l = cc
faulty labels items i x (Some fault) e h k m l =
    ap (λ o. option_or o (first_item_fault labels (i + 1) (drop (i + 1) items))) k
    ∙ sym (first_fault_left labels i items i x e h) ∙ l

pub goes_on : (labels : List Label) (items : List Item) (i : ℕ) (x : Item) (fault : Option AsmFault)
    → x ≡ get_or items i x → i < length items → fault ≡ item_fault labels i x → is_some fault ≡ false
    → first_item_fault labels i (drop i items) ≡ first_item_fault labels 0 items
    → first_item_fault labels (i + 1) (drop (i + 1) items) ≡ first_item_fault labels 0 items
goes_on labels items i x None e h k m l =
    ap (λ o. option_or o (first_item_fault labels (i + 1) (drop (i + 1) items))) k
    ∙ sym (first_fault_left labels i items i x e h) ∙ l
goes_on labels items i x (Some fault) e h k m l = cc

-- an item of items that have no fault from its index on
pub faultless : (labels : List Label) (items : List Item) (i : ℕ) (x : Item) → x ≡ get_or items i x → i < length items
    → first_item_fault labels i (drop i items) ≡ None → (item_fault labels i x ≡ None) × (first_item_fault labels (i + 1) (drop (i + 1) items) ≡ None)
faultless labels items i x e h l = neither _ _ (sym (first_fault_left labels i items i x e h) ∙ l)

pub coded : (labels : List Label) (items : List Item) (i : ℕ) (x : Item) (word : ℕ) (before after : List ℕ) → x ≡ get_or items i x → i < length items
    → word ≡ encoded (op_filled labels i x) → after ≡ before ++ little_bytes 4 word
    → before ++ code labels i (drop i items) ≡ code labels 0 items → after ++ code labels (i + 1) (drop (i + 1) items) ≡ code labels 0 items
coded labels items i x word before after e h k m l =
    ap (λ b. b ++ code labels (i + 1) (drop (i + 1) items)) m
    ∙ append_assoc before (little_bytes 4 word) (code labels (i + 1) (drop (i + 1) items))
    ∙ ap (λ w. before ++ (little_bytes 4 w ++ code labels (i + 1) (drop (i + 1) items))) k
    ∙ ap (λ c. before ++ c) (sym (code_left labels i items i x e h)) ∙ l

pub no_code_left : (labels : List Label) (items : List Item) (i : ℕ) (bytes : List ℕ) → length items ≤ i
    → bytes ++ code labels i (drop i items) ≡ code labels 0 items → bytes ≡ code labels 0 items
no_code_left labels items i bytes h l = sym (append-nil bytes) ∙ ap (λ c. bytes ++ c) (sym (code_none_left labels i items i h)) ∙ l

-- bytes filled up with zeros

zeros_at : (n place : ℕ) → get_or (replicate {A = ℕ} n 0) place 0 ≡ 0
zeros_at zero place = refl
zeros_at (suc n) zero = refl
zeros_at (suc n) (suc place) = zeros_at n place

padded_at : (xs : List ℕ) (n place : ℕ) → length xs ≤ n → get_or (take n xs ++ replicate (n - length xs) 0) place 0 ≡ get_or xs place 0
padded_at [] zero place h = refl
padded_at [] (suc n) place h = let e : suc n - 0 ≡ suc n = omega arith in rw e (zeros_at (suc n) place)
padded_at (x ∷ xs) zero place h = absurd (omega arith)
padded_at (x ∷ xs) (suc n) zero h = refl
padded_at (x ∷ xs) (suc n) (suc place) h = let e : suc n - suc (length xs) ≡ n - length xs = omega arith in rw e (padded_at xs n place (omega arith))

padded_length : (xs : List ℕ) (n : ℕ) → length xs ≤ n → length (take n xs ++ replicate (n - length xs) 0) ≡ n
padded_length [] zero h = refl
padded_length [] (suc n) h = let e : suc n - 0 ≡ suc n = omega arith in rw e (length-replicate {A = ℕ} (suc n) 0)
padded_length (x ∷ xs) zero h = absurd (omega arith)
padded_length (x ∷ xs) (suc n) h = let e : suc n - suc (length xs) ≡ n - length xs = omega arith in rw e (ap suc (padded_length xs n (omega arith)))

pub finished : (labels : List Label) (items : List Item) (pieces : List Piece) (bytes padded image : List ℕ) (n : ℕ)
    → bytes ≡ code labels 0 items → n ≡ max (length bytes) (last_end pieces) → padded ≡ take n bytes ++ replicate (n - length bytes) 0
    → ((place : ℕ) → slice_index image place ≡ unwrap_or (covering pieces place) (slice_index padded place)) → length image ≡ length padded
    → IsImage (record { items = items; labels = labels; pieces = pieces }) image
finished labels items pieces bytes padded image n e h k l m = record {
  ends = m ∙ ap length k ∙ padded_length bytes n (omega arith) ∙ h ∙ ap (λ x. max x (last_end pieces)) (ap length e ∙ length_code labels 0 items);
  bytes = λ place _. l place ∙ ap (λ b. unwrap_or (covering pieces place) b)
      (ap (λ p. slice_index p place) k ∙ padded_at bytes n place (omega arith) ∙ ap (λ b. slice_index b place) e);
}
