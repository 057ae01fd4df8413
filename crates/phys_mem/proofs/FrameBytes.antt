-- Bytes that lie in frames of one length, one frame after the other.
use Rattle.std.proofs.Common.{◌≡◌, ℕ, zero, suc, ◌+◌, ◌-◌, ◌*◌, ◌/◌, ◌%◌, ◌<◌, ◌≤◌, List, [], ◌∷◌, ◌++◌, length, get_or, set, take, drop, replicate, refl, sym, ap, ◌∙◌, arith, length-append}
use Rattle.std.specs.List.{concat, copy_within}
use Rattle.std.proofs.Math.Nat.{le_of_mul-le-mul_right, mul_assoc}
use Rattle.std.proofs.Math.Seq.{split_at, take-append-add, drop-append-add, take-append_seam}
use Rattle.std.proofs.lemmas.List.{append_assoc, length-drop, length-take-le, length-set, get_or-set_same, take-append-drop, take-append-le, drop-append-le, take-set, drop-set-lt, drop_at, replicate-append-replicate}
use Rattle.std.proofs.lemmas.List.Elements.{All-append, All-drop, All-take}
use Rattle.std.proofs.lemmas.List.Folds.{concat-append}
use Rattle.std.proofs.lemmas.Nat.{div-add-mod', div-mul-add, div_below}
use Rattle.arch_defs.specs.Memory.{pasted, zeros}
use Rattle.phys_mem.specs.MemoryBytes.{AreWhole}
use Rattle.phys_mem.proofs.PiecesLaid.{pasted_over, taken_front}
use Rattle.arch_defs.proofs.Images.{length_zeros}

-- three lists: what lies before a frame, the frame, what lies after it
taken_between : (before frame after : List ℕ) (p k : ℕ) → length before ≡ p → k ≤ length frame
    → take (p + k) (before ++ (frame ++ after)) ≡ before ++ take k frame
taken_between before frame after p k e fits =
    rw (← e) (take-append-add before (frame ++ after) k ∙ ap (λ l. before ++ l) (take-append-le k frame after fits))

left_between : (before frame after : List ℕ) (p k : ℕ) → length before ≡ p → k ≤ length frame
    → drop (p + k) (before ++ (frame ++ after)) ≡ drop k frame ++ after
left_between before frame after p k e fits =
    rw (← e) (drop-append-add before (frame ++ after) k ∙ drop-append-le k frame after fits)

pasted_between : (before frame after : List ℕ) (p k : ℕ) (piece : List ℕ) → length before ≡ p → k + length piece ≤ length frame
    → pasted (before ++ (frame ++ after)) (p + k) piece ≡ before ++ (pasted frame k piece ++ after)
pasted_between before frame after p k piece e fits =
    let end : p + k + length piece ≡ p + (k + length piece) = omega arith in
    let behind = ap (λ i. drop i (before ++ (frame ++ after))) end ∙ left_between before frame after p (k + length piece) e fits in
    rw (taken_between before frame after p k e (omega arith), behind) (simp append_assoc)

-- frames that lie one after the other
rest_whole : (n : ℕ) (frame : List ℕ) (frames : List (List ℕ)) → AreWhole n (frame ∷ frames) → AreWhole n frames
rest_whole n frame frames whole = λ k d h. whole (suc k) d (omega arith)

pub length_frames : (n : ℕ) (frames : List (List ℕ)) → AreWhole n frames → length (concat frames) ≡ length frames * n
length_frames n [] whole = omega arith
length_frames n (frame ∷ frames) whole =
    omega (arith, length-append frame (concat frames), whole 0 [] (omega arith), length_frames n frames (rest_whole n frame frames whole))

-- the bytes before a frame, and those after it
abbrev before : ℕ → List (List ℕ) → List ℕ
before i frames = concat (take i frames)

abbrev after : ℕ → List (List ℕ) → List ℕ
after i frames = concat (drop (suc i) frames)

length_before : (n i : ℕ) (frames : List (List ℕ)) → AreWhole n frames → i ≤ length frames → length (before i frames) ≡ i * n
length_before n i frames whole h =
    length_frames n (take i frames) (All-take (λ frame. length frame ≡ n) i frames whole) ∙ ap (λ k. k * n) (length-take-le i frames h)

parts : (i : ℕ) (frames : List (List ℕ)) (d : List ℕ) → i < length frames → concat frames ≡ before i frames ++ (get_or frames i d ++ after i frames)
parts i frames d h = ap concat (split_at frames i d h) ∙ concat-append (take i frames) (get_or frames i d ∷ drop (suc i) frames)

parts_set : (i : ℕ) (frames : List (List ℕ)) (frame : List ℕ) → i < length frames → concat (set frames i frame) ≡ before i frames ++ (frame ++ after i frames)
parts_set i frames frame h =
    let named : get_or (set frames i frame) i [] ≡ frame = get_or-set_same frames i frame [] h in
    let first : take i (set frames i frame) ≡ take i frames = take-set frames i frame in
    let last : drop (suc i) (set frames i frame) ≡ drop (suc i) frames = drop-set-lt (suc i) frames i frame (omega arith) in
    parts i (set frames i frame) [] (rw (length-set frames i frame) h) ∙ rw (named, first, last) refl

-- frames of zeros
pub frames_zero : (n count : ℕ) → concat (replicate count (zeros n)) ≡ zeros (count * n)
unfolding zeros
frames_zero n zero = let none : 0 ≡ 0 * n = omega arith in ap (λ k. replicate k 0) none
frames_zero n (suc count) =
    let more : n + count * n ≡ suc count * n = omega arith in
    ap (λ l. replicate n 0 ++ l) (frames_zero n count) ∙ (replicate-append-replicate n (count * n) 0 ∙ ap (λ k. replicate k 0) more)

-- memory that is such frames
module _ (n : ℕ) (frames : List (List ℕ)) (memory : List ℕ) (some : 0 < n) (whole : AreWhole n frames) (is : concat frames ≡ memory) where
  pub size_is : length memory ≡ length frames * n
  size_is = ap length (sym is) ∙ length_frames n frames whole

  -- the frame that a place is in
  pub frame_there : (at : ℕ) → at < length memory → at / n < length frames
  frame_there at h = div_below at n (length frames) some (omega (arith, size_is, h))

  pub written_there : (at : ℕ) (frame new piece : List ℕ) → at < length memory → at % n + length piece ≤ n → frame ≡ get_or frames (at / n) frame
      → new ≡ pasted frame (at % n) piece → concat (set frames (at / n) new) ≡ pasted memory at piece
  written_there at frame new piece h fits named e =
      let there = frame_there at h in
      let place : at ≡ at / n * n + at % n = sym (div-add-mod' at n) in
      parts_set (at / n) frames new there
      ∙ (ap (λ bytes. before (at / n) frames ++ (bytes ++ after (at / n) frames)) (e ∙ ap (λ bytes. pasted bytes (at % n) piece) named)
      ∙ (sym (pasted_between (before (at / n) frames) (get_or frames (at / n) frame) (after (at / n) frames) (at / n * n) (at % n) piece
      (length_before n (at / n) frames whole (omega arith)) (rw (whole (at / n) frame there) fits))
      ∙ (ap (λ bytes. pasted bytes (at / n * n + at % n) piece) (sym (parts (at / n) frames frame there) ∙ is)
      ∙ ap (λ p. pasted memory p piece) (sym place))))

  -- a whole frame, by its number
  pub frame_inside : (i : ℕ) → i * n + n ≤ length memory → i < length frames
  frame_inside i fits =
      let first : (i * n + 0) / n < length frames = div_below (i * n + 0) n (length frames) some (omega (arith, size_is)) in
      omega (arith, first, div-mul-add i n 0 some)

  pub frame_long : (i : ℕ) (frame : List ℕ) → i * n + n ≤ length memory → frame ≡ get_or frames i frame → length frame ≡ n
  frame_long i frame fits named = ap length named ∙ whole i frame (frame_inside i fits)

  pub frame_shown : (i : ℕ) (frame : List ℕ) → i * n + n ≤ length memory → frame ≡ get_or frames i frame → frame ≡ take n (drop (i * n) memory)
  frame_shown i frame fits named =
      let there = frame_inside i fits in
      sym (ap (λ bytes. take n (drop (i * n) bytes)) (sym is ∙ parts i frames frame there)
      ∙ (ap (take n) (drop_at (before i frames) (get_or frames i frame ++ after i frames) (i * n) (length_before n i frames whole (omega arith)))
      ∙ (ap (λ bytes. take n (bytes ++ after i frames)) (sym named) ∙ rw (← frame_long i frame fits named) (take-append_seam frame (after i frames)))))

  frame_filled : (i : ℕ) (new : List ℕ) → i * n + n ≤ length memory → length new ≡ n → concat (set frames i new) ≡ pasted memory (i * n) new
  frame_filled i new fits size =
      let there = frame_inside i fits in
      let room : 0 + length new ≤ length (get_or frames i []) = omega (arith, whole i [] there, size) in
      let place : i * n + 0 ≡ i * n = omega arith in
      parts_set i frames new there
      ∙ (ap (λ bytes. before i frames ++ (bytes ++ after i frames)) (sym (pasted_over (get_or frames i []) new (size ∙ sym (whole i [] there))))
      ∙ (sym (pasted_between (before i frames) (get_or frames i []) (after i frames) (i * n) 0 new (length_before n i frames whole (omega arith)) room)
      ∙ (ap (λ bytes. pasted bytes (i * n + 0) new) (sym (parts i frames [] there) ∙ is)
      ∙ ap (λ p. pasted memory p new) place)))

  pub frame_cleared : (i : ℕ) (frame new : List ℕ) → i * n + n ≤ length memory → frame ≡ get_or frames i frame → new ≡ pasted frame 0 (zeros n)
      → concat (set frames i new) ≡ pasted memory (i * n) (zeros n)
  frame_cleared i frame new fits named e =
      ap (λ bytes. concat (set frames i bytes)) (e ∙ pasted_over frame (zeros n) (length_zeros n ∙ sym (frame_long i frame fits named)))
      ∙ frame_filled i (zeros n) fits (length_zeros n)

  pub frame_copied : (from to : ℕ) (frame : List ℕ) → from * n + n ≤ length memory → to * n + n ≤ length memory → frame ≡ get_or frames from frame
      → concat (set frames to frame) ≡ pasted memory (to * n) (take n (drop (from * n) memory))
  frame_copied from to frame source target named =
      frame_filled to frame target (frame_long from frame source named)
      ∙ ap (pasted memory (to * n)) (frame_shown from frame source named)

-- the first frames, and those behind them
first_and_rest : (k : ℕ) (frames : List (List ℕ)) → concat frames ≡ concat (take k frames) ++ concat (drop k frames)
first_and_rest k frames = sym (ap concat (take-append-drop k frames)) ∙ concat-append (take k frames) (drop k frames)

first_frames : (n k : ℕ) (frames : List (List ℕ)) → AreWhole n frames → k ≤ length frames → concat (take k frames) ≡ take (k * n) (concat frames)
first_frames n k frames whole h =
    sym (ap (take (k * n)) (first_and_rest k frames) ∙ taken_front (concat (take k frames)) (concat (drop k frames)) (k * n) (length_before n k frames whole h))

last_frames : (n k : ℕ) (frames : List (List ℕ)) → AreWhole n frames → k ≤ length frames → concat (drop k frames) ≡ drop (k * n) (concat frames)
last_frames n k frames whole h =
    sym (ap (drop (k * n)) (first_and_rest k frames) ∙ drop_at (concat (take k frames)) (concat (drop k frames)) (k * n) (length_before n k frames whole h))

-- frames laid over others
module _ (n : ℕ) (frames : List (List ℕ)) (whole : AreWhole n frames) (from to count : ℕ) (source : from + count ≤ length frames) (target : to + count ≤ length frames) where
  abbrev is_whole : List ℕ → Type 0
  is_whole frame = length frame ≡ n

  rest : AreWhole n (drop from frames)
  rest = All-drop is_whole from frames whole

  enough : count ≤ length (drop from frames)
  enough = omega (arith, length-drop from frames, source)

  piece_is : concat (take count (drop from frames)) ≡ take (count * n) (drop (from * n) (concat frames))
  piece_is = first_frames n count (drop from frames) rest enough ∙ ap (take (count * n)) (last_frames n from frames whole (omega (arith, source)))

  piece_long : length (concat (take count (drop from frames))) ≡ count * n
  piece_long = length_before n count (drop from frames) rest enough

  frames_laid : concat (copy_within frames from (from + count) to) ≡ pasted (concat frames) (to * n) (take (count * n) (drop (from * n) (concat frames)))
  frames_laid =
      let number : from + count - from ≡ count = omega arith in
      let end : (to + count) * n ≡ to * n + count * n = grind arith in
      let long = piece_long in
      ap (λ k. concat (take to frames ++ take k (drop from frames) ++ drop (to + k) frames)) number
      ∙ concat-append (take to frames ++ take count (drop from frames)) (drop (to + count) frames)
      ∙ ap (λ bytes. bytes ++ concat (drop (to + count) frames)) (concat-append (take to frames) (take count (drop from frames)))
      ∙ ap (λ bytes. bytes ++ concat (take count (drop from frames)) ++ concat (drop (to + count) frames)) (first_frames n to frames whole (omega (arith, target)))
      ∙ ap (λ bytes. take (to * n) (concat frames) ++ concat (take count (drop from frames)) ++ bytes)
      (last_frames n (to + count) frames whole target ∙ ap (λ k. drop k (concat frames)) (end ∙ ap (λ k. to * n + k) (sym long)))
      ∙ ap (pasted (concat frames) (to * n)) piece_is

  frames_whole : AreWhole n (copy_within frames from (from + count) to)
  frames_whole =
      All-append is_whole (take to frames ++ take (from + count - from) (drop from frames)) (drop (to + (from + count - from)) frames)
      (All-append is_whole (take to frames) (take (from + count - from) (drop from frames)) (All-take is_whole to frames whole) (All-take is_whole (from + count - from) (drop from frames) rest))
      (All-drop is_whole (to + (from + count - from)) frames whole)

-- so of blocks of k frames
module _ (n k size : ℕ) (frames : List (List ℕ)) (memory : List ℕ) (some : 0 < n) (whole : AreWhole n frames) (is : concat frames ≡ memory) (block : k * n ≡ size) where
  frames_of_block : (b : ℕ) → (b * k) * n ≡ b * size
  frames_of_block b = mul_assoc b k n ∙ ap (λ s. b * s) block

  pub block_inside : (b : ℕ) → b * size + size ≤ length memory → b * k + k ≤ length frames
  block_inside b fits =
      le_of_mul-le-mul_right {m = b * k + k} {n = length frames} {k = n} (omega (arith, fits, frames_of_block b, block, both (b * k) k, ap length (sym is), length_frames n frames whole)) some
    where
      both : (x y : ℕ) → (x + y) * n ≡ x * n + y * n
      both x y = grind arith

  pub block_copied : (from to : ℕ) → from * size + size ≤ length memory → to * size + size ≤ length memory
      → concat (copy_within frames (from * k) (from * k + k) (to * k)) ≡ pasted memory (to * size) (take size (drop (from * size) memory))
  block_copied from to source target =
      frames_laid n frames whole (from * k) (to * k) k (block_inside from source) (block_inside to target)
      ∙ ap (λ bytes. pasted bytes (to * k * n) (take (k * n) (drop (from * k * n) bytes))) is
      ∙ ap (λ place. pasted memory place (take (k * n) (drop (from * k * n) memory))) (frames_of_block to)
      ∙ ap (λ place. pasted memory (to * size) (take (k * n) (drop place memory))) (frames_of_block from)
      ∙ ap (λ long. pasted memory (to * size) (take long (drop (from * size) memory))) block

  pub block_whole : (from to : ℕ) → from * size + size ≤ length memory → to * size + size ≤ length memory → AreWhole n (copy_within frames (from * k) (from * k + k) (to * k))
  block_whole from to source target = frames_whole n frames whole (from * k) (to * k) k (block_inside from source) (block_inside to target)
