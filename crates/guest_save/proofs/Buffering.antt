-- Bytes that are put through a buffer, one piece after the other.
use Rattle.std.specs.List.{flat_map}
use Rattle.std.specs.Prelude.{Result, Ok, Err}
use Rattle.std.proofs.Common.{◌≡◌, ℕ, ◌+◌, ◌<◌, ◌≤◌, Bool, true, false, List, [], ◌∷◌, ◌++◌, length, take, drop, get_or, refl, ap, ◌∙◌, subst, sym, arith, append_assoc, length-append}
use Rattle.std.proofs.lemmas.List.{append-nil, take-append-drop, take-append-le, take_all, take_more}
use Rattle.std.proofs.lemmas.List.Concat.{flat_map-append}
use Rattle.std.proofs.Math.Seq.{take-append-add}
use Rattle.guest_save.specs.Buffers.{Buffers, GivesAll, GivesFront}
use Rattle.outside.specs.Texts.{PutsText}
use Rattle.outside.proofs.Pieces.{appends_then}
use Rattle.outside.specs.declared.sinks.Sink as sinks
use Rattle.outside.specs.Pieces.{Appends, Puts}
use Rattle.outside.proofs.Faults.{rose_since}

module _ {S : Type 0} (stands_for : S → List ℕ → Type 0) where
  -- nothing, and a piece that is kept
  gives_kept : (s : S) (held left piece : List ℕ) → left ≡ held ++ piece → GivesAll stands_for s held s left piece
  gives_kept s held left piece is = record { given = []; split = sym is; puts = λ before stood. rw (append-nil before) stood }

  -- what was kept was put, and then nothing, or the piece
  gives_after : (old new : S) (held left piece : List ℕ) → Appends stands_for old new held → left ≡ piece → GivesAll stands_for old held new left piece
  gives_after old new held left piece put is = record { given = held; split = ap (λ (xs : List ℕ). held ++ xs) (sym is); puts = put }

  gives_whole : (old mid new : S) (held left piece : List ℕ) → Appends stands_for old mid held → Appends stands_for mid new piece → left ≡ []
      → GivesAll stands_for old held new left piece
  gives_whole old mid new held left piece first second none = record {
    given = held ++ piece;
    split = sym (ap (λ (xs : List ℕ). (held ++ piece) ++ xs) none ∙ append-nil (held ++ piece));
    puts = appends_then stands_for old mid new held piece first second;
  }

  -- what was kept was not put whole, or the piece was not
  gives_some : (old new : S) (held piece : List ℕ) → Puts stands_for old new false held → GivesFront stands_for old held new piece
  gives_some old new held piece (n, within, put) =
      record { count = n; within = omega (arith, length-append held piece); puts = rw (take-append-le n held piece within) put }

  gives_part : (old mid new : S) (held piece : List ℕ) → Appends stands_for old mid held → Puts stands_for mid new false piece → GivesFront stands_for old held new piece
  gives_part old mid new held piece first (n, within, put) = record {
    count = length held + n;
    within = omega (arith, length-append held piece);
    puts = rw (take-append-add held piece n) (appends_then stands_for old mid new held (take n piece) first put);
  }

  -- two pieces, one after the other
  joined : (held between given a b : List ℕ) → held ++ a ≡ given ++ between → held ++ (a ++ b) ≡ given ++ (between ++ b)
  joined held between given a b is = sym (append_assoc held a b) ∙ ap (λ (xs : List ℕ). xs ++ b) is ∙ append_assoc given between b

  gives_then : (old mid new : S) (held between left a b : List ℕ) → GivesAll stands_for old held mid between a → GivesAll stands_for mid between new left b
      → GivesAll stands_for old held new left (a ++ b)
  gives_then old mid new held between left a b first second = record {
    given = first.given ++ second.given;
    split = joined held between first.given a b first.split ∙ ap (λ (xs : List ℕ). first.given ++ xs) second.split ∙ sym (append_assoc first.given second.given left);
    puts = appends_then stands_for old mid new first.given second.given first.puts second.puts;
  }

  gives_front_then : (old mid new : S) (held between a b : List ℕ) → GivesAll stands_for old held mid between a → GivesFront stands_for mid between new b
      → GivesFront stands_for old held new (a ++ b)
  gives_front_then old mid new held between a b first second =
      let all = joined held between first.given a b first.split in
      record {
        count = length first.given + second.count;
        within = omega (arith, ap length all, length-append first.given (between ++ b), second.within);
        puts = rw (all, take-append-add first.given (between ++ b) second.count)
            (appends_then stands_for old mid new first.given (take second.count (between ++ b)) first.puts second.puts);
      }

  -- a piece that was not appended whole, before another
  gives_stopped : (old new : S) (held a b : List ℕ) → GivesFront stands_for old held new a → GivesFront stands_for old held new (a ++ b)
  gives_stopped old new held a b stopped = record {
    count = stopped.count;
    within = omega (arith, stopped.within, ap length (append_assoc held a b), length-append (held ++ a) b);
    puts = rw (← append_assoc held a b, take-append-le stopped.count (held ++ a) b stopped.within) stopped.puts;
  }

  -- all was put in the end, or not
  given_all : (old mid new : S) (left text : List ℕ) (ok : Bool) → GivesAll stands_for old [] mid left text → Puts stands_for mid new ok left → Puts stands_for old new ok text
  given_all old mid new left text true first put = rw first.split (appends_then stands_for old mid new first.given left first.puts put)
  given_all old mid new left text false first (n, within, put) = (
    length first.given + n,
    omega (arith, ap length first.split, length-append first.given left, within),
    rw (first.split, take-append-add first.given left n) (appends_then stands_for old mid new first.given (take n left) first.puts put),
  )

  given_front : (old new : S) (text : List ℕ) → GivesFront stands_for old [] new text → Puts stands_for old new false text
  given_front old new text stopped = (stopped.count, stopped.within, stopped.puts)

module _ {Y A E : Type 0} (O : sinks.Ghosts Y) where
  -- nothing, and a piece that is kept
  pub kept : (x : A) (s : Y) (held left piece : List ℕ) → left ≡ held ++ piece → Buffers {E = E} O (Ok x) s held s left piece
  kept x s held left piece is = record { bytes = gives_kept O.stands_for s held left piece is; cause = tt; count = omega arith; stays = refl }

  -- a piece that is kept after what was kept was put, and one that is put at once
  pub kept_after : (x : A) (old new : Y) (held left piece : List ℕ) → PutsText {E = E} O (Ok x) old new held → left ≡ piece → Buffers {E = E} O (Ok x) old held new left piece
  kept_after x old new held left piece put is =
      record { bytes = gives_after O.stands_for old new held left piece put.bytes is; cause = tt; count = put.count; stays = put.stays }

  pub not_kept : (e : E) (old new : Y) (held left piece : List ℕ) → PutsText {A = A} O (Err e) old new held → Buffers {A = A} O (Err e) old held new left piece
  not_kept e old new held left piece put =
      record { bytes = gives_some O.stands_for old new held piece put.bytes; cause = put.cause; count = put.count; stays = put.stays }

  pub put_at_once : (x : A) (result : Result A E) (old mid new : Y) (held left piece : List ℕ) → PutsText {E = E} O (Ok x) old mid held → PutsText O result mid new piece
      → left ≡ [] → Buffers O result old held new left piece
  put_at_once x (Ok y) old mid new held left piece first put none = record {
    bytes = gives_whole O.stands_for old mid new held left piece first.bytes put.bytes none;
    cause = tt;
    count = omega (arith, first.count, put.count);
    stays = put.stays ∙ first.stays;
  }
  put_at_once x (Err e) old mid new held left piece first put none = record {
    bytes = gives_part O.stands_for old mid new held piece first.bytes put.bytes;
    cause = rose_since (O.faults old) (O.faults mid) (O.faults new) first.count put.cause;
    count = omega (arith, first.count, put.count);
    stays = put.stays ∙ first.stays;
  }

  -- two pieces, one after the other; and one that was not appended whole, before others
  pub buffers_then : (x : A) (result : Result A E) (old mid new : Y) (held between left a b : List ℕ) → Buffers {E = E} O (Ok x) old held mid between a
      → Buffers O result mid between new left b → Buffers O result old held new left (a ++ b)
  buffers_then x (Ok y) old mid new held between left a b first second = record {
    bytes = gives_then O.stands_for old mid new held between left a b first.bytes second.bytes;
    cause = tt;
    count = omega (arith, first.count, second.count);
    stays = second.stays ∙ first.stays;
  }
  buffers_then x (Err e) old mid new held between left a b first second = record {
    bytes = gives_front_then O.stands_for old mid new held between a b first.bytes second.bytes;
    cause = rose_since (O.faults old) (O.faults mid) (O.faults new) first.count second.cause;
    count = omega (arith, first.count, second.count);
    stays = second.stays ∙ first.stays;
  }

  pub buffers_stopped : (e : E) (old new : Y) (held left a b : List ℕ) → Buffers {A = A} O (Err e) old held new left a → Buffers {A = A} O (Err e) old held new left (a ++ b)
  buffers_stopped e old new held left a b stopped = record {
    bytes = gives_stopped O.stands_for old new held a b stopped.bytes;
    cause = stopped.cause;
    count = stopped.count;
    stays = stopped.stays;
  }

  -- all was put in the end, or not
  pub puts_all : (x : A) (result : Result A E) (old mid new : Y) (left text : List ℕ) → Buffers {E = E} O (Ok x) old [] mid left text → PutsText O result mid new left
      → PutsText O result old new text
  puts_all x (Ok y) old mid new left text first put = record {
    bytes = given_all O.stands_for old mid new left text true first.bytes put.bytes;
    cause = tt;
    count = omega (arith, first.count, put.count);
    stays = put.stays ∙ first.stays;
  }
  puts_all x (Err e) old mid new left text first put = record {
    bytes = given_all O.stands_for old mid new left text false first.bytes put.bytes;
    cause = rose_since (O.faults old) (O.faults mid) (O.faults new) first.count put.cause;
    count = omega (arith, first.count, put.count);
    stays = put.stays ∙ first.stays;
  }

  pub puts_front : (e : E) (old new : Y) (left text : List ℕ) → Buffers {A = A} O (Err e) old [] new left text → PutsText {A = A} O (Err e) old new text
  puts_front e old new left text stopped = record {
    bytes = given_front O.stands_for old new text stopped.bytes;
    cause = stopped.cause;
    count = stopped.count;
    stays = stopped.stays;
  }

-- the loops over lists: one more element, one that was not appended whole, and all of them
module _ {X : Type 0} (f : X → List ℕ) (xs : List X) where
  next_part : (i : ℕ) (d : X) → i < length xs → flat_map f (take (i + 1) xs) ≡ flat_map f (take i xs) ++ f (get_or xs i d)
  next_part i d inside =
      ap (flat_map f) (take_more xs i d inside) ∙ flat_map-append f (take i xs) (get_or xs i d ∷ [])
      ∙ ap (λ (last : List ℕ). flat_map f (take i xs) ++ last) (append-nil (f (get_or xs i d)))

  all_parts : (i : ℕ) (d : X) → i < length xs → flat_map f xs ≡ (flat_map f (take i xs) ++ f (get_or xs i d)) ++ flat_map f (drop (i + 1) xs)
  all_parts i d inside =
      ap (flat_map f) (sym (take-append-drop (i + 1) xs)) ∙ flat_map-append f (take (i + 1) xs) (drop (i + 1) xs)
      ∙ ap (λ (front : List ℕ). front ++ flat_map f (drop (i + 1) xs)) (next_part i d inside)

module _ {Y A E X : Type 0} (O : sinks.Ghosts Y) (f : X → List ℕ) (xs : List X) where
  pub list_more : (x y : A) (old mid new : Y) (held between left : List ℕ) (i : ℕ) (d : X) → i < length xs
      → Buffers {E = E} O (Ok x) old held mid between (flat_map f (take i xs)) → Buffers {E = E} O (Ok y) mid between new left (f (get_or xs i d))
      → Buffers {E = E} O (Ok y) old held new left (flat_map f (take (i + 1) xs))
  list_more x y old mid new held between left i d inside first next =
      subst (λ (bytes : List ℕ). Buffers {E = E} O (Ok y) old held new left bytes) (sym (next_part f xs i d inside)) (buffers_then O x (Ok y) old mid new held between left (flat_map f (take i xs)) (f (get_or xs i d)) first next)

  pub list_stopped : (x : A) (e : E) (old mid new : Y) (held between left : List ℕ) (i : ℕ) (d : X) → i < length xs
      → Buffers {E = E} O (Ok x) old held mid between (flat_map f (take i xs)) → Buffers {A = A} O (Err e) mid between new left (f (get_or xs i d))
      → Buffers {A = A} O (Err e) old held new left (flat_map f xs)
  list_stopped x e old mid new held between left i d inside first next =
      subst (λ (bytes : List ℕ). Buffers {A = A} O (Err e) old held new left bytes) (sym (all_parts f xs i d inside)) (buffers_stopped O e old new held left (flat_map f (take i xs) ++ f (get_or xs i d)) (flat_map f (drop (i + 1) xs))
      (buffers_then O x (Err e) old mid new held between left (flat_map f (take i xs)) (f (get_or xs i d)) first next))

  pub list_done : (x : A) (old new : Y) (held left : List ℕ) (i : ℕ) → length xs ≤ i
      → Buffers {E = E} O (Ok x) old held new left (flat_map f (take i xs)) → Buffers {E = E} O (Ok x) old held new left (flat_map f xs)
  list_done x old new held left i all first = rw (take_all i xs all) at first
