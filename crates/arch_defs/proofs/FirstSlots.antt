-- The slots of a buffer of first-stage translations: its translations, and behind them empty ones.
use Rattle.std.proofs.Common.{◌≡◌, ℕ, zero, suc, ◌+◌, ◌-◌, ◌<◌, ◌≤◌, Bool, true, false, not, cond, List, [], ◌∷◌, ◌++◌, length, get_or, set, take, drop, replicate, refl, sym, ap, subst, ◌∙◌, arith, length-drop}
use Rattle.std.specs.List.{All, copy_within, filter}
use Rattle.std.proofs.lemmas.List.{append-nil, drop-drop, drop-set, drop-set-lt, drop-replicate, drop-take, get_or-drop, length-set, take-set, take_more, take_more_set}
use Rattle.std.proofs.lemmas.List.Edits.{drop-paste, take-paste}
use Rattle.std.proofs.lemmas.List.Elements.{All-drop, All-filter, All-push, filter-append}
use Rattle.arch_defs.specs.declared.first.FirstEntry.{FirstEntry}
use Rattle.arch_defs.specs.FirstBuffers.{IsEmptyFrom, no_entry}
use Rattle.arch_defs.specs.FirstEntries.{HasGuestFrame, first_room, unnamed_first}

-- what the type says of a buffer's parts
abbrev pub IsBuffer : ℕ → List FirstEntry → Type 0
IsBuffer count slots = (count ≤ first_room) × (count ≤ length slots) × IsEmptyFrom count slots × All HasGuestFrame (take count slots)

empties : (a b : ℕ) → a ≡ b → replicate a no_entry ≡ replicate b no_entry
empties a b e = ap (λ k. replicate k no_entry) e

-- slots are empty from a later one on too
pub later : (count n : ℕ) (slots : List FirstEntry) → count ≤ n → IsEmptyFrom count slots → IsEmptyFrom n slots
later count n slots after empty =
    let whole : n ≡ count + (n - count) = omega (arith, after) in
    ap (λ k. drop k slots) whole ∙ sym (drop-drop (n - count) count slots) ∙ ap (drop (n - count)) empty
    ∙ drop-replicate (n - count) (first_room - count) no_entry ∙ empties _ _ (omega (arith, after))

-- one more is emptied
pub one_emptied : (i : ℕ) (slots : List FirstEntry) → i < first_room → length slots ≡ first_room → IsEmptyFrom (i + 1) slots → IsEmptyFrom i (set slots i no_entry)
one_emptied i slots few room empty =
    let rest : first_room - i ≡ suc (first_room - (i + 1)) = omega (arith, few) in
    drop-set slots i no_entry (omega (arith, few, room)) ∙ ap (λ xs. no_entry ∷ xs) empty ∙ sym (ap (λ k. replicate k no_entry) rest)

pub one_emptied_before : (n : ℕ) (slots : List FirstEntry) → 0 < n → n ≤ first_room → length slots ≡ first_room → IsEmptyFrom n slots → IsEmptyFrom (n - 1) (set slots (n - 1) no_entry)
one_emptied_before n slots some few room empty =
    let whole : (n - 1) + 1 ≡ n = omega (arith, some) in
    one_emptied (n - 1) slots (omega (arith, some, few)) room (subst (λ k. IsEmptyFrom k slots) (sym whole) empty)

-- one more translation
pub pushed : (count : ℕ) (slots : List FirstEntry) (e : FirstEntry) → length slots ≡ first_room → count < first_room → IsEmptyFrom count slots
    → All HasGuestFrame (take count slots) → HasGuestFrame e → IsBuffer (count + 1) (set slots count e)
pushed count slots e room few empty all one = (
  omega (arith, few),
  omega (arith, few, room, length-set slots count e),
  drop-set-lt (count + 1) slots count e (omega arith) ∙ later count (count + 1) slots (omega arith) empty,
  subst (All HasGuestFrame) (sym (take_more_set slots count e (omega (arith, few, room)))) (All-push HasGuestFrame (take count slots) e all one),
)

-- those that a test leaves
pub left : (kept count : ℕ) (old slots new : List FirstEntry) (named : FirstEntry → Bool) → kept ≤ count → count ≤ first_room → length new ≡ first_room
    → take kept new ≡ take kept slots → take kept slots ≡ unnamed_first named (take count old) → IsEmptyFrom kept new → All HasGuestFrame (take count old)
    → IsBuffer kept new
unfolding unnamed_first
left kept count old slots new named few room size same is empty all = (
  omega (arith, few, room),
  omega (arith, few, room, size),
  empty,
  subst (All HasGuestFrame) (sym (same ∙ is)) (All-filter (λ e. not (named e)) HasGuestFrame (take count old) all),
)

-- a test moves on by one: what it names is passed over, and the rest goes behind those that are kept
named_one : (named : FirstEntry → Bool) (xs : List FirstEntry) (e : FirstEntry) → named e ≡ true → unnamed_first named (xs ++ e ∷ []) ≡ unnamed_first named xs
unfolding unnamed_first
named_one named xs e is =
    filter-append (λ e. not (named e)) xs (e ∷ [])
    ∙ ap (λ b. filter (λ e. not (named e)) xs ++ cond (not b) (e ∷ []) []) is
    ∙ append-nil (filter (λ e. not (named e)) xs)

unnamed_one : (named : FirstEntry → Bool) (xs : List FirstEntry) (e : FirstEntry) → named e ≡ false → unnamed_first named (xs ++ e ∷ []) ≡ unnamed_first named xs ++ e ∷ []
unfolding unnamed_first
unnamed_one named xs e is =
    filter-append (λ e. not (named e)) xs (e ∷ [])
    ∙ ap (λ b. filter (λ e. not (named e)) xs ++ cond (not b) (e ∷ []) []) is

pub rest_moves : (i : ℕ) (slots old : List FirstEntry) → drop i slots ≡ drop i old → drop (i + 1) slots ≡ drop (i + 1) old
rest_moves i slots old rest = sym (drop-drop 1 i slots) ∙ ap (drop 1) rest ∙ drop-drop 1 i old

same_one : (i : ℕ) (slots old : List FirstEntry) → drop i slots ≡ drop i old → get_or slots i no_entry ≡ get_or old i no_entry
same_one i slots old rest =
    let whole : i + 0 ≡ i = omega arith in
    ap (λ k. get_or slots k no_entry) (sym whole) ∙ sym (get_or-drop i slots 0 no_entry) ∙ ap (λ xs. get_or xs 0 no_entry) rest
    ∙ get_or-drop i old 0 no_entry ∙ ap (λ k. get_or old k no_entry) whole

pub passed_over : (named : FirstEntry → Bool) (kept i : ℕ) (slots old : List FirstEntry) → i < length old → drop i slots ≡ drop i old
    → take kept slots ≡ unnamed_first named (take i old) → named (get_or slots i no_entry) ≡ true → take kept slots ≡ unnamed_first named (take (i + 1) old)
passed_over named kept i slots old inside rest is one =
    is ∙ sym (named_one named (take i old) (get_or old i no_entry) (ap named (sym (same_one i slots old rest)) ∙ one))
    ∙ ap (unnamed_first named) (sym (take_more old i no_entry inside))

pub put_behind : (named : FirstEntry → Bool) (kept i : ℕ) (slots old : List FirstEntry) → kept ≤ i → i < length old → length slots ≡ length old → drop i slots ≡ drop i old
    → take kept slots ≡ unnamed_first named (take i old) → named (get_or slots i no_entry) ≡ false
    → take (kept + 1) (set slots kept (get_or slots i no_entry)) ≡ unnamed_first named (take (i + 1) old)
put_behind named kept i slots old few inside room rest is one =
    let e : FirstEntry = get_or slots i no_entry in
    take_more_set slots kept e (omega (arith, few, inside, room)) ∙ ap (λ xs. xs ++ e ∷ []) is
    ∙ sym (unnamed_one named (take i old) e one)
    ∙ ap (λ d. unnamed_first named (take i old ++ d ∷ [])) (same_one i slots old rest)
    ∙ ap (unnamed_first named) (sym (take_more old i no_entry inside))

pub rest_stays : (kept i : ℕ) (slots old : List FirstEntry) (e : FirstEntry) → kept ≤ i → drop i slots ≡ drop i old → drop (i + 1) (set slots kept e) ≡ drop (i + 1) old
rest_stays kept i slots old e few rest = drop-set-lt (i + 1) slots kept e (omega (arith, few)) ∙ rest_moves i slots old rest

-- the oldest goes: the others move up, and the last slot is emptied
moved_up : (count : ℕ) (slots : List FirstEntry) → 0 < count → count ≤ length slots → take (count - 1) (copy_within slots 1 count 0) ≡ drop 1 (take count slots)
moved_up count slots some few =
    let whole : 1 + (count - 1) ≡ count = omega (arith, some) in
    let front : count - 1 ≡ 0 + (count - 1) = omega arith in
    ap (λ n. take n (copy_within slots 1 count 0)) front
    ∙ take-paste slots 0 (drop 1 slots) (count - 1) (omega arith) (omega (arith, length-drop 1 slots, few))
    ∙ sym (drop-take 1 (count - 1) slots) ∙ ap (λ n. drop 1 (take n slots)) whole

not_moved : (count : ℕ) (slots : List FirstEntry) → 0 < count → count ≤ length slots → drop count (copy_within slots 1 count 0) ≡ drop count slots
not_moved count slots some few =
    let same : drop (0 + (count - 1)) (copy_within slots 1 count 0) ≡ drop (0 + (count - 1)) slots =
    drop-paste slots 0 (drop 1 slots) (count - 1) (omega arith) (omega (arith, length-drop 1 slots, few)) in
    let whole : count ≡ (0 + (count - 1)) + 1 = omega (arith, some) in
    ap (λ n. drop n (copy_within slots 1 count 0)) whole ∙ rest_moves (0 + (count - 1)) _ slots same ∙ ap (λ n. drop n slots) (sym whole)

pub without_oldest : (count : ℕ) (slots new : List FirstEntry) → 0 < count → count ≤ first_room → length slots ≡ first_room → IsEmptyFrom count slots
    → All HasGuestFrame (take count slots) → new ≡ copy_within slots 1 count 0 → length new ≡ length slots → IsBuffer (count - 1) (set new (count - 1) no_entry)
without_oldest count slots new some few room empty all is size =
    let whole : (count - 1) + 1 ≡ count = omega (arith, some) in (
      omega (arith, few),
      omega (arith, few, room, size, length-set new (count - 1) no_entry),
      one_emptied (count - 1) new (omega (arith, some, few)) (size ∙ room)
          (subst (λ n. IsEmptyFrom n new) (sym whole) (ap (drop count) is ∙ not_moved count slots some (omega (arith, few, room)) ∙ empty)),
      subst (All HasGuestFrame)
          (sym (take-set new (count - 1) no_entry ∙ ap (take (count - 1)) is ∙ moved_up count slots some (omega (arith, few, room))))
          (All-drop HasGuestFrame 1 (take count slots) all),
    )

pub oldest_page : (count : ℕ) (slots shown : List FirstEntry) → take count slots ≡ shown → 0 < count
    → All (λ e. (get_or slots 0 no_entry).page ≡ e.page) (take 1 shown)
oldest_page count slots shown seen some = subst (λ xs. All (λ e. (get_or slots 0 no_entry).page ≡ e.page) (take 1 xs)) seen (by count slots some)
  where
    by : (count : ℕ) (slots : List FirstEntry) → 0 < count → All (λ e. (get_or slots 0 no_entry).page ≡ e.page) (take 1 (take count slots))
    by zero slots some k d h = absurd (omega (arith, some))
    by (suc n) [] some k d h = absurd (omega (arith, h))
    by (suc n) (x ∷ xs) some zero d h = refl
    by (suc n) (x ∷ xs) some (suc k) d h = absurd (omega (arith, h))
