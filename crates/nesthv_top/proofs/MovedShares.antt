-- Who has what of machine memory, turn after turn.
use Rattle.std.proofs.Common.{◌≡◌, ◌≢◌, ◌∙◌, ℕ, zero, suc, ◌+◌, ◌%◌, ◌<◌, ◌≤◌, ◌==◌, nat_eq, nat_le, ◌⊎◌, inl, inr, Bool, true, false, ◌&&◌, ◌||◌, List, [], ◌∷◌, length, drop, get_or, Option, refl, ap, sym, subst, arith}
use Rattle.std.proofs.lemmas.Bool.{cases_Bool, eqb-true, eq-eqb, both_ways, le-leb}
use Rattle.std.proofs.lemmas.List.{drop_all, get_or-set_other, get_or-set_same, length-set}
use Rattle.guest_turns.specs.Hosted.{Hosted, is_set, lowest, part_at, KeepsShares}
use Rattle.guest_turns.specs.Moves.{HasMoved, HasRetired}
use Rattle.nesthv_top.specs.Moving.{Shares, after_turn, blocks_at, turns_due, kept_turn, moved_by, own_turns, retires, retires_by, shares_of, with_move, with_moves, with_retired, with_retired_if}
use Rattle.nesthv_top.specs.Runnings.{moves_by}
use Rattle.nesthv_top.proofs.MovingTurns.{own_one, own_other}
use Rattle.nesthv_top.proofs.Turning.{left_is}

-- a turn leaves them, and a move and a retirement change them as is said
pub kept_shares : (old new : Hosted) → KeepsShares old new → shares_of new ≡ shares_of old
kept_shares old new keeps = rw (keeps.parts, keeps.free, keeps.retired) refl

moved_shares : (t g : ℕ) (host turned after : Hosted) → KeepsShares host turned → HasMoved turned g (t % length (part_at turned.parts g).blocks) (lowest turned.free) after
    → with_move g (t % length (blocks_at (shares_of host) g)) (shares_of host) ≡ shares_of after
moved_shares t g host turned after keeps is =
    ap (λ shares. with_move g (t % length (blocks_at shares g)) shares) (sym (kept_shares host turned keeps)) ∙ rw (is.parts, is.free, is.retired) refl

retired_shares : (g : ℕ) (old new : Hosted) → HasRetired old g new → with_retired g (shares_of old) ≡ shares_of new
retired_shares g old new is = rw (is.parts, is.free, is.retired) refl

next_turn : (kept : Option ℕ) (turns : List (ℕ × ℕ)) (t g k : ℕ) (d : ℕ × ℕ) (shares : Shares) → t < length turns → get_or turns t d ≡ (g, k)
    → with_moves kept t (drop t turns) shares ≡ with_moves kept (t + 1) (drop (t + 1) turns) (after_turn kept t g (drop (t + 1) turns) shares)
unfolding with_moves
next_turn kept turns t g k d shares inside is = ap (λ turns. with_moves kept t turns shares) (left_is turns t g k d inside is)

not_zero : (n : ℕ) → n ≢ 0 → nat_eq n 0 ≡ false
not_zero n some = by (cases_Bool (nat_eq n 0))
  where
    by : (nat_eq n 0 ≡ true) ⊎ (nat_eq n 0 ≡ false) → nat_eq n 0 ≡ false
    by (inl e) = absurd (some (eqb-true n 0 e))
    by (inr e) = e

-- where the guest goes on
pub shares_go_on : (kept : Option ℕ) (turns : List (ℕ × ℕ)) (t g k : ℕ) (d : ℕ × ℕ) (host turned after : Hosted) → t < length turns → get_or turns t d ≡ (g, k) → KeepsShares host turned
    → HasMoved turned g (t % length (part_at turned.parts g).blocks) (lowest turned.free) after → turns_due kept g (drop (t + 1) turns) ≢ 0
    → with_moves kept t (drop t turns) (shares_of host) ≡ with_moves kept (t + 1) (drop (t + 1) turns) (shares_of after)
shares_go_on kept turns t g k d host turned after inside is keeps move some =
    let later = drop (t + 1) turns in
    next_turn kept turns t g k d (shares_of host) inside is
    ∙ ap (with_moves kept (t + 1) later)
    (ap (λ last. with_retired_if last g (with_move g (t % length (blocks_at (shares_of host) g)) (shares_of host))) (not_zero (turns_due kept g later) some)
    ∙ moved_shares t g host turned after keeps move)

-- where it retires
pub shares_retire : (kept : Option ℕ) (turns : List (ℕ × ℕ)) (t g k : ℕ) (d : ℕ × ℕ) (host turned after last : Hosted) → t < length turns → get_or turns t d ≡ (g, k) → KeepsShares host turned
    → HasMoved turned g (t % length (part_at turned.parts g).blocks) (lowest turned.free) after → HasRetired after g last → turns_due kept g (drop (t + 1) turns) ≡ 0
    → with_moves kept t (drop t turns) (shares_of host) ≡ with_moves kept (t + 1) (drop (t + 1) turns) (shares_of last)
shares_retire kept turns t g k d host turned after last inside is keeps move retired none =
    let later = drop (t + 1) turns in
    next_turn kept turns t g k d (shares_of host) inside is
    ∙ ap (with_moves kept (t + 1) later)
    (ap (λ n. with_retired_if (nat_eq n 0) g (with_move g (t % length (blocks_at (shares_of host) g)) (shares_of host))) none
    ∙ ap (with_retired g) (moved_shares t g host turned after keeps move) ∙ retired_shares g after last retired)

-- after all turns
pub shares_at_end : (kept : Option ℕ) (turns : List (ℕ × ℕ)) (t : ℕ) (shares : Shares) → length turns ≤ t → with_moves kept t (drop t turns) shares ≡ shares
unfolding with_moves
shares_at_end kept turns t shares past = ap (λ turns. with_moves kept t turns shares) (drop_all t turns past)

-- who retires
abbrev if_last : Bool → Bool → Bool
if_last true flag = true
if_last false flag = flag

no_turn_of_it : (k flag : Bool) → (if_last k flag || (false && k)) ≡ (flag || (true && k))
no_turn_of_it true true = refl
no_turn_of_it true false = refl
no_turn_of_it false true = refl
no_turn_of_it false false = refl

no_turn : (last some more k flag : Bool) → last ≡ k → some ≡ false → more ≡ true → (if_last last flag || (some && k)) ≡ (flag || (more && k))
no_turn last some more k flag e e' e'' = rw (e, e', e'') (no_turn_of_it k flag)

some_turn_of_it : (last some more k flag : Bool) → last ≡ false → some ≡ true → more ≡ true → (if_last last flag || (some && k)) ≡ (flag || (more && k))
some_turn_of_it last some more k flag e e' e'' = rw (e, e', e'') refl

none_own : (own kept : ℕ) (flag : Bool) → (if_last (nat_eq (own + kept) 0) flag || (nat_le 1 own && nat_eq kept 0)) ≡ (flag || (nat_le 1 (own + 1) && nat_eq kept 0))
none_own zero kept flag =
    let same : 0 + kept ≡ kept = omega arith in
    no_turn (nat_eq (0 + kept) 0) (nat_le 1 0) (nat_le 1 (0 + 1)) (nat_eq kept 0) flag (ap (λ n. nat_eq n 0) same) refl refl
none_own (suc own) kept flag =
    some_turn_of_it (nat_eq (suc own + kept) 0) (nat_le 1 (suc own)) (nat_le 1 (suc own + 1)) (nat_eq kept 0) flag
    (not_zero (suc own + kept) (λ e. omega (arith, e))) (le-leb 1 (suc own) (omega arith)) (le-leb 1 (suc own + 1) (omega arith))

flag_same : (last : Bool) (g : ℕ) (shares : Shares) → g < length shares.retired → is_set (with_retired_if last g shares).retired g ≡ if_last last (is_set shares.retired g)
flag_same true g shares inside = get_or-set_same shares.retired g true false inside
flag_same false g shares inside = refl

flag_other : (last : Bool) (g h : ℕ) (shares : Shares) → h ≢ g → is_set (with_retired_if last g shares).retired h ≡ is_set shares.retired h
flag_other true g h shares other = get_or-set_other shares.retired g h true false other
flag_other false g h shares other = refl

as_many_flags : (last : Bool) (g : ℕ) (shares : Shares) → length (with_retired_if last g shares).retired ≡ length shares.retired
as_many_flags true g shares = length-set shares.retired g true
as_many_flags false g shares = refl

own_turn : (kept : Option ℕ) (turns : List (ℕ × ℕ)) (t h k : ℕ) (shares : Shares) → h < length shares.retired
    → (is_set (after_turn kept t h turns shares).retired h || retires kept turns h) ≡ (is_set shares.retired h || retires kept ((h, k) ∷ turns) h)
own_turn kept turns t h k shares inside =
    let flag = is_set shares.retired h in
    ap (λ flag. flag || retires kept turns h) (flag_same (nat_eq (turns_due kept h turns) 0) h (with_move h (t % length (blocks_at shares h)) shares) inside)
    ∙ none_own (own_turns h turns) (kept_turn kept h) flag
    ∙ ap (λ own. flag || (nat_le 1 own && nat_eq (kept_turn kept h) 0)) (sym (own_one h k turns))

other_turn : (kept : Option ℕ) (turns : List (ℕ × ℕ)) (t g h k : ℕ) (shares : Shares) → h ≢ g
    → (is_set (after_turn kept t g turns shares).retired h || retires kept turns h) ≡ (is_set shares.retired h || retires kept ((g, k) ∷ turns) h)
other_turn kept turns t g h k shares other =
    ap (λ flag. flag || retires kept turns h) (flag_other (nat_eq (turns_due kept g turns) 0) g h (with_move g (t % length (blocks_at shares g)) shares) other)
    ∙ ap (λ own. is_set shares.retired h || (nat_le 1 own && nat_eq (kept_turn kept h) 0)) (sym (own_other h g k turns (λ e. other (sym e))))

retired_by : (kept : Option ℕ) (turns : List (ℕ × ℕ)) (t : ℕ) (shares : Shares) (h : ℕ) → h < length shares.retired
    → is_set (with_moves kept t turns shares).retired h ≡ (is_set shares.retired h || retires kept turns h)
unfolding with_moves
retired_by kept [] t shares h inside = sym (or_false (is_set shares.retired h))
  where
    or_false : (b : Bool) → (b || false) ≡ b
    or_false true = refl
    or_false false = refl
retired_by kept ((g, k) ∷ turns) t shares h inside =
    let after = with_move g (t % length (blocks_at shares g)) shares in
    retired_by kept turns (t + 1) (after_turn kept t g turns shares) h (rw (as_many_flags (nat_eq (turns_due kept g turns) 0) g after) inside) ∙ by (cases_Bool (h == g))
  where
    by : ((h == g) ≡ true) ⊎ ((h == g) ≡ false)
        → (is_set (after_turn kept t g turns shares).retired h || retires kept turns h) ≡ (is_set shares.retired h || retires kept ((g, k) ∷ turns) h)
    by (inl same) =
        subst (λ g. (is_set (after_turn kept t g turns shares).retired h || retires kept turns h) ≡ (is_set shares.retired h || retires kept ((g, k) ∷ turns) h))
        (eqb-true h g same) (own_turn kept turns t h k shares inside)
    by (inr apart) = other_turn kept turns t g h k shares (λ e. both_ways (h == g) apart (rw e (eq-eqb g g refl)))

pub who_retired : (kept : Option ℕ) (turns : List (ℕ × ℕ)) (first last : Hosted) (h : ℕ) → length first.retired ≡ 16 → h < 16 → is_set first.retired h ≡ false
    → shares_of last ≡ with_moves kept 0 turns (shares_of first) → is_set last.retired h ≡ retires kept turns h
who_retired kept turns first last h flags few active is =
    ap (λ (shares : Shares). is_set shares.retired h) is ∙ retired_by kept turns 0 (shares_of first) h (omega (arith, few, flags)) ∙ ap (λ flag. flag || retires kept turns h) active

-- by how many spare blocks there were
pub none_moved : (spare : ℕ) (kept : Option ℕ) (turns : List (ℕ × ℕ)) (shares : Shares) → spare ≡ 0 → moved_by spare kept turns shares ≡ shares
none_moved zero kept turns shares none = refl
none_moved (suc spare) kept turns shares none = absurd (omega (arith, none))

pub each_moves : (spare : ℕ) (turns : List (ℕ × ℕ)) → spare ≢ 0 → moves_by spare turns ≡ length turns
each_moves zero turns some = absurd (some refl)
each_moves (suc spare) turns some = refl

pub each_moved : (spare : ℕ) (kept : Option ℕ) (turns : List (ℕ × ℕ)) (shares : Shares) → spare ≢ 0 → moved_by spare kept turns shares ≡ with_moves kept 0 turns shares
each_moved zero kept turns shares some = absurd (some refl)
each_moved (suc spare) kept turns shares some = refl

pub none_retires : (spare : ℕ) (kept : Option ℕ) (turns : List (ℕ × ℕ)) (g : ℕ) → spare ≡ 0 → retires_by spare kept turns g ≡ false
none_retires zero kept turns g none = refl
none_retires (suc spare) kept turns g none = absurd (omega (arith, none))

pub each_retires : (spare : ℕ) (kept : Option ℕ) (turns : List (ℕ × ℕ)) (g : ℕ) → spare ≢ 0 → retires_by spare kept turns g ≡ retires kept turns g
each_retires zero kept turns g some = absurd (some refl)
each_retires (suc spare) kept turns g some = refl
