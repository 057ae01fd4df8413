-- The order of places.
use Rattle.std.proofs.Common.{arith, ◌≡◌, ◌∙◌, refl, sym, subst, ap, ℕ, ◌+◌, ◌<◌, Bool, true, false, Option, Some, None, Ordering, Less, Equal, Greater, if◌then◌else◌}
use Rattle.std.specs.Prelude.{◌==◌}
use Rattle.std.specs.Ordering.{is_eq, nat_cmp, ordering_then, MatchOrdering}
use Rattle.std.specs.Option.{option_cmp}
use Rattle.std.proofs.lemmas.Bool.Decides.{nat_tests}
use Rattle.std.proofs.lemmas.Cmp.{ranked}
use Rattle.arch_defs.specs.declared.modes.Mode.{Mode}
use Rattle.arch_defs.specs.declared.modes.Mode.TheVariants.{HS, U, VS, VU}
use Rattle.log_lines.specs.declared.lines.CountKey.{CountKey}
use Rattle.log_lines.specs.CountKeys.{ByHgatp, ByMode, ByPc, IsBefore, hgatp_number, is_same_key, mode_rank}
use Rattle.log_writer.specs.Counting.{place_cmp, count_place}

-- two keys whose numbers are the same
abbrev mode_at : ℕ → Mode
mode_at rank = if rank == 0 then HS else if rank == 1 then U else if rank == 2 then VS else VU

mode_back : (mode : Mode) → mode_at (mode_rank mode) ≡ mode
mode_back HS = refl
mode_back U = refl
mode_back VS = refl
mode_back VU = refl

same_mode : (m n : Mode) → mode_rank m ≡ mode_rank n → m ≡ n
same_mode m n is = sym (mode_back m) ∙ ap mode_at is ∙ mode_back n

same_hgatp : (a b : Option ℕ) → hgatp_number a ≡ hgatp_number b → a ≡ b
same_hgatp None None is = refl
same_hgatp None (Some b) is = absurd (omega (arith, is))
same_hgatp (Some a) None is = absurd (omega (arith, is))
same_hgatp (Some a) (Some b) is = ap Some (omega (arith, is))

abbrev key_with : Mode → Option ℕ → ℕ → CountKey
key_with mode hgatp pc = record { mode = mode; hgatp = hgatp; pc = pc }

same_key : (a b : CountKey) → mode_rank a.mode ≡ mode_rank b.mode → hgatp_number a.hgatp ≡ hgatp_number b.hgatp → a.pc ≡ b.pc → a ≡ b
same_key a b mode hgatp pc =
    ap (λ (m : Mode). key_with m a.hgatp a.pc) (same_mode a.mode b.mode mode)
    ∙ ap (λ (h : Option ℕ). key_with b.mode h a.pc) (same_hgatp a.hgatp b.hgatp hgatp)
    ∙ ap (λ (n : ℕ). key_with b.mode b.hgatp n) pc

-- what the comparisons of numbers answer
hgatps_are : (a b : Option ℕ) → MatchOrdering (option_cmp nat_cmp a b) (hgatp_number a < hgatp_number b) (hgatp_number a ≡ hgatp_number b) (hgatp_number b < hgatp_number a)
hgatps_are None None = refl
hgatps_are None (Some b) = omega arith
hgatps_are (Some a) None = omega arith
hgatps_are (Some a) (Some b) = by (nat_cmp a b) (ranked a b (nat_cmp a b) refl)
  where
    by : (o : Ordering) → MatchOrdering o (a < b) (a ≡ b) (b < a) → MatchOrdering o (a + 1 < b + 1) (a + 1 ≡ b + 1) (b + 1 < a + 1)
    by Less is = omega (arith, is)
    by Equal is = omega (arith, is)
    by Greater is = omega (arith, is)

-- and that of two keys
abbrev pub key_cmp : CountKey → CountKey → Ordering
key_cmp a b = place_cmp (count_place a) (count_place b)

abbrev pub Compare : Ordering → CountKey → CountKey → Type 0
Compare Less a b = IsBefore a b
Compare Equal a b = a ≡ b
Compare Greater a b = IsBefore b a

pub compare : (a b : CountKey) → Compare (key_cmp a b) a b
compare a b =
    by (nat_cmp (mode_rank a.mode) (mode_rank b.mode)) (option_cmp nat_cmp a.hgatp b.hgatp) (nat_cmp a.pc b.pc)
    (ranked (mode_rank a.mode) (mode_rank b.mode) (nat_cmp (mode_rank a.mode) (mode_rank b.mode)) refl) (hgatps_are a.hgatp b.hgatp)
    (ranked a.pc b.pc (nat_cmp a.pc b.pc) refl)
  where
    by : (m h p : Ordering) → MatchOrdering m (mode_rank a.mode < mode_rank b.mode) (mode_rank a.mode ≡ mode_rank b.mode) (mode_rank b.mode < mode_rank a.mode)
        → MatchOrdering h (hgatp_number a.hgatp < hgatp_number b.hgatp) (hgatp_number a.hgatp ≡ hgatp_number b.hgatp) (hgatp_number b.hgatp < hgatp_number a.hgatp)
        → MatchOrdering p (a.pc < b.pc) (a.pc ≡ b.pc) (b.pc < a.pc) → Compare (ordering_then m (ordering_then h p)) a b
    by Less h p mode hgatp pc = ByMode mode
    by Greater h p mode hgatp pc = ByMode mode
    by Equal Less p mode hgatp pc = ByHgatp mode hgatp
    by Equal Greater p mode hgatp pc = ByHgatp (sym mode) hgatp
    by Equal Equal Less mode hgatp pc = ByPc mode hgatp pc
    by Equal Equal Greater mode hgatp pc = ByPc (sym mode) (sym hgatp) pc
    by Equal Equal Equal mode hgatp pc = same_key a b mode hgatp pc

pub never_before : (a : CountKey) → IsBefore a a → ⊥
never_before a (ByMode p) = omega (arith, p)
never_before a (ByHgatp p q) = omega (arith, q)
never_before a (ByPc p q r) = omega (arith, r)

pub then_before : (a b c : CountKey) → IsBefore a b → IsBefore b c → IsBefore a c
then_before a b c (ByMode p) (ByMode q) = ByMode (omega (arith, p, q))
then_before a b c (ByMode p) (ByHgatp q r) = ByMode (omega (arith, p, q))
then_before a b c (ByMode p) (ByPc q r s) = ByMode (omega (arith, p, q))
then_before a b c (ByHgatp p q) (ByMode r) = ByMode (omega (arith, p, r))
then_before a b c (ByHgatp p q) (ByHgatp r s) = ByHgatp (p ∙ r) (omega (arith, q, s))
then_before a b c (ByHgatp p q) (ByPc r s t) = ByHgatp (p ∙ r) (omega (arith, q, s))
then_before a b c (ByPc p q r) (ByMode s) = ByMode (omega (arith, p, s))
then_before a b c (ByPc p q r) (ByHgatp s t) = ByHgatp (p ∙ s) (omega (arith, q, t))
then_before a b c (ByPc p q r) (ByPc s t u) = ByPc (p ∙ s) (q ∙ t) (omega (arith, r, u))

-- which keys are the same
abbrev pub is_key : CountKey → CountKey → Bool
is_key a b = is_eq (key_cmp a b)

pub key_is : (a b : CountKey) → is_key a b ≡ true → a ≡ b
key_is a b is = by (key_cmp a b) (compare a b) is
  where
    by : (o : Ordering) → Compare o a b → is_eq o ≡ true → a ≡ b
    by Less order is = absurd cc
    by Equal order is = order
    by Greater order is = absurd cc

pub own_key : (a : CountKey) → is_key a a ≡ true
own_key a = by (key_cmp a a) (compare a a)
  where
    by : (o : Ordering) → Compare o a a → is_eq o ≡ true
    by Less order = absurd (never_before a order)
    by Equal order = refl
    by Greater order = absurd (never_before a order)

pub later_key : (a b : CountKey) → IsBefore a b → is_key b a ≡ false
later_key a b before = by (key_cmp b a) (compare b a)
  where
    by : (o : Ordering) → Compare o b a → is_eq o ≡ false
    by Less order = refl
    by Equal order = absurd (never_before a (subst (λ (key : CountKey). IsBefore a key) order before))
    by Greater order = refl

equals : (x y : ℕ) → x ≡ y → (x == y) ≡ true
equals x y is = grind (arith, nat_tests)

below : (x y : ℕ) → x < y → (x == y) ≡ false
below x y is = grind (arith, nat_tests)

above : (x y : ℕ) → y < x → (x == y) ≡ false
above x y is = grind (arith, nat_tests)

earlier_differs : (a b : CountKey) → IsBefore a b → is_same_key a b ≡ false
earlier_differs a b (ByMode p) = rw (below _ _ p) refl
earlier_differs a b (ByHgatp p q) = rw (equals _ _ p, below _ _ q) refl
earlier_differs a b (ByPc p q r) = rw (equals _ _ p, equals _ _ q, below _ _ r) refl

later_differs : (a b : CountKey) → IsBefore b a → is_same_key a b ≡ false
later_differs a b (ByMode p) = rw (above _ _ p) refl
later_differs a b (ByHgatp p q) = rw (equals _ _ (sym p), above _ _ q) refl
later_differs a b (ByPc p q r) = rw (equals _ _ (sym p), equals _ _ (sym q), above _ _ r) refl

own_same : (a : CountKey) → is_same_key a a ≡ true
own_same a = rw (equals (mode_rank a.mode) (mode_rank a.mode) refl, equals (hgatp_number a.hgatp) (hgatp_number a.hgatp) refl, equals a.pc a.pc refl) refl

pub same_by_order : (a b : CountKey) → is_same_key a b ≡ is_key a b
same_by_order a b = by (key_cmp a b) (compare a b)
  where
    by : (o : Ordering) → Compare o a b → is_same_key a b ≡ is_eq o
    by Less order = earlier_differs a b order
    by Equal order = subst (λ (key : CountKey). is_same_key a key ≡ true) order (own_same a)
    by Greater order = later_differs a b order
