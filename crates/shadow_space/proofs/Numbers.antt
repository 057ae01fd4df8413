-- How many entries have pages of a table.
use Rattle.std.proofs.Common.{◌≡◌, ◌≢◌, ℕ, suc, ◌+◌, ◌*◌, ◌/◌, ◌<◌, ◌≤◌, ◌⊎◌, inl, inr, cond, ◌==◌, List, [], ◌∷◌, ◌++◌, length, get_or, remove, refl, sym, ◌∙◌, arith}
use Rattle.std.proofs.lemmas.Bool.{eq-eqb, ne_eqb}
use Rattle.std.proofs.lemmas.List.Sums.{get_or-le-sum_by, sum_by-cons, sum_by-le-sum_by, sum_by-remove, sum_by_push}
use Rattle.arch_defs.specs.declared.cached.Entry.{Entry}
use Rattle.shadow_space.specs.Held.{number_of}
use Rattle.shadow_space.specs.Leaves.{leaves}
use Rattle.shadow_space.specs.Trees.{prefix}
use Rattle.shadow_space.proofs.Finding.{no_leaf}
use Rattle.table_words.proofs.Words.{same_or}

one_if : (a b : ℕ) → a ≡ b → ◌≡◌ {A = ℕ} (cond (a == b) 1 0) 1
one_if a b is = rw (eq-eqb a b is) refl

pub none_if : (a b : ℕ) → a ≢ b → ◌≡◌ {A = ℕ} (cond (a == b) 1 0) 0
none_if a b other = rw (ne_eqb a b other) refl

pub number_push : (es : List Entry) (e : Entry) (h k : ℕ) → number_of (es ++ e ∷ []) h k ≡ number_of es h k + cond (prefix h e.page == k) 1 0
unfolding number_of
number_push es e h k = sum_by_push (λ e. cond (prefix h e.page == k) 1 0) es e

pub number_remove : (es : List Entry) (i : ℕ) (d : Entry) (h k : ℕ) → i < length es → number_of es h k ≡ number_of (remove es i) h k + cond (prefix h (get_or es i d).page == k) 1 0
unfolding number_of
number_remove es i d h k inside = sym (sum_by-remove (λ e. cond (prefix h e.page == k) 1 0) es i d inside)

-- each entry is counted
pub own_number : (es : List Entry) (i : ℕ) (d : Entry) (h : ℕ) → i < length es → 0 < number_of es h (prefix h (get_or es i d).page)
unfolding number_of
own_number es i d h inside =
    let few = get_or-le-sum_by (λ e. cond (prefix h e.page == prefix h (get_or es i d).page) 1 0) es i d inside in
    omega (arith, few, one_if (prefix h (get_or es i d).page) (prefix h (get_or es i d).page) refl)

-- the table above has as many or more
below_above : (p k u : ℕ) → u < 512 → p ≡ 512 * k + u → p / 512 ≡ k
below_above p k u small is = omega arith

one_up : (p k u : ℕ) → u < 512 → cond (p == 512 * k + u) 1 0 ≤ cond (p / 512 == k) 1 0
one_up p k u small = by (same_or p (512 * k + u))
  where
    by : (p ≡ 512 * k + u) ⊎ (p ≢ 512 * k + u) → cond (p == 512 * k + u) 1 0 ≤ cond (p / 512 == k) 1 0
    by (inl is) = omega (arith, one_if p (512 * k + u) is, one_if (p / 512) k (below_above p k u small is))
    by (inr other) = omega (arith, none_if p (512 * k + u) other)

pub number_up : (es : List Entry) (h k u : ℕ) → u < 512 → number_of es h (512 * k + u) ≤ number_of es (suc h) k
unfolding number_of
number_up es h k u small = sum_by-le-sum_by (λ e. cond (prefix h e.page == 512 * k + u) 1 0) (λ e. cond (prefix (suc h) e.page == k) 1 0) es (λ e. one_up (prefix h e.page) k u small)

-- a table without entries has no leaf
pub no_number_of : (h k : ℕ) → number_of [] h k ≡ 0
unfolding number_of
no_number_of h k = refl

pub number_cons : (e : Entry) (es : List Entry) (h k : ℕ) → number_of (e ∷ es) h k ≡ cond (prefix h e.page == k) 1 0 + number_of es h k
unfolding number_of
number_cons e es h k = sum_by-cons (λ e. cond (prefix h e.page == k) 1 0) e es

in_table : (k u page : ℕ) → u < 512 → page ≡ 512 * k + u → page / 512 ≡ k
in_table k u page small is = omega arith

leaf_cons : (blocks : List ℕ) (e : Entry) (es : List Entry) (page : ℕ) → e.page ≢ page → leaves blocks (e ∷ es) page ≡ leaves blocks es page
unfolding leaves
leaf_cons blocks e es page other = rw (ne_eqb e.page page other) refl

pub no_leaves : (blocks : List ℕ) (es : List Entry) (k u : ℕ) → u < 512 → number_of es 0 k ≡ 0 → leaves blocks es (512 * k + u) ≡ 0
no_leaves blocks [] k u small none = no_leaf blocks (512 * k + u)
no_leaves blocks (e ∷ es) k u small none =
    leaf_cons blocks e es (512 * k + u) (λ is. omega (arith, number_cons e es 0 k, none, one_if (e.page / 512) k (in_table k u e.page small is)))
    ∙ no_leaves blocks es k u small (omega (arith, number_cons e es 0 k, none))
