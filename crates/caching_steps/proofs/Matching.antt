-- Notes that all have one step, and which names they match.
use Rattle.std.specs.List.{All, list_any}
use Rattle.std.specs.Option.{option_or}
use Rattle.std.proofs.Common.{◌≡◌, refl, sym, ap, ◌∙◌, ℕ, suc, ◌==◌, ◌&&◌, ◌||◌, nat_le, Bool, true, false, cond, List, [], ◌∷◌, ◌++◌, map, get_or, length, ◌<◌, Option, Some, None}
use Rattle.std.proofs.lemmas.Bool.{eq-eqb}
use Rattle.std.proofs.lemmas.List.Folds.{list_any_at}
use Rattle.arch_defs.specs.declared.cached.Entry.{Entry}
use Rattle.arch_defs.specs.declared.first.FirstEntry.{FirstEntry}
use Rattle.arch_defs.specs.declared.first.Tag.{Tag}
use Rattle.arch_defs.specs.declared.first.Tag.TheVariants.{Flat, Nested}
use Rattle.arch_defs.specs.declared.roots.GuestRoot.{GuestRoot}
use Rattle.arch_defs.specs.declared.roots.SupervisorRoot.{SupervisorRoot}
use Rattle.arch_defs.specs.declared.roots.SupervisorRoot.TheVariants as root
use Rattle.arch_defs.specs.FirstEntries.{is_first_of, is_tag}
use Rattle.arch_defs.specs.Roots.{is_atp, is_root, supervisor_mode_number}
use Rattle.arch_defs.proofs.SameRoots.{root_is}
use Rattle.caching_steps.specs.declared.notes.CachedName.{CachedName}
use Rattle.caching_steps.specs.declared.notes.CachedName.TheVariants.{First, Second}
use Rattle.caching_steps.specs.declared.notes.Note.{Note}
use Rattle.caching_steps.specs.Noting.{first_name, is_same_name, noted_step, second_name, step_if}
use Rattle.caching_steps.specs.Remembering.{notes_of}
use Rattle.caching_steps.proofs.Latest.{noted_append}

-- whether one of some names is this one
abbrev pub are_noted : List CachedName → CachedName → Bool
are_noted names name = list_any (λ one. is_same_name one name) names

both_steps : (a b : Bool) (n : ℕ) → option_or (step_if b n) (step_if a n) ≡ step_if (a || b) n
both_steps true true n = refl
both_steps true false n = refl
both_steps false true n = refl
both_steps false false n = refl

noted_at : (n : ℕ) (names : List CachedName) (name : CachedName) → noted_step (notes_of n names) name ≡ step_if (are_noted names name) n
unfolding noted_step
noted_at n [] name = refl
noted_at n (one ∷ names) name = ap (λ o. option_or o (step_if (is_same_name one name) n)) (noted_at n names name)
    ∙ both_steps (is_same_name one name) (are_noted names name) n

pub noted_with : (notes : List Note) (n : ℕ) (names : List CachedName) (name : CachedName) (noted : Bool) → are_noted names name ≡ noted
    → noted_step (notes ++ notes_of n names) name ≡ option_or (step_if noted n) (noted_step notes name)
noted_with notes n names name noted is = noted_append notes (notes_of n names) name
    ∙ ap (λ o. option_or o (noted_step notes name)) (noted_at n names name ∙ ap (λ b. step_if b n) is)

-- names of the second stage match none of the first, and these none of the second
pub second_is_no_first : (hgatp : GuestRoot) (entries : List Entry) (e : FirstEntry) → are_noted (map (second_name hgatp) entries) (first_name e) ≡ false
second_is_no_first hgatp [] e = refl
second_is_no_first hgatp (x ∷ xs) e = second_is_no_first hgatp xs e

pub first_is_no_second : (found : List FirstEntry) (hgatp : GuestRoot) (e : Entry) → are_noted (map first_name found) (second_name hgatp e) ≡ false
first_is_no_second [] hgatp e = refl
first_is_no_second (x ∷ xs) hgatp e = first_is_no_second xs hgatp e

-- those of one stage match where the step caches this one
pub first_matches : (found : List FirstEntry) (e : FirstEntry) → are_noted (map first_name found) (first_name e) ≡ list_any (is_first_of e.tag e.atp e.page) found
first_matches [] e = refl
first_matches (x ∷ xs) e = ap (λ b. is_first_of e.tag e.atp e.page x || b) (first_matches xs e)

pub second_matches : (hgatp other : GuestRoot) (filled : List Entry) (e : Entry)
    → are_noted (map (second_name hgatp) filled) (second_name other e) ≡ (is_root hgatp other && list_any (λ x. x.page == e.page) filled)
second_matches hgatp other filled e = mapped filled ∙ by (is_root hgatp other) filled
  where
    mapped : (xs : List Entry) → are_noted (map (second_name hgatp) xs) (second_name other e)
        ≡ list_any (λ (x : Entry). is_root hgatp other && x.page == e.page) xs
    mapped [] = refl
    mapped (x ∷ xs) = ap (λ b. (is_root hgatp other && x.page == e.page) || b) (mapped xs)

    by : (same : Bool) (xs : List Entry) → list_any (λ (x : Entry). same && x.page == e.page) xs ≡ (same && list_any (λ (x : Entry). x.page == e.page) xs)
    by true xs = refl
    by false [] = refl
    by false (x ∷ xs) = by false xs

-- each is one of its own list
pub tag_is : (tag : Tag) → is_tag tag tag ≡ true
tag_is Flat = refl
tag_is (Nested hgatp) = root_is hgatp

pub atp_is : (atp : SupervisorRoot) → is_atp atp atp ≡ true
atp_is root.Bare = refl
atp_is (root.Table mode asid ppn) =
    rw (eq-eqb (supervisor_mode_number mode) (supervisor_mode_number mode) refl, eq-eqb asid asid refl, eq-eqb ppn ppn refl) refl

is_own : (e : FirstEntry) → is_first_of e.tag e.atp e.page e ≡ true
is_own e = rw (tag_is e.tag, atp_is e.atp, eq-eqb e.page e.page refl) refl

pub first_in : (found : List FirstEntry) → All (λ e. list_any (is_first_of e.tag e.atp e.page) found ≡ true) found
first_in found i d inside = let e = get_or found i d in list_any_at (is_first_of e.tag e.atp e.page) found i d inside (is_own e)

pub second_in : (hgatp : GuestRoot) (filled : List Entry) → All (λ e. (is_root hgatp hgatp && list_any (λ x. x.page == e.page) filled) ≡ true) filled
second_in hgatp filled i d inside = let e = get_or filled i d in
    rw (root_is hgatp, list_any_at (λ (x : Entry). x.page == e.page) filled i d inside (eq-eqb e.page e.page refl)) refl
