-- What is noted again tells the same of its names.
use Rattle.std.specs.List.{All, flat_map, list_any}
use Rattle.std.specs.Option.{option_or}
use Rattle.std.proofs.Common.{arith, ◌≡◌, refl, sym, ap, ap₂, ◌∙◌, ℕ, ◌+◌, ◌<◌, ◌≤◌, ◌==◌, ◌&&◌, ◌||◌, Bool, true, false, cond, List, [], ◌∷◌, ◌++◌, Option, Some, None, get_or, length, take}
use Rattle.std.proofs.lemmas.Bool.{and_parts, both_ways, eq-eqb, eqb-true}
use Rattle.std.proofs.lemmas.List.{append-nil, take_more, length-append}
use Rattle.std.proofs.lemmas.List.Concat.{flat_map-append}
use Rattle.std.proofs.lemmas.List.Folds.{list_any_at}
use Rattle.arch_defs.specs.declared.first.Tag.{Tag}
use Rattle.arch_defs.specs.declared.first.Tag.TheVariants.{Flat, Nested}
use Rattle.arch_defs.specs.FirstEntries.{is_tag}
use Rattle.arch_defs.specs.Roots.{is_atp, is_root}
use Rattle.arch_defs.proofs.SameRoots.{atp_same, root_is, root_same}
use Rattle.caching_steps.specs.declared.notes.CachedName.{CachedName}
use Rattle.caching_steps.specs.declared.notes.CachedName.TheVariants.{First, Second}
use Rattle.caching_steps.specs.declared.notes.Note.{Note}
use Rattle.caching_steps.specs.Noting.{is_same_name, note_if, noted_step, renewed, step_if}
use Rattle.caching_steps.proofs.Latest.{noted_append}
use Rattle.caching_steps.proofs.Matching.{are_noted, atp_is, tag_is}

-- names are the same exactly if their parts are
tag_same : (a b : Tag) → is_tag a b ≡ true → a ≡ b
tag_same Flat Flat is = refl
tag_same Flat (Nested hgatp) is = absurd (both_ways false refl is)
tag_same (Nested hgatp) Flat is = absurd (both_ways false refl is)
tag_same (Nested hgatp) (Nested other) is = ap Nested (root_same hgatp other is)

name_same : (a b : CachedName) → is_same_name a b ≡ true → a ≡ b
name_same (First tag atp page) (First other other_atp other_page) is =
    let tags = and_parts (is_tag tag other) (is_atp atp other_atp && page == other_page) is in
    let both = and_parts (is_atp atp other_atp) (page == other_page) tags.1 in
    λ i. First (tag_same tag other tags.0 i) (atp_same atp other_atp both.0 i) (eqb-true page other_page both.1 i)
name_same (First tag atp page) (Second hgatp other_page) is = absurd (both_ways false refl is)
name_same (Second hgatp page) (First tag atp other_page) is = absurd (both_ways false refl is)
name_same (Second hgatp page) (Second other other_page) is =
    let both = and_parts (is_root hgatp other) (page == other_page) is in
    λ i. Second (root_same hgatp other both.0 i) (eqb-true page other_page both.1 i)

name_is : (name : CachedName) → is_same_name name name ≡ true
name_is (First tag atp page) = rw (tag_is tag, atp_is atp, eq-eqb page page refl) refl
name_is (Second hgatp page) = rw (root_is hgatp, eq-eqb page page refl) refl

-- one name noted again tells of itself alone
one_again : (notes : List Note) (x name : CachedName) → noted_step (note_if x (noted_step notes x)) name ≡ cond (is_same_name x name) (noted_step notes name) None
unfolding noted_step
one_again notes x name = by (is_same_name x name) refl
  where
    own : (told : Option ℕ) (same : Bool) → is_same_name x name ≡ same → noted_step (note_if x told) name ≡ cond same told None
    own (Some step) same is = ap (λ b. step_if b step) is
    own None true is = refl
    own None false is = refl

    by : (same : Bool) → is_same_name x name ≡ same → noted_step (note_if x (noted_step notes x)) name ≡ cond same (noted_step notes name) None
    by true is = own (noted_step notes x) true is ∙ ap (noted_step notes) (name_same x name is)
    by false is = own (noted_step notes x) false is

either_tells : (told : Option ℕ) (here later : Bool) → option_or (cond later told None) (cond here told None) ≡ cond (here || later) told None
either_tells (Some step) true true = refl
either_tells (Some step) true false = refl
either_tells (Some step) false true = refl
either_tells (Some step) false false = refl
either_tells None true true = refl
either_tells None true false = refl
either_tells None false true = refl
either_tells None false false = refl

again : (notes : List Note) (names : List CachedName) (name : CachedName) → noted_step (renewed notes names) name ≡ cond (are_noted names name) (noted_step notes name) None
unfolding renewed noted_step
again notes [] name = refl
again notes (x ∷ xs) name = noted_append (note_if x (noted_step notes x)) (renewed notes xs) name
    ∙ ap₂ option_or (again notes xs name) (one_again notes x name)
    ∙ either_tells (noted_step notes name) (is_same_name x name) (are_noted xs name)

pub renewed_tells : (notes others : List Note) (names : List CachedName) → others ≡ renewed notes names
    → All (λ name. noted_step others name ≡ noted_step notes name) names
renewed_tells notes others names is i d inside = let name = get_or names i d in
    ap (λ ns. noted_step ns name) is ∙ again notes names name
    ∙ ap (λ b. cond b (noted_step notes name) None) (list_any_at (λ one. is_same_name one name) names i d inside (name_is name))

one_at_most : (x : CachedName) (told : Option ℕ) → length (note_if x told) ≤ 1
one_at_most x (Some step) = omega arith
one_at_most x None = omega arith

few : (notes : List Note) (names : List CachedName) → length (renewed notes names) ≤ length names
unfolding renewed
few notes [] = omega arith
few notes (x ∷ xs) =
    let both = length-append (note_if x (noted_step notes x)) (renewed notes xs) in
    let one = one_at_most x (noted_step notes x) in
    let rest = few notes xs in omega (arith, both, one, rest)

pub renewed_few : (notes others : List Note) (names : List CachedName) → others ≡ renewed notes names → length others ≤ length names
renewed_few notes others names is = rw is (few notes names)

pub ruleset rules = (renewed_tells, renewed_few)

-- name by name
pub each_more : (f : CachedName → List Note) (names : List CachedName) (before after : List Note) (i : ℕ) (d : CachedName) → i < length names
    → before ≡ flat_map f (take i names) → after ≡ before ++ f (get_or names i d) → after ≡ flat_map f (take (i + 1) names)
each_more f names before after i d inside so_far next = next ∙ ap (λ ns. ns ++ f (get_or names i d)) so_far
    ∙ sym (ap (flat_map f) (take_more names i d inside) ∙ flat_map-append f (take i names) (get_or names i d ∷ [])
    ∙ ap (λ (last : List Note). flat_map f (take i names) ++ last) (append-nil (f (get_or names i d))))

pub ruleset each_rules = (each_more)
