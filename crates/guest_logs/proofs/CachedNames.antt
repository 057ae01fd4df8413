-- Names, one by one.
use Rattle.std.proofs.Common.{◌≡◌, ◌∙◌, ℕ, ◌+◌, ◌<◌, List, [], ◌∷◌, ◌++◌, get_or, length, map, take, ap, sym}
use Rattle.std.specs.List.{flat_map}
use Rattle.std.proofs.lemmas.List.{append_assoc, append-nil, map-append, take_more}
use Rattle.std.proofs.lemmas.List.Concat.{flat_map-append}
use Rattle.arch_defs.specs.declared.cached.Entry.{Entry}
use Rattle.arch_defs.specs.Spaces.{Space}
use Rattle.caching_steps.specs.declared.notes.CachedName.{CachedName}
use Rattle.caching_steps.specs.Noting.{second_name}
use Rattle.caching_steps.specs.Remembering.{space_names}
use Rattle.shadow_pool.specs.Slots.{no_space, space_at}

-- what is behind those that stand already, and one more
pub each_more : {A : Type 0} (f : A → CachedName) (all : List A) (old before after : List CachedName) (i : ℕ) (d : A) → i < length all
    → before ≡ old ++ map f (take i all) → after ≡ before ++ f (get_or all i d) ∷ [] → after ≡ old ++ map f (take (i + 1) all)
each_more f all old before after i d inside so_far next = next ∙ ap (λ ns. ns ++ f (get_or all i d) ∷ []) so_far
    ∙ append_assoc old (map f (take i all)) (f (get_or all i d) ∷ [])
    ∙ ap (λ ns. old ++ ns) (sym (ap (map f) (take_more all i d inside) ∙ map-append f (take i all) (get_or all i d ∷ [])))

pub ruleset each_rules = (each_more)

-- space by space
pub space_more : (spaces : List Space) (old before after : List CachedName) (i : ℕ) → i < length spaces
    → before ≡ old ++ flat_map space_names (take i spaces) → after ≡ before ++ space_names (space_at spaces i)
    → after ≡ old ++ flat_map space_names (take (i + 1) spaces)
space_more spaces old before after i inside so_far next = next ∙ ap (λ ns. ns ++ space_names (space_at spaces i)) so_far
    ∙ append_assoc old (flat_map space_names (take i spaces)) (space_names (space_at spaces i))
    ∙ ap (λ ns. old ++ ns) (sym (ap (flat_map space_names) (take_more spaces i no_space inside)
    ∙ flat_map-append space_names (take i spaces) (space_at spaces i ∷ [])
    ∙ ap (λ (last : List CachedName). flat_map space_names (take i spaces) ++ last) (append-nil (space_names (space_at spaces i)))))

pub ruleset space_rules = (space_more)
