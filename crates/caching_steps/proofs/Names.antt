-- What holds of the names of all that is cached holds of each translation.
use Rattle.std.specs.List.{All, flat_map}
use Rattle.std.proofs.Common.{◌≡◌, List, [], ◌∷◌, ◌++◌, map}
use Rattle.std.proofs.lemmas.List.Elements.{All-cons, All-head, All-nil, All-tail}
use Rattle.arch_defs.specs.declared.cached.Entry.{Entry}
use Rattle.arch_defs.specs.declared.first.FirstEntry.{FirstEntry}
use Rattle.arch_defs.specs.declared.roots.GuestRoot.{GuestRoot}
use Rattle.arch_defs.specs.Spaces.{Space}
use Rattle.fill_laws.specs.EachEntry.{EachEntry}
use Rattle.machine_defs.specs.Machine.{Machine}
use Rattle.caching_steps.specs.declared.notes.CachedName.{CachedName}
use Rattle.caching_steps.specs.Noting.{first_name, noted_step, second_name}
use Rattle.caching_steps.specs.Remembering.{NamesSuffice, space_names}

module _ (P : CachedName → Type 0) where
  first_have : (es : List FirstEntry) (names : List CachedName) → All P (map first_name es ++ names) → All (λ e. P (first_name e)) es × All P names
  first_have [] names all = (All-nil (λ e. P (first_name e)), all)
  first_have (e ∷ es) names all =
      let rest = first_have es names (All-tail P (first_name e) (map first_name es ++ names) all) in
      (All-cons (λ e. P (first_name e)) e es (All-head P (first_name e) (map first_name es ++ names) all) rest.0, rest.1)

  second_have : (key : GuestRoot) (es : List Entry) (names : List CachedName) → All P (map (second_name key) es ++ names)
      → All (λ e. P (second_name key e)) es × All P names
  second_have key [] names all = (All-nil (λ e. P (second_name key e)), all)
  second_have key (e ∷ es) names all =
      let rest = second_have key es names (All-tail P (second_name key e) (map (second_name key) es ++ names) all) in
      (All-cons (λ e. P (second_name key e)) e es (All-head P (second_name key e) (map (second_name key) es ++ names) all) rest.0, rest.1)

  spaces_have : (spaces : List Space) → All P (flat_map space_names spaces) → EachEntry (λ key e. P (second_name key e)) spaces
  spaces_have [] all = All-nil (λ (s : Space). All (λ e. P (second_name s.key e)) s.entries)
  spaces_have (s ∷ ss) all = let both = second_have s.key s.entries (flat_map space_names ss) all in
      All-cons (λ (s : Space). All (λ e. P (second_name s.key e)) s.entries) s ss both.0 (spaces_have ss both.1)

pub names_suffice : NamesSuffice
names_suffice m notes others all =
    let both = first_have (λ name. noted_step others name ≡ noted_step notes name) m.platform.virt.first (flat_map space_names m.spaces) all in
    record { first = both.0; second = spaces_have (λ name. noted_step others name ≡ noted_step notes name) m.spaces both.1 }
