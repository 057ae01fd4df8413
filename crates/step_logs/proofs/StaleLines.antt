-- The lines of the stale uses of a step are those of the log.
use Rattle.std.specs.List.{All, flat_map}
use Rattle.std.specs.Option.{option_to_list}
use Rattle.std.proofs.Common.{◌≡◌, refl, sym, subst, ap, ◌∙◌, ℕ, ◌+◌, ◌<◌, Bool, true, false, cond, List, [], ◌∷◌, ◌++◌, get_or, length, map, take, Option, Some, None}
use Rattle.std.proofs.lemmas.List.{append-nil, take_more}
use Rattle.std.proofs.lemmas.List.Concat.{flat_map-append}
use Rattle.std.proofs.lemmas.List.Elements.{All-head, All-tail}
use Rattle.arch_defs.specs.declared.roots.GuestRoot.{GuestRoot}
use Rattle.guest_settings.specs.declared.statuses.Status.TheVariants.{Running}
use Rattle.log_lines.specs.declared.lines.Line.{Line}
use Rattle.log_lines.specs.declared.lines.Line.TheVariants as line
use Rattle.machine_defs.specs.Fills.{most_fills, ready}
use Rattle.machine_defs.specs.declared.events.Event.{Event}
use Rattle.machine_defs.specs.Machine.{Machine}
use Rattle.fill_laws.proofs.Filling.{only_spaces}
use Rattle.run_log.specs.declared.uses.Use.{Use}
use Rattle.run_log.specs.Seen.{Seen, head_of}
use Rattle.run_log.specs.Stale.{is_stale, leaf_now, since_of, stale_line, stale_line_if, stale_lines, translation_of}
use Rattle.run_log.specs.Traps.{step_events}
use Rattle.run_log.specs.Uses.{uses}
use Rattle.rv64_hart.specs.Leaves.{leaves_list}
use Rattle.caching_steps.specs.declared.notes.Note.{Note}
use Rattle.caching_steps.specs.Noting.{first_name, used_name, noted_step}
use Rattle.caching_steps.specs.declared.notes.CachedName.{CachedName}
use Rattle.caching_steps.specs.Remembering.{TellsAlike, cached_names, found_notes, notes_of}
use Rattle.caching_steps.proofs.Names.{names_suffice}
use Rattle.step_logs.specs.declared.befores.Before.{Before}
use Rattle.step_logs.specs.declared.stale_uses.StaleUse.{StaleUse}
use Rattle.step_logs.specs.declared.stale_uses.StaleUses.{StaleUses}
use Rattle.step_logs.specs.Befores.{before_of}
use Rattle.step_logs.specs.StaleUses.{ShowsUses, TellUses, line_of_stale, stale_if, stale_uses}
use Rattle.step_logs.proofs.Told.{found_of_step, none_of_step}

-- use by use
pub each_more : (f : Use → List StaleUse) (all : List Use) (before after : List StaleUse) (i : ℕ) (d : Use) → i < length all
    → before ≡ flat_map f (take i all) → after ≡ before ++ f (get_or all i d) → after ≡ flat_map f (take (i + 1) all)
each_more f all before after i d inside so_far next = next ∙ ap (λ us. us ++ f (get_or all i d)) so_far
    ∙ sym (ap (flat_map f) (take_more all i d inside) ∙ flat_map-append f (take i all) (get_or all i d ∷ [])
    ∙ ap (λ (last : List StaleUse). flat_map f (take i all) ++ last) (append-nil (f (get_or all i d))))

pub ruleset each_rules = (each_more)

-- the machine at the last try has the hgatp of the one before
same_root : (s : Seen) → s.tried ≡ ready s.before → s.tried.platform.virt.csrs.hgatp ≡ s.before.platform.virt.csrs.hgatp
same_root s last = ap (λ (m : Machine). m.platform.virt.csrs.hgatp) (last ∙ only_spaces s.before (most_fills s.before))

module _ (origin : Machine) (from : ℕ) (s : Seen) (notes : List Note) where
  abbrev IsTold : Use → Type 0
  IsTold used = let hgatp = s.tried.platform.virt.csrs.hgatp in
      noted_step notes (used_name hgatp used) ≡ since_of origin from s.number hgatp used

  abbrev own_line : GuestRoot → StaleUse → Line
  own_line hgatp stale = line.Stale (record {
    head = head_of s;
    used = translation_of hgatp stale.used;
    walked = stale.walked;
    since = noted_step notes (used_name hgatp stale.used);
  })

  each_told : (all : List Use) → All IsTold all
      → map (own_line s.tried.platform.virt.csrs.hgatp) (flat_map (stale_if s.tried) all) ≡ flat_map (stale_line_if origin from s) all
  each_told [] told = refl
  each_told (used ∷ rest) told = by (is_stale s.tried used) (All-head IsTold used rest told) (each_told rest (All-tail IsTold used rest told))
    where
      by : (stale : Bool) → IsTold used
          → map (own_line s.tried.platform.virt.csrs.hgatp) (flat_map (stale_if s.tried) rest) ≡ flat_map (stale_line_if origin from s) rest
          → map (own_line s.tried.platform.virt.csrs.hgatp) (cond stale (record { used = used; walked = leaf_now s.tried used } ∷ []) [] ++ flat_map (stale_if s.tried) rest)
          ≡ cond stale (stale_line origin from s used ∷ []) [] ++ flat_map (stale_line_if origin from s) rest
      by true one others = λ i. line.Stale (record {
        head = head_of s;
        used = translation_of s.tried.platform.virt.csrs.hgatp used;
        walked = leaf_now s.tried used;
        since = one i;
      }) ∷ others i
      by false one others = others

  all_told : All IsTold (uses s.tried) → map (own_line s.tried.platform.virt.csrs.hgatp) (stale_uses s.tried) ≡ stale_lines origin from s
  unfolding stale_uses stale_lines
  all_told told = each_told (uses s.tried) told

pub lines_told : (before : Before) (notes : List Note) (shown : StaleUses) (origin : Machine) (from : ℕ) (s : Seen)
    → before ≡ before_of s.number s.before → s.tried ≡ ready s.before → ShowsUses s.tried shown → TellUses origin from s notes
    → map (line_of_stale before notes) shown.uses.items ≡ stale_lines origin from s
lines_told before notes shown origin from s is last shows told =
    let same = sym (same_root s last) in
    ap (λ b. map (line_of_stale b notes) shown.uses.items) is
    ∙ ap (λ hgatp. map (own_line origin from s notes hgatp) shown.uses.items) same
    ∙ ap (map (own_line origin from s notes s.tried.platform.virt.csrs.hgatp)) shows.uses
    ∙ all_told origin from s notes
    (subst (λ (hgatp : GuestRoot). All (λ used. noted_step notes (used_name hgatp used) ≡ since_of origin from s.number hgatp used) (uses s.tried)) same told)

-- what the step has found of the first stage is noted
pub found_noted : (s : Seen) (b : Before) (event : Option Event) (e : Event) (shown : StaleUses) (old new : List Note)
    → new ≡ old ++ notes_of b.number (map first_name (leaves_list shown.found)) → event ≡ Some e → b ≡ before_of s.number s.before
    → s.tried ≡ ready s.before → ShowsUses s.tried shown → s.before.platform.status ≡ Running → step_events s ≡ option_to_list event
    → new ≡ old ++ found_notes s.number s.before
found_noted s b event e shown old new noted some is last shows running events = noted
    ∙ ap (λ (x : Before). old ++ notes_of x.number (map first_name (leaves_list shown.found))) is
    ∙ ap (λ es. old ++ notes_of s.number (map first_name es)) (found_of_step s e shown.found last running (events ∙ ap option_to_list some) shows.found)

pub none_noted : (s : Seen) (event : Option Event) (old : List Note) → event ≡ None → s.before.platform.status ≡ Running
    → step_events s ≡ option_to_list event → old ≡ old ++ found_notes s.number s.before
none_noted s event old none running events = sym (ap (λ es. old ++ notes_of s.number (map first_name es)) (none_of_step s running (events ∙ ap option_to_list none)) ∙ append-nil old)

-- steps that are renewed for the names of all that is cached
pub renewed_alike : (m : Machine) (names : List CachedName) (notes others : List Note) → names ≡ cached_names m
    → All (λ name. noted_step others name ≡ noted_step notes name) names → TellsAlike m notes others
renewed_alike m names notes others are same = names_suffice m notes others (rw are at same)
