-- By which step each translation was cached last, of those that were noted (own).
use Rattle.std.specs.Prelude.{ℕ, ◌==◌, ◌&&◌, Bool, true, false, List, [], ◌∷◌, Option, Some, None, if◌then◌else◌}
use Rattle.std.specs.List.{flat_map}
use Rattle.std.specs.Option.{option_or}
use Rattle.arch_defs.specs.declared.roots.GuestRoot.{GuestRoot}
use Rattle.arch_defs.specs.FirstEntries.{is_tag}
use Rattle.arch_defs.specs.Roots.{is_atp, is_root}
use Rattle.arch_defs.specs.declared.cached.Entry.{Entry}
use Rattle.arch_defs.specs.declared.first.FirstEntry.{FirstEntry}
use Rattle.run_log.specs.declared.uses.Use.{Use}
use Rattle.run_log.specs.declared.uses.Use.TheVariants as use_of
use Rattle.caching_steps.specs.declared.notes.CachedName.{CachedName}
use Rattle.caching_steps.specs.declared.notes.CachedName.TheVariants.{First, Second}
use Rattle.caching_steps.specs.declared.notes.Note.{Note}

-- two names are the same
abbrev pub is_same_name : CachedName → CachedName → Bool
is_same_name (First tag atp page) (First other other_atp other_page) =
    is_tag tag other && (is_atp atp other_atp && page == other_page)
is_same_name (First tag atp page) (Second hgatp other_page) = false
is_same_name (Second hgatp page) (First tag atp other_page) = false
is_same_name (Second hgatp page) (Second other other_page) = is_root hgatp other && page == other_page

-- what names a translation of the first stage, and one of the second of the space of this hgatp
abbrev pub first_name : FirstEntry → CachedName
first_name e = First e.tag e.atp e.page

abbrev pub second_name : GuestRoot → Entry → CachedName
second_name hgatp e = Second hgatp e.page

-- and what names the one of a use, under this hgatp
abbrev pub used_name : GuestRoot → Use → CachedName
used_name hgatp (use_of.First e va access) = first_name e
used_name hgatp (use_of.Second e address kind) = second_name hgatp e

abbrev pub step_if : Bool → ℕ → Option ℕ
step_if noted step = if noted then Some step else None

-- the last step that is noted for a name, the latest note being the last
unfoldable pub noted_step : List Note → CachedName → Option ℕ
noted_step [] name = None
noted_step (n ∷ ns) name = option_or (noted_step ns name) (step_if (is_same_name n.name name) n.step)

-- what notes tell of names, noted again
abbrev pub note_if : CachedName → Option ℕ → List Note
note_if name (Some step) = record { name = name; step = step } ∷ []
note_if name None = []

unfoldable pub renewed : List Note → List CachedName → List Note
renewed notes names = flat_map (λ name. note_if name (noted_step notes name)) names
