-- What is noted of a run tells, of each translation that is cached, the step that `since_of` of the log has
-- for it. Notes of translations that are cached no longer are not needed: a use is always of a cached one.
use Rattle.std.specs.Prelude.{ℕ, suc, ◌≡◌, ◌≤◌, ◌==◌, ◌&&◌, nat_le, Bool, List, [], ◌++◌, Option, map}
use Rattle.std.specs.List.{All, flat_map, list_any}
use Rattle.arch_defs.specs.FirstEntries.{is_first_of}
use Rattle.arch_defs.specs.Roots.{is_root}
use Rattle.arch_defs.specs.Spaces.{Space}
use Rattle.guest_settings.specs.declared.statuses.Status.TheVariants.{Running}
use Rattle.machine_defs.specs.Fills.{ready}
use Rattle.machine_defs.specs.Freshness.{next_found}
use Rattle.machine_defs.specs.Machine.{Machine}
use Rattle.machine_defs.specs.Runs.{run}
use Rattle.fill_laws.specs.EachEntry.{EachEntry}
use Rattle.fill_laws.specs.Keeping.{IsOrderly}
use Rattle.run_log.specs.Fills.{next_filled}
use Rattle.run_log.specs.Stale.{last_where, since_of}
use Rattle.run_log.specs.Uses.{uses}
use Rattle.caching_steps.specs.declared.notes.CachedName.{CachedName}
use Rattle.caching_steps.specs.declared.notes.CachedName.TheVariants.{First, Second}
use Rattle.caching_steps.specs.declared.notes.Note.{Note}
use Rattle.caching_steps.specs.Noting.{first_name, used_name, noted_step, second_name}

-- whether a machine's next step caches the translation of a name
abbrev pub caches_name : CachedName → Machine → Bool
caches_name (First tag atp page) m = list_any (is_first_of tag atp page) (next_found m)
caches_name (Second hgatp page) m =
    is_root m.platform.virt.csrs.hgatp hgatp && list_any (λ e. e.page == page) (next_filled m)

-- the last of the first n steps that has cached it, of those from one on
abbrev pub cached_last : Machine → ℕ → ℕ → CachedName → Option ℕ
cached_last origin from n name = last_where (λ i. nat_le from i && caches_name name (run origin i)) n

abbrev pub TellsStep : Machine → ℕ → ℕ → List Note → CachedName → Type 0
TellsStep origin from n notes name = noted_step notes name ≡ cached_last origin from n name

-- the notes after the first n steps tell this of each translation that is cached then
pub record Remembers (origin : Machine) (from n : ℕ) (notes : List Note) : Type 0 where
  pub first : All (λ e. TellsStep origin from n notes (first_name e)) (run origin n).platform.virt.first
  pub second : EachEntry (λ hgatp e. TellsStep origin from n notes (second_name hgatp e))
      (run origin n).spaces

-- the notes of a step, by the machine before it: of its fills, and of what it finds
abbrev pub notes_of : ℕ → List CachedName → List Note
notes_of n names = map (λ name. record { name = name; step = n }) names

abbrev pub fill_notes : ℕ → Machine → List Note
fill_notes n m = notes_of n (map (second_name m.platform.virt.csrs.hgatp) (next_filled m))

abbrev pub found_notes : ℕ → Machine → List Note
found_notes n m = notes_of n (map first_name (next_found m))

-- nothing is to be noted before the first step
abbrev pub RemembersAtStart : Type 0
RemembersAtStart = (origin : Machine) (from : ℕ) → Remembers origin from from []

-- a step's notes make it so after the step
abbrev pub RemembersOn : Type 0
RemembersOn = (origin : Machine) (from n : ℕ) (notes : List Note) → IsOrderly origin → from ≤ n
    → (run origin n).platform.status ≡ Running → Remembers origin from n notes
    → Remembers origin from (suc n)
    ((notes ++ fill_notes n (run origin n)) ++ found_notes n (run origin n))

-- and at its last try those of its fills tell of each use what the log says of it
abbrev pub TellsSince : Type 0
TellsSince = (origin : Machine) (from n : ℕ) (notes : List Note) → IsOrderly origin → from ≤ n
    → (run origin n).platform.status ≡ Running → Remembers origin from n notes
    → let m = run origin n in let hgatp = m.platform.virt.csrs.hgatp in
    All (λ used. noted_step (notes ++ fill_notes n m) (used_name hgatp used)
    ≡ since_of origin from n hgatp used) (uses (ready m))

-- other notes that tell the same of what is cached do as well
pub record TellsAlike (m : Machine) (notes others : List Note) : Type 0 where
  pub first : All (λ e. noted_step others (first_name e) ≡ noted_step notes (first_name e))
      m.platform.virt.first
  pub second : EachEntry (λ hgatp e. noted_step others (second_name hgatp e)
      ≡ noted_step notes (second_name hgatp e)) m.spaces

abbrev pub RemembersAlike : Type 0
RemembersAlike = (origin : Machine) (from n : ℕ) (notes others : List Note)
    → Remembers origin from n notes → TellsAlike (run origin n) notes others
    → Remembers origin from n others

-- the names of all that is cached; notes that tell the same of these tell the same of it
abbrev pub space_names : Space → List CachedName
space_names s = map (second_name s.key) s.entries

abbrev pub cached_names : Machine → List CachedName
cached_names m = map first_name m.platform.virt.first ++ flat_map space_names m.spaces

abbrev pub NamesSuffice : Type 0
NamesSuffice = (m : Machine) (notes others : List Note)
    → All (λ name. noted_step others name ≡ noted_step notes name) (cached_names m)
    → TellsAlike m notes others
