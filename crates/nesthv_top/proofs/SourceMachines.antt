-- The machines that guests go on from, and their runs.
use Rattle.std.proofs.Common.{ℕ, ◌<◌, ◌≤◌, false, List, [], ◌∷◌, length, get_or, arith}
use Rattle.std.specs.List.{All}
use Rattle.std.proofs.lemmas.List.{get_or-map, length-map}
use Rattle.guest_save.specs.Laws.{SavableGoesOn, SavedFirstFresh, SavedUseFresh}
use Rattle.guest_turns.specs.declared.sources.Source.{Source}
use Rattle.guest_turns.specs.declared.sources.Source.TheVariants.{Fresh, Kept}
use Rattle.guest_turns.specs.Sources.{IsBootableSource, machine_of_source, machines_of_sources, need_of_source}
use Rattle.guest_turns.proofs.Savables.{savable}
use Rattle.machine_defs.specs.Runs.{run}
use Rattle.cache_laws.specs.Caching.{GuestsFirstFresh, GuestsUseFresh, RunsAreArchitectural}
use Rattle.fill_laws.specs.Keeping.{RunKeepsOrderly}
use Rattle.fill_laws.specs.Laws.{FillsSuffice}
use Rattle.nesthv_top.specs.Plans.{AllRunAsWritten, FirstFreshFrom, UsesFreshFrom}
use Rattle.nesthv_top.specs.Seen.{plan_with}

-- their rooms are small
pub rooms_of : (sources : List Source) → All IsBootableSource sources → All (λ m. m.entry_room ≤ 256) (machines_of_sources sources)
rooms_of [] each i d inside = absurd (omega (arith, inside))
rooms_of (first ∷ rest) each i d inside =
    let there : i < length (first ∷ rest) = rw (length-map (first ∷ rest) machine_of_source) at inside in
    rw (get_or-map machine_of_source (first ∷ rest) i first d there)
    (savable (get_or (first ∷ rest) i first) (each i first there)).sizes.most_entries

-- the laws by which they run
pub record Laws : Type 0 where
  pub suffice : FillsSuffice
  pub orderly : RunKeepsOrderly
  pub architectural : RunsAreArchitectural
  pub uses : GuestsUseFresh
  pub first : GuestsFirstFresh
  pub goes_on : SavableGoesOn
  pub since : SavedUseFresh
  pub first_since : SavedFirstFresh

uses_fresh : Laws → (source : Source) (n : ℕ) → IsBootableSource source → UsesFreshFrom source n
uses_fresh laws (Fresh spec) n is = laws.uses spec n (omega (arith, is.some_entries)) is.some_space
uses_fresh laws (Kept name saved) n is = laws.since saved.machine n

first_fresh : Laws → (source : Source) (n : ℕ) → FirstFreshFrom source n
first_fresh laws (Fresh spec) n = laws.first spec n
first_fresh laws (Kept name saved) n = laws.first_since saved.machine n

-- their machines run as the architecture is written, and no step of theirs is put off for good
pub run_as_written : (sources : List Source) (turns : List (ℕ × ℕ)) (spare : ℕ) → Laws → All IsBootableSource sources → AllRunAsWritten (plan_with sources turns spare)
run_as_written sources turns spare laws bootable i n d inside few =
    let source = get_or sources i d in
    let is = bootable i d inside in
    let orderly = (laws.goes_on (machine_of_source source) (savable source is)).orderly in
    record {
      fills = laws.suffice (run (machine_of_source source) n) (laws.orderly (machine_of_source source) n orderly).entries;
      architectural = laws.architectural (machine_of_source source) n orderly;
      fresh = uses_fresh laws source n is;
      first = first_fresh laws source n;
    }

-- each needs a block
pub no_source : Source
no_source = Fresh (record { name = []; image = []; blocks = 0; spaces = 0; entries = 0; console = 0; inputs = []; device = false })

pub needs_block : (source : Source) → IsBootableSource source → 1 ≤ (need_of_source source).blocks
needs_block (Fresh spec) is = is.some_block
needs_block (Kept name saved) is = is.sizes.some_block
