-- The machine of a source of a plan, by its number.
use Rattle.std.proofs.Common.{◌≡◌, ◌∙◌, ◌<◌, ℕ, List, length, get_or, ap, sym}
use Rattle.std.proofs.lemmas.List.{get_or-map}
use Rattle.guest_turns.specs.declared.sources.Source.{Source}
use Rattle.guest_turns.specs.Hosted.{machine_at, no_machine}
use Rattle.guest_turns.specs.Sources.{machine_of_source, machines_of_sources}

pub begins_with : (sources : List Source) (g : ℕ) (source : Source) → g < length sources → source ≡ get_or sources g source
    → machine_of_source source ≡ machine_at (machines_of_sources sources) g
begins_with sources g source inside is =
    ap (λ (s : Source). machine_of_source s) is ∙ sym (get_or-map machine_of_source sources g source no_machine inside)
