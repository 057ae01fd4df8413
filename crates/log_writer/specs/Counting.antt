-- Lines of counts, as they are kept while steps are made: each at its place, in the order of places.
use Rattle.std.specs.Prelude.{ℕ, List, [], ◌∷◌, map, if◌then◌else◌}
use Rattle.std.specs.declared.cmp.Ordering.{Ordering}
use Rattle.std.specs.Ordering.{is_eq, nat_cmp, ordering_then}
use Rattle.std.specs.Option.{option_cmp}
use Rattle.log_lines.specs.declared.lines.CountKey.{CountKey}
use Rattle.log_lines.specs.declared.lines.CountLine.{CountLine}
use Rattle.log_lines.specs.CountKeys.{mode_rank}
use Rattle.log_writer.specs.declared.counts.Place.{Place}

abbrev pub count_place : CountKey → Place
count_place key = record { mode = mode_rank key.mode; hgatp = key.hgatp; pc = key.pc }

abbrev pub with_places : List CountLine → List (Place × CountLine)
with_places lines = map (λ c. (count_place c.key, c)) lines

-- one is before another by mode, then by hgatp, where none comes first, and then by pc
abbrev pub place_cmp : Place → Place → Ordering
place_cmp a b = ordering_then (nat_cmp a.mode b.mode)
    (ordering_then (option_cmp nat_cmp a.hgatp b.hgatp) (nat_cmp a.pc b.pc))

-- how often lines say that a place was executed
abbrev pub count_at : List CountLine → Place → ℕ
count_at [] place = 0
count_at (c ∷ cs) place = if is_eq (place_cmp place (count_place c.key)) then c.count else count_at cs place
