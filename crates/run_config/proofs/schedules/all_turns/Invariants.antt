use Rattle.std.proofs.Common.{◌≡◌, ◌-◌, ◌^◌, drop}
use Rattle.toml.specs.View.{items_view}
use Rattle.run_config.specs.Values.{pairs_within}
use Rattle.run_config.proofs.Pairing.{goes_on}
use Rattle.run_config.proofs.schedules.all_turns.Given as goal

abbrev pub invariant-loop-value : goal.invariant-loop-value
invariant-loop-value l =
    pairs_within (l.guests - 1) (2 ^ 32) (items_view l.values) ≡ goes_on (l.guests - 1) (2 ^ 32) l.turns.items (items_view (drop l.value-index l.values))
