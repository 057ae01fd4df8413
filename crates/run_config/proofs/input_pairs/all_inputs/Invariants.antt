use Rattle.std.proofs.Common.{◌≡◌, ◌-◌, ◌^◌, drop}
use Rattle.toml.specs.View.{items_view}
use Rattle.run_config.specs.Values.{pairs_within}
use Rattle.run_config.proofs.Pairing.{goes_on}
use Rattle.run_config.proofs.input_pairs.all_inputs.Given as goal

abbrev pub invariant-loop-value : goal.invariant-loop-value
invariant-loop-value l =
    pairs_within (2 ^ 62 - 1) 255 (items_view l.values) ≡ goes_on (2 ^ 62 - 1) 255 l.inputs.items (items_view (drop l.value-index l.values))
