use Rattle.std.proofs.Common.{◌≡◌, drop}
use Rattle.run_config.specs.Guests.{rise_from}
use Rattle.run_config.proofs.input_pairs.rise.Given as goal

abbrev pub invariant-loop-moment : goal.invariant-loop-moment
invariant-loop-moment l = rise_from l.least (drop l.moment-index l.inputs) ≡ rise_from 0 l.inputs
