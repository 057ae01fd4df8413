use Rattle.std.proofs.Common.{◌∙◌, sym}
use Rattle.run_config.proofs.Pairing.{all_pairs, pair_more}
use Rattle.run_config.proofs.schedules.all_turns.Goals as goal

pub loop-value-preserved : goal.loop-value-preserved
loop-value-preserved c =
    c.loop-value.invariant ∙ pair_more _ _ _ _ c.args.values.now _ c.value-item.result c.in-Some.turn c.loop-value-test.true c.value-item.is
    (sym c.turn_in.ensures ∙ c.in-Some.is) c.in_ok-push.ensures.items

pub returns : goal.returns
returns c = sym (c.loop-value.invariant ∙ all_pairs _ _ _ _ _ c.loop-value-test.false)
