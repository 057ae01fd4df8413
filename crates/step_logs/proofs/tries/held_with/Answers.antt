use Rattle.std.proofs.Common.{◌∙◌, ap}
use Rattle.run_log.specs.Fences.{second_count}
use Rattle.step_logs.proofs.HeldCounts.{held_with_found}
use Rattle.step_logs.proofs.tries.held_with.Goals as goal

pub returns-clause-held : goal.returns-clause-held
returns-clause-held g c =
    held_with_found (g.R.TryRunner.machine c.args.runner.now) c.state.result.now c.fill.new.first _ c.as_slice.result.now c.second_count.result
    c.requires.none c.state.ensures c.found-found.ensures.found c.fill.ensures c.as_slice.ensures.value
    (c.second_count.ensures ∙ ap second_count c.found-found.ensures.stays)
