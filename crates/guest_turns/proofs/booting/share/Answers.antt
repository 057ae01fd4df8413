use Rattle.guest_turns.proofs.Savables.{are_needs}
use Rattle.guest_turns.proofs.booting.share.Goals as goal

pub plan-requires-clause-needs : goal.plan-requires-clause-needs
plan-requires-clause-needs c = rw (c.as_slice.ensures.value, c.in_ok-needs.ensures) (are_needs c.args.sources.now c.requires.each)
