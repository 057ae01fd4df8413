use Rattle.guest_turns.specs.declared.sources.Source.TheVariants.{Kept}
use Rattle.debug_runs.proofs.OneGuest.{booted_one}
use Rattle.debug_runs.proofs.host_runs.HostRunRunner.bring_back.Goals as goal

pub invariant_of-self : goal.invariant_of-self
invariant_of-self c =
    booted_one c.in_ok-self-inside-in-Ok.field-0 (Kept c.from_vec-name.result c.in-Ok.saved) c.can_be_saved.ensures
    c.in_ok-self-inside-in-Ok.ensures.machines c.in_ok-self-inside-in-Ok.ensures.active
