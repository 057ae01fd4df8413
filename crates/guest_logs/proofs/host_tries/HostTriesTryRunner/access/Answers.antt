use Rattle.std.specs.Prelude.{option_map}
use Rattle.std.proofs.Common.{ap, sym, ◌∙◌}
use Rattle.guest_exit.specs.NextSteps.{access_next}
use Rattle.guest_logs.specs.HostTries.{access_seen}
use Rattle.guest_logs.proofs.Accesses.{hlv_made, own_made}
use Rattle.guest_logs.proofs.host_tries.HostTriesTryRunner.access.Goals as goal

pub returns-in-Some-clause-access : goal.returns-in-Some-clause-access
returns-in-Some-clause-access c =
    c.hlv_access.ensures.access ∙ hlv_made c.args.self.now c.args.act.now c.in-Some.wanted c.requires (sym c.hlv_wanted.ensures ∙ c.in-Some.is)

pub returns-in-None-clause-access : goal.returns-in-None-clause-access
returns-in-None-clause-access c =
    c.made_of.ensures ∙ ap (option_map access_seen) (c.access_next.ensures.access ∙ ap access_next c.self.view_is)
    ∙ own_made c.args.self.now c.args.act.now c.requires (sym c.hlv_wanted.ensures ∙ c.in-None.is)
