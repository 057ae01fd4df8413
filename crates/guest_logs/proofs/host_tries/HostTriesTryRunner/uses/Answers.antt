use Rattle.std.proofs.Common.{◌∙◌, ap, subst}
use Rattle.arch_defs.specs.Memory.{ram_memory}
use Rattle.arch_defs.specs.Spaces.{front}
use Rattle.cached_uses.specs.StepUses.{step_uses}
use Rattle.guest_exit.specs.NextSteps.{WantsUnlessDue}
use Rattle.guest_turns.specs.Hosted.{Hosted, machine_at}
use Rattle.machine_defs.specs.Machine.{Machine}
use Rattle.guest_logs.proofs.host_tries.HostTriesTryRunner.uses.Goals as goal

pub returns-clause-uses : goal.returns-clause-uses
returns-clause-uses c =
    let wanted = c.step_next-next.result.wanted in
    c.ask.ensures.answer
    ∙ ap (λ (m : Machine). step_uses m.platform.virt (front m.spaces) (ram_memory m.ram) wanted)
    (ap (λ (h : Hosted). machine_at h.machines 0) c.step_next-next.ensures.stays ∙ c.self.view_is)
    ∙ c.steps_use.ensures c.args.self.now wanted
    (subst (λ (m : Machine). WantsUnlessDue m wanted) c.self.view_is c.step_next-next.ensures.wanted)
