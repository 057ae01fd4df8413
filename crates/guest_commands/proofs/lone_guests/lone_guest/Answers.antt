use Rattle.std.proofs.Common.{◌∙◌, ℕ, List, ap, subst, sym}
use Rattle.guest_turns.specs.declared.sources.Source.{Source}
use Rattle.guest_turns.specs.Sources.{IsBootableSource}
use Rattle.guest_turns.specs.TurnLists.{own_steps}
use Rattle.guest_commands.proofs.LoneMachines.{begins_with}
use Rattle.guest_commands.proofs.lone_guests.lone_guest.Goals as goal

pub returns-clause-source : goal.returns-clause-source
returns-clause-source c =
    subst (λ (s : Source). IsBootableSource s) (sym c.source_at-source.ensures) (c.requires.job.sources c.args.guest c.source_at-source.result c.requires.guest)

pub returns-clause-is : goal.returns-clause-is
returns-clause-is c = record {
  machine = begins_with c.args.job.sources.items c.args.guest c.source_at-source.result c.requires.guest c.source_at-source.ensures;
  steps = c.own_steps-steps.ensures.value ∙ ap (λ (turns : List (ℕ × ℕ)). own_steps c.args.guest turns) (c.as_slice.ensures ∙ c.turns.ensures.turns);
}
