use Rattle.std.proofs.Common.{◌≡◌, length, map, subst, ap, sym, ◌∙◌, arith}
use Rattle.std.specs.Prelude.{IfOk}
use Rattle.std.specs.List.{All}
use Rattle.std.proofs.lemmas.List.{length-map}
use Rattle.std.proofs.lemmas.Result.{IfOk-weaker}
use Rattle.frame_split.specs.Shares.{IsSplit, blocks_of_all, frames_with}
use Rattle.machine_defs.specs.Machine.{start}
use Rattle.guest_turns.specs.declared.sources.Source.TheVariants.{Fresh}
use Rattle.guest_turns.specs.Hosted.{BeginsWith}
use Rattle.guest_turns.specs.Sources.{IsBootableSource, machines_of_sources, needs_of_sources}
use Rattle.guest_turns.proofs.Savables.{fresh_each, fresh_machines, fresh_needs}
use Rattle.guest_turns.proofs.Starting.{none_made}
use Rattle.guest_turns.proofs.hosts.Host.boot_spare.Goals as goal

pub boot_from-requires-clause-bootable : goal.boot_from-requires-clause-bootable
boot_from-requires-clause-bootable c =
    let specs = c.args.guests.items in
    let is = c.in_ok-fresh_sources.ensures in
    let count = ap length is ∙ length-map specs Fresh in
    record {
      some = omega (arith, count, c.requires.bootable.some);
      few = omega (arith, count, c.requires.bootable.few);
      each = subst (All IsBootableSource) (sym is) (fresh_each specs c.requires.bootable.each);
    }

pub boot_from-requires-clause-room : goal.boot_from-requires-clause-room
boot_from-requires-clause-room c =
    let needs = ap needs_of_sources c.in_ok-fresh_sources.ensures ∙ fresh_needs c.args.guests.items in
    rw needs c.requires.room

pub returns-clause-machines : goal.returns-clause-machines
returns-clause-machines c =
    subst (λ machines. IfOk c.boot_from.result (λ host. host.machines ≡ machines))
    (ap machines_of_sources c.in_ok-fresh_sources.ensures ∙ fresh_machines c.args.guests.items) c.boot_from.ensures.machines

pub returns-clause-parts : goal.returns-clause-parts
returns-clause-parts c =
    subst (λ needs. IfOk c.boot_from.result (λ host. IsSplit needs host.parts (frames_with needs c.args.spare)))
    (ap needs_of_sources c.in_ok-fresh_sources.ensures ∙ fresh_needs c.args.guests.items) c.boot_from.ensures.parts

pub returns-clause-fresh : goal.returns-clause-fresh
returns-clause-fresh c =
    IfOk-weaker c.boot_from.result (λ host. host.machines ≡ map start c.args.guests.items) (λ host. All (λ m. m.platform.steps ≡ 0) host.machines)
    (λ host is. none_made c.args.guests.items host.machines is)
    (subst (λ machines. IfOk c.boot_from.result (λ host. host.machines ≡ machines))
    (ap machines_of_sources c.in_ok-fresh_sources.ensures ∙ fresh_machines c.args.guests.items) c.boot_from.ensures.machines)

pub returns-clause-begins : goal.returns-clause-begins
returns-clause-begins c =
    subst (λ needs. IfOk c.boot_from.result (BeginsWith (blocks_of_all needs) c.args.spare))
    (ap needs_of_sources c.in_ok-fresh_sources.ensures ∙ fresh_needs c.args.guests.items) c.boot_from.ensures.begins
