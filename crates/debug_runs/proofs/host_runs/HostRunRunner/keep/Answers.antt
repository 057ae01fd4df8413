use Rattle.std.proofs.Common.{◌≡◌, ◌∙◌, ◌≤◌, ◌^◌, List, ℕ, [], ap, subst, sym}
use Rattle.form_pool.proofs.Lengths.{same_forms}
use Rattle.guest_save.specs.Forms.{form}
use Rattle.guest_save.specs.Reading.{machine_in}
use Rattle.guest_save.specs.Savable.{IsSavable}
use Rattle.guest_turns.specs.Hosted.{machine_at}
use Rattle.machine_defs.specs.Machine.{Machine}
use Rattle.debug_runs.proofs.OneGuest.{form_gives, form_is, one_may_be_saved}
use Rattle.debug_runs.proofs.host_runs.HostRunRunner.keep.Goals as goal

pub returns-in-Ok-clause-form : goal.returns-in-Ok-clause-form
returns-in-Ok-clause-form c =
    let m = machine_at c.self.inside.host.machines 0 in
    let few : m.platform.steps ≤ 2 ^ 60 = subst (λ (m : Machine). m.platform.steps ≤ 2 ^ 60) (sym c.self.view_is) c.requires.early in
    let savable : IsSavable m = c.can_be_saved.ensures (one_may_be_saved m c.self.invariant.runs few) in
    form_is m c.save.new.out.partial c.reading_is_exact.ensures.machine savable (c.in-Ok.ensures.bytes [] c.requires.none)

pub returns-in-Ok-clause-machine : goal.returns-in-Ok-clause-machine
returns-in-Ok-clause-machine c =
    let m = machine_at c.self.inside.host.machines 0 in
    let few : m.platform.steps ≤ 2 ^ 60 = subst (λ (m : Machine). m.platform.steps ≤ 2 ^ 60) (sym c.self.view_is) c.requires.early in
    let savable : IsSavable m = c.can_be_saved.ensures (one_may_be_saved m c.self.invariant.runs few) in
    let same : c.save.new.out.partial ≡ form m = c.in-Ok.ensures.bytes [] c.requires.none in
    ap (λ (bytes : List ℕ). machine_in bytes) same ∙ form_gives m c.reading_is_exact.ensures.machine savable ∙ c.self.view_is

pub returns-in-Ok-clause-kept : goal.returns-in-Ok-clause-kept
returns-in-Ok-clause-kept c = same_forms c.save.new.out.kept c.args.forms.now.kept c.in-Ok.ensures.stays

pub returns-in-Err-clause-kept : goal.returns-in-Err-clause-kept
returns-in-Err-clause-kept c = same_forms c.save.new.out.kept c.args.forms.now.kept c.in-Err.ensures.stays
