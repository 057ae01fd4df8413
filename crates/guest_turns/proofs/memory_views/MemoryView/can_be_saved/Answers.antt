use Rattle.std.proofs.Common.{◌≡◌, ℕ, ◌≤◌, List, length, ap, subst, sym, ◌∙◌}
use Rattle.std.specs.List.{All}
use Rattle.guest_save.specs.declared.headers.Header.{Header}
use Rattle.guest_save.specs.declared.versions.Version.TheVariants.{Third}
use Rattle.guest_save.specs.Headers.{header_numbers, header_of}
use Rattle.guest_save.specs.Savable.{Fits, IsSavable}
use Rattle.guest_settings.specs.Inputs.{AreInputs}
use Rattle.guest_turns.specs.Saving.{MayBeSaved}
use Rattle.guest_turns.proofs.SavableGuests.{savable_hosted}
use Rattle.guest_turns.proofs.memory_views.MemoryView.can_be_saved.Goals as goal

pub returns : goal.returns
returns c = λ may.
    let guest = c.self.inside.guest.now in
    let memory = c.self.inside.memory.now in
    let header = c.header.ensures ∙ ap header_of (sym c.self.view_is) in
    subst IsSavable c.self.view_is
    (savable_hosted guest memory c.self.invariant (subst MayBeSaved (sym c.self.view_is) may)
    (subst AreInputs c.unread-unread.ensures.inputs c.unread-unread.ensures.given)
    (subst (λ (bytes : List ℕ). length bytes ≤ guest.console.room) c.bytes-put.ensures.bytes c.bytes-put.ensures.within)
    (subst (λ (h : Header). All Fits (header_numbers Third h)) header c.numbers_fit.ensures.numbers)
    (subst (λ (h : Header). length h.state.regs.x ≡ 32) header c.numbers_fit.ensures.registers))
