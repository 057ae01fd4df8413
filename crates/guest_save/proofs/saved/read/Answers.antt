use Rattle.std.proofs.Common.{ap, ◌∙◌, subst, sym}
use Rattle.std.proofs.lemmas.Bool.{false≢true}
use Rattle.guest_save.proofs.Deciding.{read_as, same_test}
use Rattle.guest_save.proofs.ReadMachines.{read_is}
use Rattle.guest_save.proofs.RoundTrip.{bad_exactly}
use Rattle.guest_save.specs.Savable.{IsSavable}
use Rattle.guest_save.specs.Saves.{SavedMachine, saved_form}
use Rattle.guest_save.specs.Tests.{IsRead}
use Rattle.guest_save.proofs.saved.read.Goals as goal

pub is_saved-requires-clause-read : goal.is_saved-requires-clause-read
is_saved-requires-clause-read c = subst IsRead (sym c.in_ok-parts.ensures) (read_is c.of-version.result c.args.bytes.now)

pub returns-then-not-is_saved-clause-bad : goal.returns-then-not-is_saved-clause-bad
returns-then-not-is_saved-clause-bad c = λ is.
    let read = read_as c.args.bytes.now c.of-version.result c.in_ok-parts.parts c.of-version.ensures c.in_ok-parts.ensures in
    bad_exactly c.args.bytes.now (λ savable same. absurd (false≢true (sym c.if-not-is_saved.true
    ∙ c.is_saved.ensures.1 (subst (λ (s : SavedMachine). IsSavable s.machine) (sym read) savable, ap saved_form read ∙ same))))

pub returns-then-not-is_saved-clause-refused : goal.returns-then-not-is_saved-clause-refused
returns-then-not-is_saved-clause-refused c = λ is.
    let read = read_as c.args.bytes.now c.of-version.result c.in_ok-parts.parts c.of-version.ensures c.in_ok-parts.ensures in
    same_test c.args.bytes.now _ c.is_saved.result read c.is_saved.ensures ∙ c.if-not-is_saved.true

pub returns-clause-tested : goal.returns-clause-tested
returns-clause-tested c =
    let read = read_as c.args.bytes.now c.of-version.result c.in_ok-parts.parts c.of-version.ensures c.in_ok-parts.ensures in
    same_test c.args.bytes.now _ c.is_saved.result read c.is_saved.ensures ∙ c.if-not-is_saved.false
