use Rattle.std.proofs.Common.{◌≡◌, ◌∙◌, ap, sym}
use Rattle.std.proofs.lemmas.List.{append-nil}
use Rattle.std.specs.Option.{option_to_list}
use Rattle.step_logs.specs.Tries.{If}
use Rattle.step_logs.proofs.Told.{first_told, none_told}
use Rattle.step_logs.proofs.step_texts.put_first.Goals as goal

pub returns-then-asked-clause-bytes : goal.returns-then-asked-clause-bytes
returns-then-asked-clause-bytes g c = λ kinds s m is asked running.
    rw (
      c.if-asked.true,
      ← first_told s c.in-Some.field-0 c.args.made.now.tried.found is.last running (is.events ∙ ap option_to_list c.in-Some.is)
          (rw (asked ∙ c.if-asked.true) at is.tried.found),
    ) (c.put_found.ensures.bytes s is.before)

pub returns-in-None-clause-bytes : goal.returns-in-None-clause-bytes
returns-in-None-clause-bytes g c = λ kinds s m is asked running before stood.
    rw (none_told s c.args.asked running (is.events ∙ ap option_to_list c.in-None.is), append-nil before) stood
