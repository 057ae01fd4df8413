use Rattle.std.proofs.Common.{◌≤◌, ◌^◌, ◌∙◌, [], ap, refl, subst, sym}
use Rattle.guest_turns.proofs.SavedRuns.{savable_source}
use Rattle.machine_defs.specs.Machine.{Machine}
use Rattle.gdb_stub.specs.Sessions.{SessionState}
use Rattle.gdb_top.specs.Debugging.{recording_by}
use Rattle.gdb_top.proofs.Ending.{same_recording, talks_from}
use Rattle.gdb_top.proofs.guests.talk_about.Goals as goal

pub new-requires-2-clause-early : goal.new-requires-2-clause-early
new-requires-2-clause-early g c =
    subst (λ (m : Machine). m.platform.steps ≤ 2 ^ 60) (sym c.in-Ok.ensures) (savable_source _ c.requires.source).steps

pub returns-clause-talked : goal.returns-clause-talked
returns-clause-talked g c =
    talks_from g.C.Connection _ _ _ _ (recording_by c.args.guest c.args.description.now) _ _
    (rw (c.new-3.ensures.session) (c.in-Ok-new.ensures.recording ∙ same_recording _ _ _ _ c.args.description.now c.in-Ok.ensures refl))
    (c.new-3.ensures.talk ∙ ap (λ (session : SessionState). record { session = session; sent = [] }) c.in-Ok-new.ensures.state)
    c.new-3.ensures.come c.serve.ensures.talked
