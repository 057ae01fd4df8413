use Rattle.std.proofs.Common.{ap, sym, subst, ◌∙◌}
use Rattle.std.specs.Prelude.{IfOk}
use Rattle.std.proofs.lemmas.Result.{IfOk-weaker}
use Rattle.machine_defs.specs.Machine.{start}
use Rattle.guest_turns.specs.Hosting.{IsAtStart, IsBesideRam}
use Rattle.guest_turns.specs.Sources.{machine_of_source, need_of_source}
use Rattle.guest_turns.proofs.Starting.{made_at_start}
use Rattle.guest_turns.proofs.booting.guest_from.Goals as goal

pub returns-in-Fresh-clause-made : goal.returns-in-Fresh-clause-made
returns-in-Fresh-clause-made c =
    let spec = c.in-Fresh.spec in
    let part = c.args.part in
    let memory = c.args.memory.now in
    let spaces = c.requires.meets.spaces ∙ ap (λ source. (need_of_source source).spaces) c.in-Fresh.is in
    subst (λ source. IfOk c.guest_at_start.result (λ guest. IsBesideRam (machine_of_source source) part guest memory)) (sym c.in-Fresh.is)
    (IfOk-weaker c.guest_at_start.result (IsAtStart spec part) (λ guest. IsBesideRam (start spec) part guest memory)
    (λ guest at. made_at_start spec part guest memory at spaces c.requires.lies c.requires.zeros) c.guest_at_start.ensures)
