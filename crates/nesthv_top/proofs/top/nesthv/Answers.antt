use Rattle.command_line.specs.Commands.{command_of}
use Rattle.nesthv_top.proofs.Telling.{complete, found, no_command, ran_as_written, refusal, replayed, resumable, texted}
use Rattle.nesthv_top.proofs.top.nesthv.Goals as goal

pub returns-clause-text : goal.returns-clause-text
returns-clause-text g c = λ done.
    texted g.O.Sink _ (command_of c.args.words.now) c.obey-ended.result _ _ (rw c.status_of.ensures at done) c.obey-ended.ensures.out

pub returns-clause-machines : goal.returns-clause-machines
returns-clause-machines g c = λ done.
    ran_as_written g.O.Sink _ (command_of c.args.words.now) c.obey-ended.result _ _ (rw c.status_of.ensures at done) c.obey-ended.ensures.out

pub returns-clause-saved : goal.returns-clause-saved
returns-clause-saved g c = λ zero.
    resumable _ (command_of c.args.words.now) c.obey-ended.result (rw c.status_of.ensures at zero) c.obey-ended.ensures.saved

pub returns-clause-verdict : goal.returns-clause-verdict
returns-clause-verdict g c = λ done.
    rw c.status_of.ensures
    (found g.O.Sink _ (command_of c.args.words.now) c.obey-ended.result _ _ (rw c.status_of.ensures at done) c.obey-ended.ensures.out)

pub returns-clause-differs : goal.returns-clause-differs
returns-clause-differs g c = λ six. replayed c.args.words.now c.obey-ended.result c.obey-ended.ensures.cause.words (rw c.status_of.ensures at six)

pub returns-clause-no_command : goal.returns-clause-no_command
returns-clause-no_command g c = rw c.status_of.ensures (no_command c.args.words.now c.obey-ended.result c.obey-ended.ensures.cause.words)

pub returns-clause-refused : goal.returns-clause-refused
returns-clause-refused g c =
    rw c.status_of.ensures
    (refusal g.S.Store g.O.Sink c.args.words.now c.obey-ended.result _ _ _ _ c.obey-ended.ensures.cause c.obey-ended.ensures.reads c.obey-ended.ensures.out)

pub returns-clause-complete : goal.returns-clause-complete
returns-clause-complete g c = λ files told plan read write.
    rw c.status_of.ensures
    (complete g.S.Store g.O.Sink files c.args.words.now c.obey-ended.result _ _ _ _ told c.obey-ended.ensures.cause c.obey-ended.ensures.reads plan read write)

pub returns-clause-ended : goal.returns-clause-ended
returns-clause-ended g c = (
  c.obey-ended.result,
  c.status_of.ensures,
  (c.obey-ended.ensures.cause, c.obey-ended.ensures.reads, c.obey-ended.ensures.out, c.tell.ensures, c.obey-ended.ensures.counts.account, c.obey-ended.ensures.counts.moved, c.obey-ended.ensures.saved),
)
