use Rattle.guest_commands.specs.GuestWords.{saving_command, saving_words}
use Rattle.guest_commands.proofs.GuestWords.{never_replayed}
use Rattle.guest_commands.proofs.Statuses.{comes, of_done}
use Rattle.nesthv_top.specs.declared.ends.Ended.{Ended}
use Rattle.gdb_top.specs.Endings.{SaysOfTalk}
use Rattle.gdb_top.proofs.Ending.{fault_said, read_said, talk_planned}
use Rattle.gdb_top.proofs.debugging.debug_words.Goals as goal

pub returns-clause-talk : goal.returns-clause-talk
returns-clause-talk g c = λ zero.
    of_done (λ (ended : Ended). SaysOfTalk g.C.Connection (g.S.Store.files c.args.store.now) (saving_command c.args.words.now) c.args.description.now ended c.args.connection.now c.obey-ended.new.connection)
    c.obey-ended.result (rw c.finish.ensures.status at zero) c.obey-ended.ensures.talk

pub returns-clause-comes : goal.returns-clause-comes
returns-clause-comes g c =
    let words = saving_words c.args.words.now in
    let ended = c.obey-ended.ensures in
    rw c.finish.ensures.status (comes _ words _ _ c.obey-ended.result ended.words (never_replayed c.args.words.now)
    (λ files known. fault_said files (saving_command c.args.words.now) c.obey-ended.result (ended.reads.fault files known))
    (talk_planned g.C.Connection c.args.description.now c.args.connection.now c.obey-ended.new.connection _ words c.obey-ended.result (never_replayed c.args.words.now) ended.words ended.talk)
    (read_said g.S.Store g.C.Connection c.args.store.now c.obey-ended.new.store c.args.connection.now c.obey-ended.new.connection c.obey-ended.result ended.causes) ended.causes.write)

pub returns-clause-ended : goal.returns-clause-ended
returns-clause-ended g c = (
  c.obey-ended.result,
  c.finish.ensures.status,
  (c.obey-ended.ensures.words, c.obey-ended.ensures.reads, c.obey-ended.ensures.causes, c.obey-ended.ensures.talk, c.finish.ensures.line),
)
