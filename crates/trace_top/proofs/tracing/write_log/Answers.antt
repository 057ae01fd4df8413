use Rattle.std.proofs.Common.{sym}
use Rattle.command_line.specs.Commands.{OnFiles}
use Rattle.guest_commands.specs.GuestWords.{guest_command, saving_words}
use Rattle.nesthv_top.proofs.Telling.{is_for}
use Rattle.trace_top.proofs.tracing.write_log.Goals as goal

pub returns-in-Some-clause-words : goal.returns-in-Some-clause-words
returns-in-Some-clause-words g c =
    is_for (saving_words c.args.words.now) (OnFiles (guest_command c.in-Some.request)) c.answer.result (sym (rw c.in-Some.is at c.guest_request.ensures)) c.answer.ensures.command
