use Rattle.std.proofs.Common.{◌≡◌, Some, subst, sym}
use Rattle.command_line.specs.Commands.{OnFiles, Work, command_of}
use Rattle.command_line.specs.Seen.{IsWork, file_command_seen}
use Rattle.nesthv_top.specs.declared.ends.Ended.TheVariants.{Done, NoMemory, WriteFault}
use Rattle.nesthv_top.specs.Endings.{SaysOfCounts, SaysOfReads}
use Rattle.nesthv_top.specs.Plans.{work_plan}
use Rattle.nesthv_top.specs.Runnings.{CountsTurns}
use Rattle.nesthv_top.proofs.Accounting.{counted_work, in_part}
use Rattle.nesthv_top.proofs.CommandReads.{no_command_says, nothing_read, work_done, work_unwritten}
use Rattle.nesthv_top.proofs.Telling.{is_for}
use Rattle.nesthv_top.proofs.obeying.obey.Goals as goal

pub returns-in-Ok-Some-OnFiles-clause-cause : goal.returns-in-Ok-Some-OnFiles-clause-cause
returns-in-Ok-Some-OnFiles-clause-cause g c =
    let is = rw c.in-Ok-Some-OnFiles.field-0-0-is at (rw c.in-Ok-Some-OnFiles.field-0-is at c.in-Ok-Some-OnFiles.ensures.request) in
    record {
      words = is_for c.args.words.now (OnFiles (file_command_seen c.in-Ok-Some-OnFiles.request)) c.answer.result (sym is) c.answer.ensures.cause.command;
      read = c.answer.ensures.cause.read;
      write = c.answer.ensures.cause.write;
    }

pub returns-in-Ok-clause-counts : goal.returns-in-Ok-clause-counts
returns-in-Ok-clause-counts g c =
    let seed = c.in-Ok-Some-Work.seed in let size = c.in-Ok-Some-Work.size in
    let is : Some (Work seed size) ≡ command_of c.args.words.now
    = rw c.in-Ok-Some-Work.field-0-0-is at (rw c.in-Ok-Some-Work.field-0-is at c.in-Ok-Some-Work.ensures.request) in
    let within : IsWork seed size = rw c.in-Ok-Some-Work.field-0-0-is at (rw c.in-Ok-Some-Work.field-0-is at c.in-Ok-Some-Work.ensures.within) in
    subst (λ command. SaysOfCounts (g.S.Store.files c.args.store.now) command Done c.args.tally.now c.work.new.tally c.args.moves.now c.args.moves.now) is
    (counted_work (g.S.Store.files c.args.store.now) seed size c.args.tally.now c.work.new.tally c.args.moves.now within.size_most c.in-Ok.ensures.account)

pub returns-in-Err-WriteFault-clause-counts : goal.returns-in-Err-WriteFault-clause-counts
returns-in-Err-WriteFault-clause-counts g c =
    let seed = c.in-Ok-Some-Work.seed in let size = c.in-Ok-Some-Work.size in
    let is : Some (Work seed size) ≡ command_of c.args.words.now
    = rw c.in-Ok-Some-Work.field-0-0-is at (rw c.in-Ok-Some-Work.field-0-is at c.in-Ok-Some-Work.ensures.request) in
    let within : IsWork seed size = rw c.in-Ok-Some-Work.field-0-0-is at (rw c.in-Ok-Some-Work.field-0-is at c.in-Ok-Some-Work.ensures.within) in
    let grew : CountsTurns (work_plan seed size) c.args.tally.now c.work.new.tally = rw c.in-Err-WriteFault.field-0-is at c.in-Err-WriteFault.ensures.account in
    subst (λ command. SaysOfCounts (g.S.Store.files c.args.store.now) command WriteFault c.args.tally.now c.work.new.tally c.args.moves.now c.args.moves.now) is
    (in_part (g.S.Store.files c.args.store.now) (Work seed size) c.args.tally.now c.work.new.tally c.args.moves.now c.args.moves.now
    (counted_work (g.S.Store.files c.args.store.now) seed size c.args.tally.now c.work.new.tally c.args.moves.now within.size_most grew))

pub returns-in-Err-NoMemory-clause-cause : goal.returns-in-Err-NoMemory-clause-cause
returns-in-Err-NoMemory-clause-cause g c =
    let seed = c.in-Ok-Some-Work.seed in let size = c.in-Ok-Some-Work.size in
    let is : Some (Work seed size) ≡ command_of c.args.words.now
    = rw c.in-Ok-Some-Work.field-0-0-is at (rw c.in-Ok-Some-Work.field-0-is at c.in-Ok-Some-Work.ensures.request) in
    record { words = is_for c.args.words.now (Work seed size) (NoMemory 0) (sym is) tt; read = tt; write = tt }

pub returns-in-Ok-clause-reads : goal.returns-in-Ok-clause-reads
returns-in-Ok-clause-reads g c =
    let seed = c.in-Ok-Some-Work.seed in let size = c.in-Ok-Some-Work.size in
    let is : Some (Work seed size) ≡ command_of c.args.words.now
    = rw c.in-Ok-Some-Work.field-0-0-is at (rw c.in-Ok-Some-Work.field-0-is at c.in-Ok-Some-Work.ensures.request) in
    subst (λ command. SaysOfReads g.S.Store command Done c.args.store.now c.args.store.now) is (work_done g.S.Store seed size c.args.store.now)

pub returns-in-Err-WriteFault-clause-reads : goal.returns-in-Err-WriteFault-clause-reads
returns-in-Err-WriteFault-clause-reads g c =
    let seed = c.in-Ok-Some-Work.seed in let size = c.in-Ok-Some-Work.size in
    let is : Some (Work seed size) ≡ command_of c.args.words.now
    = rw c.in-Ok-Some-Work.field-0-0-is at (rw c.in-Ok-Some-Work.field-0-is at c.in-Ok-Some-Work.ensures.request) in
    subst (λ command. SaysOfReads g.S.Store command WriteFault c.args.store.now c.args.store.now) is (work_unwritten g.S.Store seed size c.args.store.now)

pub returns-in-Err-NoMemory-clause-reads : goal.returns-in-Err-NoMemory-clause-reads
returns-in-Err-NoMemory-clause-reads g c = nothing_read g.S.Store (command_of c.args.words.now) c.args.store.now

pub returns-in-Err-clause-reads : goal.returns-in-Err-clause-reads
returns-in-Err-clause-reads g c = nothing_read g.S.Store (command_of c.args.words.now) c.args.store.now

pub returns-in-Ok-None-clause-reads : goal.returns-in-Ok-None-clause-reads
returns-in-Ok-None-clause-reads g c = no_command_says g.S.Store (command_of c.args.words.now) c.args.store.now (sym (rw c.in-Ok-None.field-0-is at c.in-Ok-None.ensures.request))
