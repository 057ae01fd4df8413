use Rattle.std.proofs.Common.{rules, ◌≡◌, true, false}
use Rattle.guest_commands.specs.GuestWords.{guest_command}
use Rattle.guest_commands.proofs.LoadedPlans.{cut}
use Rattle.nesthv_top.specs.declared.ends.Ended.TheVariants.{NoMemory}
use Rattle.nesthv_top.proofs.CommandReads.{wanting_says}
use Rattle.trace_top.proofs.Ending.{logs_for}
use Rattle.trace_top.proofs.tracing.answer.Goals as goal

pub returns-in-Ok-log_about-clause-log : goal.returns-in-Ok-log_about-clause-log
returns-in-Ok-log_about-clause-log g c =
    logs_for g.O.Sink c.args.out.now c.log_about.new.out _ c.args.request c.in-Ok.guest c.args.asked.now true c.in-Ok.ensures.guest c.in-Ok-log_about.ensures.log

pub returns-in-Err-WriteFault-clause-log : goal.returns-in-Err-WriteFault-clause-log
returns-in-Err-WriteFault-clause-log g c =
    logs_for g.O.Sink c.args.out.now c.log_about.new.out _ c.args.request c.in-Ok.guest c.args.asked.now false c.in-Ok.ensures.guest c.in-Err-WriteFault.ensures.log

pub returns-in-Err-NoMemory-clause-log : goal.returns-in-Err-NoMemory-clause-log
returns-in-Err-NoMemory-clause-log g c = rw (c.from-in-Err-NoMemory.ensures, c.no_memory.ensures)
    (cut g.S.Store (guest_command c.args.request) c.load_guest.new.reads.made c.args.store.now c.load_guest.new.store _ _ c.in-Ok.ensures.passed
    (logs_for g.O.Sink c.args.out.now c.log_about.new.out _ c.args.request c.in-Ok.guest c.args.asked.now false c.in-Ok.ensures.guest c.in-Err-NoMemory.ensures.log))

pub returns-in-Err-NoMemory-clause-reads : goal.returns-in-Err-NoMemory-clause-reads
returns-in-Err-NoMemory-clause-reads g c =
    let is : c.from-in-Err-NoMemory.result ≡ NoMemory c.load_guest.new.reads.made = search rules in
    rw is (wanting_says g.S.Store (guest_command c.args.request) c.load_guest.new.reads.made c.args.store.now c.load_guest.new.store c.in-Ok.ensures.passed c.in-Ok.ensures.reads)
