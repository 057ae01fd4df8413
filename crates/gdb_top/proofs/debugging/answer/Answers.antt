use Rattle.std.proofs.Common.{rules, ◌≡◌, None, Some}
use Rattle.gdb_stub.specs.declared.talks.TalkEnd.TheVariants as talk_end
use Rattle.guest_commands.specs.GuestWords.{guest_command}
use Rattle.guest_commands.proofs.LoadedPlans.{cut}
use Rattle.nesthv_top.specs.declared.ends.Ended.TheVariants.{NoMemory}
use Rattle.nesthv_top.proofs.CommandReads.{wanting_says}
use Rattle.gdb_top.proofs.Ending.{talks_for}
use Rattle.gdb_top.proofs.debugging.answer.Goals as goal

pub returns-in-Ok-talk_about-clause-talk : goal.returns-in-Ok-talk_about-clause-talk
returns-in-Ok-talk_about-clause-talk g c =
    talks_for g.C.Connection c.args.description.now c.args.connection.now c.talk_about.new.connection _ c.args.request c.in-Ok.guest None c.in-Ok.ensures.guest c.in-Ok-talk_about.ensures.talked

pub returns-in-Err-ReadFault-clause-talk : goal.returns-in-Err-ReadFault-clause-talk
returns-in-Err-ReadFault-clause-talk g c =
    talks_for g.C.Connection c.args.description.now c.args.connection.now c.talk_about.new.connection _ c.args.request c.in-Ok.guest (Some talk_end.ReadFault) c.in-Ok.ensures.guest
    (rw c.in-Err-ReadFault.field-0-is at c.in-Err-ReadFault.ensures.talked)

pub returns-in-Err-WriteFault-clause-talk : goal.returns-in-Err-WriteFault-clause-talk
returns-in-Err-WriteFault-clause-talk g c =
    talks_for g.C.Connection c.args.description.now c.args.connection.now c.talk_about.new.connection _ c.args.request c.in-Ok.guest (Some talk_end.WriteFault) c.in-Ok.ensures.guest
    (rw c.in-Err-WriteFault.field-0-is at c.in-Err-WriteFault.ensures.talked)

pub returns-in-Err-NoMemory-clause-talk : goal.returns-in-Err-NoMemory-clause-talk
returns-in-Err-NoMemory-clause-talk g c =
    rw (c.from-in-Err-NoMemory.ensures, c.no_memory.ensures)
    (cut g.S.Store (guest_command c.args.request) c.load_guest.new.reads.made c.args.store.now c.load_guest.new.store _ _ c.in-Ok.ensures.passed
    (talks_for g.C.Connection c.args.description.now c.args.connection.now c.talk_about.new.connection _ c.args.request c.in-Ok.guest (Some talk_end.NoMemory) c.in-Ok.ensures.guest
    (rw c.in-Err-NoMemory.field-0-is at c.in-Err-NoMemory.ensures.talked)))

pub returns-in-Err-NoMemory-clause-reads : goal.returns-in-Err-NoMemory-clause-reads
returns-in-Err-NoMemory-clause-reads g c =
    let is : c.from-in-Err-NoMemory.result ≡ NoMemory c.load_guest.new.reads.made = search rules in
    rw is (wanting_says g.S.Store (guest_command c.args.request) c.load_guest.new.reads.made c.args.store.now c.load_guest.new.store c.in-Ok.ensures.passed c.in-Ok.ensures.reads)
