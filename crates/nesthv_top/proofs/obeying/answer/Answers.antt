use Rattle.std.proofs.Common.{rules, ◌≡◌}
use Rattle.nesthv_top.specs.declared.ends.Ended.TheVariants.{NoMemory}
use Rattle.command_line.specs.Commands.{OnFiles}
use Rattle.command_line.specs.Seen.{file_command_seen}
use Rattle.replay.specs.declared.comparisons.Verdict.TheVariants.{Same}
use Rattle.nesthv_top.specs.Seen.{plan_seen}
use Rattle.nesthv_top.proofs.Accounting.{counted, counted_differing, counted_in_part}
use Rattle.nesthv_top.proofs.CommandReads.{wanting_says}
use Rattle.nesthv_top.proofs.Telling.{differing}
use Rattle.nesthv_top.proofs.obeying.answer.Goals as goal

pub returns-in-Ok-Same-clause-counts : goal.returns-in-Ok-Same-clause-counts
returns-in-Ok-Same-clause-counts g c =
    counted (g.S.Store.files c.args.store.now) (file_command_seen c.args.request) c.in-Ok.loaded.job c.in-Ok-Same.field-0 c.args.tally.now c.perform.new.tally c.args.moves.now c.perform.new.moves
    c.in-Ok.ensures.loaded.plan c.in-Ok.ensures.loaded.job c.in-Ok-Same.ensures.counts

pub returns-in-Ok-Differs-clause-counts : goal.returns-in-Ok-Differs-clause-counts
returns-in-Ok-Differs-clause-counts g c =
    counted_differing (g.S.Store.files c.args.store.now) (OnFiles (file_command_seen c.args.request)) c.args.tally.now c.perform.new.tally c.args.moves.now c.perform.new.moves
    (counted (g.S.Store.files c.args.store.now) (file_command_seen c.args.request) c.in-Ok.loaded.job c.in-Ok-Differs.field-0 c.args.tally.now c.perform.new.tally c.args.moves.now c.perform.new.moves
    c.in-Ok.ensures.loaded.plan c.in-Ok.ensures.loaded.job c.in-Ok-Differs.ensures.counts)

pub returns-in-Ok-Differs-clause-cause : goal.returns-in-Ok-Differs-clause-cause
returns-in-Ok-Differs-clause-cause g c = record {
  command = differing (file_command_seen c.args.request) c.in-Ok.loaded.stored.items (plan_seen c.in-Ok.loaded.job) _
      (rw c.in-Ok-Differs.field-0-is at c.in-Ok-Differs.ensures.answer.found);
  read = tt;
  write = tt;
}

pub returns-in-Err-WriteFault-clause-counts : goal.returns-in-Err-WriteFault-clause-counts
returns-in-Err-WriteFault-clause-counts g c =
    counted_in_part (g.S.Store.files c.args.store.now) (file_command_seen c.args.request) c.in-Ok.loaded.job Same c.args.tally.now c.perform.new.tally c.args.moves.now c.perform.new.moves
    c.in-Ok.ensures.loaded.plan c.in-Ok.ensures.loaded.job (rw c.in-Err-WriteFault.field-0-is at c.in-Err-WriteFault.ensures.counts)

pub returns-in-Err-NoMemory-clause-reads : goal.returns-in-Err-NoMemory-clause-reads
returns-in-Err-NoMemory-clause-reads g c =
    let is : c.from-in-Err-NoMemory.result ≡ NoMemory c.load.new.reads.made = search rules in
    rw is (wanting_says g.S.Store (file_command_seen c.args.request) c.load.new.reads.made c.args.store.now c.load.new.store c.in-Ok.ensures.passed c.in-Ok.ensures.reads)
