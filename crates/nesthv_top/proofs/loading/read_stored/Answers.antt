use Rattle.std.proofs.Common.{◌≡◌, ◌∙◌, sym}
use Rattle.command_line.specs.Seen.{file_command_seen}
use Rattle.nesthv_top.specs.Contents.{report_most, stored_of}
use Rattle.nesthv_top.specs.Reads.{ask, report_steps}
use Rattle.nesthv_top.proofs.CommandReads.{nothing_stored}
use Rattle.nesthv_top.proofs.Readings.{ask_ended, read_none}
use Rattle.nesthv_top.proofs.loading.read_stored.Goals as goal

pub returns-in-Run : goal.returns-in-Run
returns-in-Run g c =
    let command = file_command_seen c.args.request in
    let nothing = nothing_stored c.args.request c.in-Run.is in
    record {
      read = read_none g.S.Store (λ f. report_steps command) 1 (λ f stored. stored.items ≡ stored_of f command) c.new.result c.args.store.now c.args.reads.now.made
          (λ f told. nothing.0) (λ f told. c.new.ensures.items ∙ sym (nothing.1 f));
    }

pub returns-in-Replay : goal.returns-in-Replay
returns-in-Replay g c =
    rw c.in-Replay.is
    (record {
      read = ask_ended g.S.Store (ask c.in-Replay.report.now report_most) _ c.read.result c.args.store.now c.read.new.store c.args.reads.now.made c.read.new.self.made
          c.read.ensures.read c.read.ensures.bytes c.read.ensures.leaves;
    })
