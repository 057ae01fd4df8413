use Rattle.std.proofs.Common.{◌≤◌}
use Rattle.gdb_stub.specs.Sessions.{recording_of, KeepsSession}
use Rattle.gdb_stub.specs.Talks.{talk_of, TalkedTo}
use Rattle.gdb_stub.proofs.talks.Talk.serve.Given as goal

abbrev pub invariant-loop : goal.invariant-loop
invariant-loop g l = record {
  keeps : KeepsSession g.R.Runner l.fn.self.session l.self.session;
  talked : TalkedTo g.C.Connection (recording_of g.R.Runner l.fn.self.session) (talk_of l.fn.self) (talk_of l.self)
      l.fn.self.come l.self.come l.fn.connection l.connection;
  read_count : g.C.Connection.read_faults l.fn.connection ≤ g.C.Connection.read_faults l.connection;
  write_count : g.C.Connection.write_faults l.fn.connection ≤ g.C.Connection.write_faults l.connection;
}
