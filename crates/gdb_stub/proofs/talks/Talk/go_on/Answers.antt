use Rattle.std.proofs.Common.{rules, ◌≡◌, Some, option_map}
use Rattle.gdb_packets.specs.declared.messages.Received.{Received}
use Rattle.gdb_packets.specs.Frames.{message_in}
use Rattle.gdb_packets.specs.Streams.{behind}
use Rattle.gdb_stub.proofs.Talking.{heard}
use Rattle.gdb_stub.proofs.talks.Talk.go_on.Goals as goal

pub returns-in-Some-clause-talked : goal.returns-in-Some-clause-talked
returns-in-Some-clause-talked g c =
    let found : Some c.in-Some.message ≡ option_map (λ (received : Received). received.message) (message_in c.args.self.now.come) = search rules in
    let rest : c.hear.new.self.come ≡ behind (message_in c.args.self.now.come) c.args.self.now.come = search rules in
    heard g.C.Connection _ _ c.args.connection.now c.hear.new.connection c.args.self.now.come _ c.in-Some.message _ _ found rest c.hear.ensures.heard
    c.hear.ensures.causes
