use Rattle.gdb_packets.proofs.RoundTrips.{cut_none, framed_back}
use Rattle.gdb_packets.proofs.laws.frames_are_read_back.Goals as goal

pub returns-clause-whole : goal.returns-clause-whole
returns-clause-whole c = framed_back

pub returns-clause-cut : goal.returns-clause-cut
returns-clause-cut c = cut_none
