use Rattle.gdb_packets.proofs.RoundTrips.{hex_back}
use Rattle.gdb_packets.proofs.laws.digits_are_read_back.Goals as goal

pub returns : goal.returns
returns c = hex_back
