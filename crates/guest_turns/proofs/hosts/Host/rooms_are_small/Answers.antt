use Rattle.guest_turns.proofs.Rooms.{host_rooms}
use Rattle.guest_turns.proofs.hosts.Host.rooms_are_small.Goals as goal

pub returns : goal.returns
returns c =
    let host = c.self.inside in
    host_rooms host.guests.items host.memory host.free host.retired _ c.self.view_is c.self.invariant
