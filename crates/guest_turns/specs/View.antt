-- A host, as the lone machines of its guests.
use Rattle.std.specs.Prelude.{map}
use Rattle.guest_exit.specs.View.{machine_of}
use Rattle.guest_turns.specs.declared.hosts.Host.TheInside.{Inside}
use Rattle.guest_turns.specs.Hosted.{Hosted}
use Rattle.guest_turns.specs.Hosting.{AreHosted, parts_of}

abbrev pub hosted : Inside → Hosted
hosted host = record {
  machines = map (λ guest. machine_of guest host.memory) host.guests.items;
  parts = parts_of host.guests.items;
  memory = host.memory;
  free = host.free;
  retired = host.retired;
}

abbrev pub IsHost : Inside → Type 0
IsHost host = AreHosted host.guests.items host.retired host.free host.memory
