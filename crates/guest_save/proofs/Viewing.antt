-- A machine as its parts in code say it.
use Rattle.std.proofs.Common.{◌≡◌, sym}
use Rattle.guest_save.specs.declared.machine_parts.MachineParts.TheInside.{Inside}
use Rattle.guest_save.specs.Headers.{header_of}
use Rattle.guest_save.specs.View.{IsOfHeader, machine_inside}

-- its header is the one that is kept
pub header_same : (parts : Inside) → IsOfHeader parts → header_of (machine_inside parts) ≡ parts.header
header_same parts is = λ i. record parts.header {
  blocks = sym is.0 i;
  state = record parts.header.state { first = sym is.1 i };
}
