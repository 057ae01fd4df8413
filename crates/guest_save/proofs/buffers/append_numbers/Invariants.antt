use Rattle.std.specs.Prelude.{Ok}
use Rattle.std.proofs.Common.{take}
use Rattle.std.specs.List.{flat_map}
use Rattle.guest_save.specs.Numbers.{number_bytes}
use Rattle.guest_save.specs.Buffers.{Buffers}
use Rattle.outside.specs.declared.sinks.SinkFault.{SinkFault}
use Rattle.guest_save.proofs.buffers.append_numbers.Given as goal

abbrev pub invariant-loop-i : goal.invariant-loop-i
invariant-loop-i g l = Buffers {A = Unit {0}} {E = SinkFault} g.O.Sink (Ok tt) l.fn.out l.fn.held.items l.out l.held.items (flat_map number_bytes (take l.i l.values))
