use Rattle.std.specs.Prelude.{Ok}
use Rattle.std.proofs.Common.{take}
use Rattle.std.proofs.Common.{◌*◌}
use Rattle.arch_defs.specs.Memory.{block_size}
use Rattle.guest_save.specs.Buffers.{Buffers}
use Rattle.outside.specs.declared.sinks.SinkFault.{SinkFault}
use Rattle.guest_save.proofs.writing.append_ram.Given as goal

abbrev pub invariant-loop-number : goal.invariant-loop-number
invariant-loop-number g l = Buffers {A = Unit {0}} {E = SinkFault} g.O.Sink (Ok tt) l.fn.out l.fn.held.items l.out l.held.items (take (l.number * block_size) (g.S.Snapshot.machine l.snapshot).ram)
