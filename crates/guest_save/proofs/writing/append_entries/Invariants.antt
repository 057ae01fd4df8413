use Rattle.std.specs.Prelude.{Ok}
use Rattle.std.proofs.Common.{take}
use Rattle.std.specs.List.{flat_map}
use Rattle.std.proofs.Common.{get_or}
use Rattle.arch_defs.specs.Spaces.{Space}
use Rattle.guest_save.specs.Forms.{entry_form}
use Rattle.guest_save.specs.Buffers.{Buffers}
use Rattle.outside.specs.declared.sinks.SinkFault.{SinkFault}
use Rattle.guest_save.proofs.writing.append_entries.Given as goal

abbrev pub invariant-loop-place : goal.invariant-loop-place
invariant-loop-place g l = (d : Space) → Buffers {A = Unit {0}} {E = SinkFault} g.O.Sink (Ok tt) l.fn.out l.fn.held.items l.out l.held.items (flat_map entry_form (take l.place (get_or (g.S.Snapshot.machine l.snapshot).spaces l.space d).entries))
