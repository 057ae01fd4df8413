use Rattle.std.proofs.Common.{◌≡◌, take}
use Rattle.std.specs.List.{flat_map}
use Rattle.caching_steps.specs.Noting.{note_if, noted_step}
use Rattle.caching_steps.proofs.notes.renewed.Given as goal

abbrev pub invariant-loop-i : goal.invariant-loop-i
invariant-loop-i l = record {
  items : l.notes.items ≡ flat_map (λ name. note_if name (noted_step l.others name)) (take l.i l.names);
}
