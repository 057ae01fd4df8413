-- The record of references on which the functions inside a run of the hart work.
use Rattle.std.specs.Prelude.{◌≡◌}
use Rattle.rv64_hart.specs.declared.hart_refs.HartRef.{HartRef}

-- each still refers to what it did
abbrev pub SameReferences : HartRef → HartRef → Type 0
SameReferences old new =
    (new.state.ghost_name ≡ old.state.ghost_name)
    × (new.memory.ghost_name ≡ old.memory.ghost_name)
    × (new.buffer.ghost_name ≡ old.buffer.ghost_name)
    × (new.tally.ghost_name ≡ old.tally.ghost_name)
    × (new.trap.ghost_name ≡ old.trap.ghost_name)
