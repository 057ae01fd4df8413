-- The loan of a hart's state.
use Rattle.std.specs.Borrow.{Lends, MutBor, Fml}
use Rattle.arch_defs.specs.declared.hart_states.HartState.{HartState}
use Rattle.arch_defs.specs.contracts.hart_states.HartState.{the_row as state_row}
use Rattle.rv64_hart.specs.declared.harts.Hart.{Hart}
use Rattle.rv64_hart.specs.contracts.harts.Hart.{the_row}

-- the hart with another state
abbrev pub hart_with_state : Hart → HartState → Hart
hart_with_state hart state = record hart { state = state }

-- the hart ends with the state that was last written
abbrev pub LendsState : MutBor Hart → MutBor HartState → Fml
LendsState hart lent = Lends the_row state_row hart lent (hart_with_state hart.now)
