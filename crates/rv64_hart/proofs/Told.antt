-- Steps by what is told of them.
use Rattle.std.proofs.Common.{◌≡◌, ℕ, ◌+◌, ◌%◌, ◌^◌, ◌<◌, List, Some, Bool, true, false, refl, arith, ap, ◌∙◌}
use Rattle.arch_defs.specs.declared.hart_states.HartState.{HartState}
use Rattle.op_defs.specs.Table.{is_system}
use Rattle.machine_defs.specs.declared.events.Event.TheVariants.{System}
use Rattle.machine_defs.specs.Core.{event_of}
use Rattle.rv64_hart.specs.Endings.{Tells, told_of}
use Rattle.rv64_hart.specs.Steps.{Attempt, Makes, Raises, end_by, progress, progressed}

-- a step that adds nothing to the trace
pub nothing_added : (trace : ℕ) → trace < 2 ^ 64 → (trace + 0) % 2 ^ 64 ≡ trace
nothing_added trace h = omega arith

-- an instruction of opcode SYSTEM
pub system_told : (trace : ℕ) (attempt : Attempt) (state : HartState) (memory : List ℕ) → trace < 2 ^ 64
    → attempt ≡ Makes state memory System → told_of trace attempt ≡ Tells state memory trace false
system_told trace attempt state memory h e = rw e (ap (λ n. Tells state memory n false) (nothing_added trace h))

pub is_system_told : (trace : ℕ) (attempt : Attempt) (state : HartState) (memory : List ℕ) (pc word : ℕ)
    → trace < 2 ^ 64 → is_system word ≡ true → attempt ≡ Makes state memory (event_of pc word)
    → told_of trace attempt ≡ Tells state memory trace false
is_system_told trace attempt state memory pc word h s e =
    system_told trace attempt state memory h (e ∙ rw s refl)

-- one that is made
pub goes_on : (watch : Bool) (trace : ℕ) (old : HartState) (before : List ℕ) (attempt : Attempt)
    (state : HartState) (memory : List ℕ) (after : ℕ) → told_of trace attempt ≡ Tells state memory after false
    → progressed watch trace (end_by old before attempt) ≡ Some (progress state memory after false)
goes_on true trace old before (Makes s m made) state memory after e = cc
goes_on false trace old before (Makes s m made) state memory after e = cc
goes_on watch trace old before (Raises trap) state memory after e = absurd (cc)
