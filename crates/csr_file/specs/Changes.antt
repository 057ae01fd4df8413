-- How what `write` answers and leaves stands to the definition of a write.
use Rattle.std.specs.Prelude.{◌≡◌, Result, Ok, Err}
use Rattle.arch_defs.specs.declared.registers.Csrs.{Csrs}
use Rattle.arch_defs.specs.declared.csr_names.CsrEnd.{CsrEnd}

-- new registers are there afterwards and the answer is Ok; at a refusal the answer is that refusal, and
-- nothing has changed
abbrev pub Changed : Result Csrs CsrEnd → Csrs → Csrs → Result (Unit {0}) CsrEnd → Type 0
Changed (Ok csrs) before after answer = (after ≡ csrs) × (answer ≡ Ok tt)
Changed (Err end) before after answer = (after ≡ before) × (answer ≡ Err end)
