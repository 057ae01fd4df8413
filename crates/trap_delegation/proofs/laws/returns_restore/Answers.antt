use Rattle.trap_delegation.proofs.Restored.{hs_gives_mode_back, hs_gives_sie_back, hs_gives_regs_back, vs_gives_mode_back, vs_gives_sie_back, vs_gives_regs_back}
use Rattle.trap_delegation.proofs.laws.returns_restore.Goals as goal

pub returns-clause-hs_mode : goal.returns-clause-hs_mode
returns-clause-hs_mode c = hs_gives_mode_back

pub returns-clause-hs_enable : goal.returns-clause-hs_enable
returns-clause-hs_enable c = hs_gives_sie_back

pub returns-clause-hs_registers : goal.returns-clause-hs_registers
returns-clause-hs_registers c = hs_gives_regs_back

pub returns-clause-vs_mode : goal.returns-clause-vs_mode
returns-clause-vs_mode c = vs_gives_mode_back

pub returns-clause-vs_enable : goal.returns-clause-vs_enable
returns-clause-vs_enable c = vs_gives_sie_back

pub returns-clause-vs_registers : goal.returns-clause-vs_registers
returns-clause-vs_registers c = vs_gives_regs_back
