use Rattle.trap_delegation.proofs.Restored.{vs_entry_leaves_hs, hs_entry_leaves_vs, spvp_stays}
use Rattle.trap_delegation.proofs.laws.entries_leave.Goals as goal

pub returns-clause-of_vs : goal.returns-clause-of_vs
returns-clause-of_vs c = vs_entry_leaves_hs

pub returns-clause-of_hs : goal.returns-clause-of_hs
returns-clause-of_hs c = hs_entry_leaves_vs

pub returns-clause-privilege : goal.returns-clause-privilege
returns-clause-privilege c = spvp_stays
