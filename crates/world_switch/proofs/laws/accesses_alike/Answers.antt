use Rattle.world_switch.proofs.FirstStage.{finds_alike, knows_alike}
use Rattle.world_switch.proofs.Instructions.{own_mxr}
use Rattle.world_switch.proofs.Registers.{illegal_alike, illegal_to_write_alike, reads_alike, writes_alike}
use Rattle.world_switch.proofs.Undone.{translates_alike}
use Rattle.world_switch.proofs.laws.accesses_alike.Goals as goal

pub returns-clause-translations : goal.returns-clause-translations
returns-clause-translations c = translates_alike

pub returns-clause-reads : goal.returns-clause-reads
returns-clause-reads c = reads_alike

pub returns-clause-writes : goal.returns-clause-writes
returns-clause-writes c = writes_alike

pub returns-clause-illegal : goal.returns-clause-illegal
returns-clause-illegal c = illegal_alike

pub returns-clause-illegal_to_write : goal.returns-clause-illegal_to_write
returns-clause-illegal_to_write c = illegal_to_write_alike

pub returns-clause-mxr : goal.returns-clause-mxr
returns-clause-mxr c = own_mxr

pub returns-clause-known : goal.returns-clause-known
returns-clause-known c = knows_alike

pub returns-clause-found : goal.returns-clause-found
returns-clause-found c = finds_alike
