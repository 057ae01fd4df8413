use Rattle.block_moves.proofs.RamMoving as ram
use Rattle.block_moves.proofs.laws.ram_moves.Goals as goal

pub returns-clause-moves : goal.returns-clause-moves
returns-clause-moves c = ram.ram_moves

pub returns-clause-stays : goal.returns-clause-stays
returns-clause-stays c = ram.block_stays
