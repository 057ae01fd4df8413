use Rattle.arch_defs.proofs.RamBlocks.{ram_length, place_named, host_places_apart, ram_load, ram_pasted, ram_kept}
use Rattle.arch_defs.proofs.laws.ram_is_its_blocks.Goals as goal

pub returns-clause-size : goal.returns-clause-size
returns-clause-size c = ram_length

pub returns-clause-inside : goal.returns-clause-inside
returns-clause-inside c = place_named

pub returns-clause-apart : goal.returns-clause-apart
returns-clause-apart c = host_places_apart

pub returns-clause-reads : goal.returns-clause-reads
returns-clause-reads c = ram_load

pub returns-clause-writes : goal.returns-clause-writes
returns-clause-writes c = ram_pasted

pub returns-clause-stays : goal.returns-clause-stays
returns-clause-stays c = ram_kept
