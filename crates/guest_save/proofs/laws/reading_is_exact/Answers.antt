use Rattle.guest_save.proofs.RoundTrip.{bad_exactly, front_decides, round_trip}
use Rattle.guest_save.proofs.StoredRegisters.{read_is_stored}
use Rattle.guest_save.proofs.laws.reading_is_exact.Goals as goal

pub returns-clause-machine : goal.returns-clause-machine
returns-clause-machine c = round_trip

pub returns-clause-bad : goal.returns-clause-bad
returns-clause-bad c = bad_exactly

pub returns-clause-front : goal.returns-clause-front
returns-clause-front c = front_decides

pub returns-clause-stored : goal.returns-clause-stored
returns-clause-stored c = read_is_stored
