use Rattle.csr_file.proofs.Refusals.{illegal_as_in_hs}
use Rattle.csr_file.proofs.laws.illegal_as_in_hs.Goals as goal

pub returns : goal.returns
returns c = illegal_as_in_hs
