use Rattle.csr_file.proofs.Apart.{leaves_others}
use Rattle.csr_file.proofs.laws.leaves_others.Goals as goal

pub returns : goal.returns
returns c = leaves_others
