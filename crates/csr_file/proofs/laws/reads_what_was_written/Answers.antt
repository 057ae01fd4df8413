use Rattle.csr_file.proofs.Reaching.{reads_what_was_written}
use Rattle.csr_file.proofs.laws.reads_what_was_written.Goals as goal

pub returns : goal.returns
returns c = reads_what_was_written
