use Rattle.csr_file.proofs.ReadingBack.{reads_back, satp_back, vsatp_back, hgatp_back}
use Rattle.csr_file.proofs.laws.reads_back.Goals as goal

pub returns-clause-plain : goal.returns-clause-plain
returns-clause-plain c = reads_back

pub returns-clause-satp : goal.returns-clause-satp
returns-clause-satp c = satp_back

pub returns-clause-vsatp : goal.returns-clause-vsatp
returns-clause-vsatp c = vsatp_back

pub returns-clause-hgatp : goal.returns-clause-hgatp
returns-clause-hgatp c = hgatp_back
