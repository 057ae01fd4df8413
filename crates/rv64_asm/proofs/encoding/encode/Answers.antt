use Rattle.rv64_asm.proofs.Shifts.{csr_source}
use Rattle.rv64_asm.proofs.encoding.encode.Goals as goal

pub csr-requires : goal.csr-requires
csr-requires c = csr_source c.args.op.now c.in-Csr.op c.in-Csr.source c.in-Csr.rd c.in-Csr.number c.in-Csr.is c.requires
