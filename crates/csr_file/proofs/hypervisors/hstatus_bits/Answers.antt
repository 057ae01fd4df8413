use Rattle.std.proofs.Common.{arith}
use Rattle.arch_defs.specs.CsrBits.{hstatus_bits}
use Rattle.csr_file.proofs.Statuses.{flag_at}
use Rattle.csr_file.proofs.hypervisors.hstatus_bits.Goals as goal

pub returns : goal.returns
unfolding hstatus_bits
returns c =
    let s = c.args.status in
    omega (arith, flag_at 6 s.gva, flag_at 7 s.spv, flag_at 8 s.spvp, flag_at 9 s.hu, flag_at 20 s.vtvm, flag_at 21 s.vtw, flag_at 22 s.vtsr)
