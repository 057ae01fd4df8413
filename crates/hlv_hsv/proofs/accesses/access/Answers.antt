use Rattle.std.proofs.Common.{None, subst}
use Rattle.arch_defs.specs.Memory.{Mmu, mmu, nothing_known}
use Rattle.rv64_asm.specs.Words.{encoded}
use Rattle.hlv_hsv.proofs.Allowed.{AccessesOrTraps, accesses_or_traps, ends_else, kind_decided}
use Rattle.hlv_hsv.proofs.accesses.access.Goals as goal

pub emulate-requires-clause-decided : goal.emulate-requires-clause-decided
emulate-requires-clause-decided g c = kind_decided c.args.op c.requires.op.kind

pub unreachable-requires : goal.unreachable-requires
unreachable-requires g c =
    let through : Mmu = mmu nothing_known (λ address access. None) (λ place bytes. 0) in
    ends_else c.emulate.result c.emulate.new.state
    (subst AccessesOrTraps (c.emulate.ensures.ends through) (accesses_or_traps c.args.op c.args.state.now (encoded c.args.op) through c.requires.op.kind))
    c.in_default.not-Accesses c.in_default.not-Raise
