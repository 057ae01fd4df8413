use Rattle.guest_exit.proofs.Decided.{decided_else}
use Rattle.guest_exit.proofs.system.emulate.Goals as goal

pub unreachable-requires : goal.unreachable-requires
unreachable-requires c =
    let none = c.in_default in
    decided_else c.args.op.now c.requires.op.decided none.not-Csr none.not-Sret none.not-Wfi none.not-SfenceVma none.not-HfenceVvma none.not-HfenceGvma
    none.not-GuestLoad none.not-GuestFetch none.not-GuestStore
