use Rattle.arch_defs.specs.FirstEntries.{is_first_of}
use Rattle.arch_defs.proofs.FirstFills.{seen_fits}
use Rattle.arch_defs.proofs.first_buffers.FirstBuffer.entry_of.Goals as goal

pub returns-clause-fits : goal.returns-clause-fits
returns-clause-fits c =
    seen_fits (λ e. e.now) (is_first_of c.args.tag.now c.args.atp.now c.args.page) _ c.found.result c.self.invariant.3 c.found.ensures
