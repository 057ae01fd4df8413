use Rattle.arch_defs.proofs.Naming.{once_by_test}
use Rattle.tests_surface.proofs.machines.part.Goals as goal

pub new-requires : goal.new-requires
new-requires c = once_by_test _ c.requires
