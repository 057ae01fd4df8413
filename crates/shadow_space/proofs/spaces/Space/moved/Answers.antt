use Rattle.std.proofs.Common.{subst, sym}
use Rattle.shadow_space.specs.Moves.{IsMovedPart}
use Rattle.shadow_space.proofs.Refolding.{folded_moved}
use Rattle.shadow_space.proofs.Tidying.{held_by}
use Rattle.shadow_space.proofs.spaces.Space.moved.Goals as goal

pub move_to-requires-clause-holds : goal.move_to-requires-clause-holds
move_to-requires-clause-holds c =
    held_by c.self.inside.index c.self.inside.table c.args.self.now c.tables_of-tables.result c.args.mem.now c.self.view_is c.tables_of-tables.ensures.value c.requires.tidy

pub returns-clause-folded : goal.returns-clause-folded
returns-clause-folded c =
    folded_moved c.self.inside.index c.self.inside.table c.move_to.new.self c.args.part.now c.move_to.new.mem c.tables_of-tables.result c.self.invariant
    (subst (λ space. IsMovedPart space.part c.args.part.now) (sym c.self.view_is) c.requires.part) c.numbers_of.ensures.once c.numbers_of.ensures.small
    c.tables_of-tables.ensures.value c.move_to.ensures.table c.move_to.ensures.holds
