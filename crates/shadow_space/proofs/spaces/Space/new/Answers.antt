use Rattle.shadow_space.proofs.Tidying.{tidy_zeros}
use Rattle.shadow_space.proofs.spaces.Space.new.Goals as goal

pub returns-clause-tidy : goal.returns-clause-tidy
returns-clause-tidy c = λ memory lies zeros.
    tidy_zeros c.args.part.now c.args.i c.args.entries c.new.result c.new-2.result memory c.numbers_of.ensures.once c.numbers_of.ensures.small c.requires.index c.requires.few c.requires.room
    c.new.ensures c.new-2.ensures lies zeros
