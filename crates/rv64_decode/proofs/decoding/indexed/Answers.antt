use Rattle.std.proofs.Common.{◌∙◌, rules}
use Rattle.rv64_decode.proofs.Indices.{apart, at_add_upper, at_jump, at_load_upper, uncommon}
use Rattle.rv64_decode.proofs.decoding.indexed.Goals as goal

pub returns-in_default-clause-value : goal.returns-in_default-clause-value
returns-in_default-clause-value c = uncommon c.args.bits
    (apart c.args.index c.args.bits 13 (search rules) c.requires.index (search rules) (search rules) (search rules) (search rules) (search rules) (search rules) (search rules) (search rules))
    (apart c.args.index c.args.bits 5 (search rules) c.requires.index (search rules) (search rules) (search rules) (search rules) (search rules) (search rules) (search rules) (search rules))
    (apart c.args.index c.args.bits 27 (search rules) c.requires.index (search rules) (search rules) (search rules) (search rules) (search rules) (search rules) (search rules) (search rules))
    (apart c.args.index c.args.bits 25 (search rules) c.requires.index (search rules) (search rules) (search rules) (search rules) (search rules) (search rules) (search rules) (search rules))
    (apart c.args.index c.args.bits 24 (search rules) c.requires.index (search rules) (search rules) (search rules) (search rules) (search rules) (search rules) (search rules) (search rules))
    (apart c.args.index c.args.bits 0 (search rules) c.requires.index (search rules) (search rules) (search rules) (search rules) (search rules) (search rules) (search rules) (search rules))
    (apart c.args.index c.args.bits 8 (search rules) c.requires.index (search rules) (search rules) (search rules) (search rules) (search rules) (search rules) (search rules) (search rules))
    (apart c.args.index c.args.bits 4 (search rules) c.requires.index (search rules) (search rules) (search rules) (search rules) (search rules) (search rules) (search rules) (search rules))
    (apart c.args.index c.args.bits 12 (search rules) c.requires.index (search rules) (search rules) (search rules) (search rules) (search rules) (search rules) (search rules) (search rules))
    (apart c.args.index c.args.bits 6 (search rules) c.requires.index (search rules) (search rules) (search rules) (search rules) (search rules) (search rules) (search rules) (search rules))
    (apart c.args.index c.args.bits 14 (search rules) c.requires.index (search rules) (search rules) (search rules) (search rules) (search rules) (search rules) (search rules) (search rules))

pub returns-in-14-clause-value : goal.returns-in-14-clause-value
returns-in-14-clause-value c = c.load_upper.ensures ∙ at_load_upper c.args.index c.args.bits c.requires.index (search rules) (search rules)

pub returns-in-6-clause-value : goal.returns-in-6-clause-value
returns-in-6-clause-value c = c.add_upper.ensures ∙ at_add_upper c.args.index c.args.bits c.requires.index (search rules) (search rules)

pub returns-in-28-clause-value : goal.returns-in-28-clause-value
returns-in-28-clause-value c = c.jump.ensures ∙ at_jump c.args.index c.args.bits c.requires.index (search rules) (search rules)
