use Rattle.std.proofs.Common.{arith}
use Rattle.std.proofs.lemmas.List.{get_or_default}
use Rattle.guest_save.proofs.savable.fit.Goals as goal

pub returns : goal.returns
returns c = λ k d within. rw (get_or_default c.args.numbers.now k d 0 within) (omega (arith, c.type_inv.numbers k))
