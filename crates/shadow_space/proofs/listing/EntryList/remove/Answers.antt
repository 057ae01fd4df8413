use Rattle.std.proofs.Common.{arith}
use Rattle.shadow_space.proofs.Editing.{shown_removed}
use Rattle.shadow_space.proofs.listing.EntryList.remove.Goals as goal

pub returns : goal.returns
returns c =
    shown_removed c.self.inside.slots c.copy_within.new.self c.args.self.now c.self.inside.count c.args.i c.self.view_is c.requires
    (omega (arith, c.self.invariant, c.self.ranges)) c.copy_within.ensures.after
