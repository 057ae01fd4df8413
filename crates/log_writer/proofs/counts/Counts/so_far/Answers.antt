use Rattle.std.proofs.Common.{◌∙◌, ap}
use Rattle.log_writer.proofs.CountLines.{count_in, found_in}
use Rattle.log_writer.proofs.counts.Counts.so_far.Goals as goal

pub returns-in-Some : goal.returns-in-Some
returns-in-Some c =
    ap count_in c.in-Some.ensures.value
    ∙ found_in c.self.inside.lines.entries _ c.args.self.now c.args.place.now c.self.invariant c.self.view_is

pub returns-in-None : goal.returns-in-None
returns-in-None c =
    ap count_in c.in-None.ensures.value
    ∙ found_in c.self.inside.lines.entries _ c.args.self.now c.args.place.now c.self.invariant c.self.view_is
