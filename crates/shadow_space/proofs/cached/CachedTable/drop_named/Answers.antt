use Rattle.std.proofs.Common.{arith, refl, ◌-◌}
use Rattle.shadow_space.proofs.Dropping.{cuts_none, cuts_not, cuts_one}
use Rattle.shadow_space.proofs.cached.CachedTable.drop_named.Goals as goal

pub loop-i-init : goal.loop-i-init
loop-i-init c = cuts_none c.args.tables.now c.args.page c.args.self.now c.args.mem.now c.len-i.result c.len-i.ensures.value c.requires

pub loop-i-preserved-then-not-names_page : goal.loop-i-preserved-then-not-names_page
loop-i-preserved-then-not-names_page c =
    cuts_not c.args.tables.now c.args.page c.args.self.now c.loop-i.self c.args.mem.now c.loop-i.mem c.loop-i.i (c.loop-i.i - 1) c.at.result c.loop-i.invariant c.loop-i-test.true refl c.at.ensures (grind (arith, c.names_page.ensures, c.if-not-names_page.true))

pub loop-i-preserved : goal.loop-i-preserved
loop-i-preserved c =
    cuts_one c.args.tables.now c.args.page c.args.self.now c.loop-i.self c.take_out.new.self c.args.mem.now c.loop-i.mem c.take_out.new.mem c.loop-i.i (c.loop-i.i - 1) c.at.result c.loop-i.invariant c.loop-i-test.true refl c.at.ensures
    (grind (arith, c.names_page.ensures, c.if-not-names_page.false)) c.take_out.ensures.entries c.take_out.ensures.keeps c.take_out.ensures.holds c.take_out.ensures.changed
