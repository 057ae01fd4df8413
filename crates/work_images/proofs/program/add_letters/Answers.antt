use Rattle.std.proofs.Common.{sym}
use Rattle.work_images.proofs.Adding.{with_no_lines}
use Rattle.work_images.proofs.Parts.{one_letter_more}
use Rattle.work_images.proofs.program.add_letters.Goals as goal

pub loop-page-init : goal.loop-page-init
loop-page-init c = sym (with_no_lines c.args.image.now)

pub loop-page-preserved : goal.loop-page-preserved
loop-page-preserved c = one_letter_more c.args.image.now c.loop-page.image c.add.new.image c.loop-page.page c.loop-page.invariant c.in_ok-add.ensures
