use Rattle.std.proofs.Common.{◌∙◌, length, subst, sym}
use Rattle.std.proofs.lemmas.Iterator.Adapters.{YieldsList-from_vec}
use Rattle.std.proofs.lemmas.Iterator.Consumers.{YieldsList-turn}
use Rattle.nesthv_top.specs.Loads.{IsFitting}
use Rattle.nesthv_top.proofs.loading.sources_made.Goals as goal

pub source_made-requires : goal.source_made-requires
source_made-requires c =
    let gives = c.into_iter-files-iterator.ensures.into_iter_gives in
    let turn = YieldsList-turn (YieldsList-from_vec c.args.guests.items gives.0 (gives.1 ∙ c.args.guests.ok.0)) c.loop-files.yielded c.loop-files.files-iterator c.loop-files.yielded_by c.next.result c.next.new.self c.in-Some.files c.in-Some.is c.next.ensures.steps in
    subst IsFitting (sym turn.1) (c.requires.fitting (length c.loop-files.yielded) c.in-Some.files turn.0)
