use Rattle.shadow_space.proofs.Counting.{kept_new}
use Rattle.shadow_space.proofs.frames.TableFrames.new.Goals as goal

pub returns : goal.returns
returns c =
    kept_new c.no_counts-counts.result c.numbers-free.result c.no_places-places.result c.args.count c.requires c.no_counts-counts.ensures.size c.numbers-free.ensures.size c.no_places-places.ensures
    c.no_counts-counts.ensures.zeros c.numbers-free.ensures.numbers
