use Rattle.guest_turns.proofs.Savables.{is_need}
use Rattle.debug_runs.proofs.host_runs.needs_few_frames.Goals as goal

pub frames-frames-requires : goal.frames-frames-requires
frames-frames-requires c = rw c.need.ensures (is_need c.args.source.now c.requires)
