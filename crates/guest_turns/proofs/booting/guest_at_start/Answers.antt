use Rattle.std.proofs.Common.{rules}
use Rattle.machine_defs.specs.Machine.{start}
use Rattle.guest_turns.proofs.booting.guest_at_start.Goals as goal

pub returns : goal.returns
unfolding start
returns c =
    let keeps = c.set_pending_lines.ensures.keeps in
    record {
      own_part = keeps.part;
      platform = search rules;
      pool = search rules;
      spaces = search rules;
      entries = search rules;
      device = keeps.device;
    }
