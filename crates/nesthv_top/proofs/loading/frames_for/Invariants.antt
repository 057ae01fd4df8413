use Rattle.std.proofs.Common.{◌≡◌, ◌*◌, ◌≤◌, take}
use Rattle.guest_settings.specs.Needs.{most_needed}
use Rattle.nesthv_top.proofs.Framing.{frames_by}
use Rattle.nesthv_top.proofs.loading.frames_for.Given as goal

abbrev pub invariant-loop-files : goal.invariant-loop-files
invariant-loop-files l = record {
  frames : l.sum ≡ frames_by (take l.files-index l.guests);
  most : l.sum ≤ l.files-index * most_needed;
}
