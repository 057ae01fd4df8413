use Rattle.std.proofs.Common.{refl}
use Rattle.nesthv_top.specs.Seen.{loaded_plan}
use Rattle.nesthv_top.proofs.SavedMachines.{guest_there}
use Rattle.guest_commands.proofs.LoadedPlans.{has}
use Rattle.guest_commands.proofs.lone_guests.load_guest.Goals as goal

pub lone_guest-requires-clause-guest : goal.lone_guest-requires-clause-guest
lone_guest-requires-clause-guest g c = guest_there _ c.args.request.config c.args.request.guest c.in_ok-job.field-0.job refl c.in_ok-job.ensures.loaded.guest c.in_ok-job.ensures.loaded.job

pub returns-clause-guest : goal.returns-clause-guest
returns-clause-guest g c = record {
  source = c.lone_guest.ensures.source;
  few = c.lone_guest.ensures.few;
  plan = λ files told. has _ (loaded_plan c.in_ok-job.field-0) _ (c.in_ok-job.ensures.loaded.plan files told) c.lone_guest.ensures.is;
}
