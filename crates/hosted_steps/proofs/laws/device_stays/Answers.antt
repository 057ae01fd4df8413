use Rattle.hosted_steps.proofs.DevicePages.{run_keeps_device}
use Rattle.hosted_steps.proofs.laws.device_stays.Goals as goal

pub returns : goal.returns
returns c = run_keeps_device
