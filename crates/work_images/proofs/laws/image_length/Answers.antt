use Rattle.work_images.proofs.Images.{image_length}
use Rattle.work_images.proofs.laws.image_length.Goals as goal

pub returns : goal.returns
returns c = image_length
