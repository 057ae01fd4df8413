use Rattle.translation_buffer.proofs.Stored.{serves_stored}
use Rattle.translation_buffer.proofs.laws.buffers_serve_on.Goals as goal

pub returns : goal.returns
returns c = serves_stored
