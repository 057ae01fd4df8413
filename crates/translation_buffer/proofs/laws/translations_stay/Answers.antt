use Rattle.translation_buffer.proofs.KeptPlaces.{translations_stay}
use Rattle.translation_buffer.proofs.laws.translations_stay.Goals as goal

pub returns : goal.returns
returns c = translations_stay
