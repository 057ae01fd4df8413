use Rattle.rv64_asm.proofs.Coding.{decodes}
use Rattle.rv64_asm.proofs.Decoded.{decoded}
use Rattle.rv64_asm.proofs.laws.decoded_fits.Goals as goal

pub returns-clause-fits : goal.returns-clause-fits
returns-clause-fits c = λ word o e. (decoded word o e).fits

pub returns-clause-stays : goal.returns-clause-stays
returns-clause-stays c = λ word o e. let found = decoded word o e in decodes o found.named found.fits
