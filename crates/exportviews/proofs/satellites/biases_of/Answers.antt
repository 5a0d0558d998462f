-- No biases, or those of the block.
use Rattle.exportviews.proofs.satellites.biases_of.Goals as goal

pub returns-in-None : goal.returns-in-None
returns-in-None c = cc
