-- No corrections, or those of the block.
use Rattle.exportviews.proofs.satellites.orbit_of.Goals as goal

pub returns-in-None : goal.returns-in-None
returns-in-None c = cc
