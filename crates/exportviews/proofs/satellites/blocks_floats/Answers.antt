-- Each place holds what its field says.
use Rattle.exportviews.specs.Satellites.{blocks_floats}
use Rattle.exportviews.proofs.satellites.blocks_floats.Goals as goal

pub returns : goal.returns
unfolding blocks_floats
returns c = cc
