-- Each place holds what its field says.
use Rattle.exportviews.specs.Satellites.{blocks_numbers}
use Rattle.exportviews.proofs.satellites.blocks_numbers.Goals as goal

pub returns : goal.returns
unfolding blocks_numbers
returns c = cc
