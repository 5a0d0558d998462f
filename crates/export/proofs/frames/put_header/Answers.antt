-- Each place holds what its field says.
use Rattle.export.specs.Frames.{header_of}
use Rattle.export.proofs.frames.put_header.Goals as goal

pub returns : goal.returns
unfolding header_of
returns c = cc
