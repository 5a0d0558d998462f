-- `frame_of`: each field is read where the definition has it.
use Rattle.frame.specs.Check.{frame_of}
use Rattle.frame.proofs.frame_of.Goals as goal

pub returns : goal.returns
unfolding frame_of
returns c = cc
