-- `gad_block`: each field by its number.
use Rattle.views.proofs.gadarea.gad_block.Goals as goal

pub returns : goal.returns
returns c = cc
