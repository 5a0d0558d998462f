-- `bpac_block`: each field by its number.
use Rattle.views.proofs.bpacarea.bpac_block.Goals as goal

pub returns : goal.returns
returns c = cc
