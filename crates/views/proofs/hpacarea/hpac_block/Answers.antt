-- `hpac_block`: each field by its number.
use Rattle.views.proofs.hpacarea.hpac_block.Goals as goal

pub returns : goal.returns
returns c = cc
