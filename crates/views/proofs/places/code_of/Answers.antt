-- `code_of`: the entry at the place that is sought.
use Rattle.views.proofs.places.code_of.Goals as goal

pub returns : goal.returns
returns c = cc
