-- `unit_of`: the code in its unit.
use Rattle.views.proofs.places.unit_of.Goals as goal

pub returns : goal.returns
returns c = cc
