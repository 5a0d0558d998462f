-- `count_of`: the code as a count.
use Rattle.views.proofs.places.count_of.Goals as goal

pub returns : goal.returns
returns c = cc
