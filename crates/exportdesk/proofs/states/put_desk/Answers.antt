-- Each place holds what its field says.
use Rattle.exportdesk.specs.States.{desk_of}
use Rattle.exportdesk.proofs.states.put_desk.Goals as goal

pub returns : goal.returns
unfolding desk_of
returns c = cc
