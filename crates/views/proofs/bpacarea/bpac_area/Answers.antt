-- `bpac_area`: the sheet is judged, then looked at.
use Rattle.views.proofs.Bpacs.{bpac-refused, bpac-said}
use borrow.Author.Rules.{rules}
use Rattle.views.proofs.bpacarea.bpac_area.Goals as goal

pub returns-in-Err : goal.returns-in-Err
returns-in-Err c = search (bpac-refused, rules)

pub returns-in-Ok : goal.returns-in-Ok
returns-in-Ok c = search (bpac-said, rules)
