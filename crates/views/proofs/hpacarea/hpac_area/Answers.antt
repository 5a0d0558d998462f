-- `hpac_area`: the sheet is judged, then looked at.
use Rattle.views.proofs.Hpacs.{hpac-refused, hpac-said}
use borrow.Author.Rules.{rules}
use Rattle.views.proofs.hpacarea.hpac_area.Goals as goal

pub returns-in-Err : goal.returns-in-Err
returns-in-Err c = search (hpac-refused, rules)

pub returns-in-Ok : goal.returns-in-Ok
returns-in-Ok c = search (hpac-said, rules)
