-- `gad_area`: the sheet is judged, then looked at.
use Rattle.views.proofs.Gads.{gad-refused, gad-said}
use borrow.Author.Rules.{rules}
use Rattle.views.proofs.gadarea.gad_area.Goals as goal

pub returns-in-Err : goal.returns-in-Err
returns-in-Err c = search (gad-refused, rules)

pub returns-in-Ok : goal.returns-in-Ok
returns-in-Ok c = search (gad-said, rules)
