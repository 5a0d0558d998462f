-- `gad_from`: the place that is found, or none.
use Rattle.views.specs.AlongGad.{gad_found}
use Rattle.views.proofs.Calls.{found_as, same-found}
use borrow.Author.Rules.{rules}
use Rattle.views.proofs.gadarea.gad_from.Goals as goal

pub returns-in-None : goal.returns-in-None
returns-in-None c = search (found_as gad_found, rules)

pub returns-in-Some : goal.returns-in-Some
returns-in-Some c = search (found_as gad_found, same-found, rules)
