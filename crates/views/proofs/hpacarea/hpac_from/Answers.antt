-- `hpac_from`: the place that is found, or none.
use Rattle.views.specs.AlongHpac.{hpac_found}
use Rattle.views.proofs.Calls.{found_as, same-found}
use borrow.Author.Rules.{rules}
use Rattle.views.proofs.hpacarea.hpac_from.Goals as goal

pub returns-in-None : goal.returns-in-None
returns-in-None c = search (found_as hpac_found, rules)

pub returns-in-Some : goal.returns-in-Some
returns-in-Some c = search (found_as hpac_found, same-found, rules)
