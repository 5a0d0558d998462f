-- `bpac_from`: the ID against SF072's codes; the place that is found, or none.
use Rattle.views.specs.AlongBpac.{bpac_found}
use Rattle.views.proofs.Bpacs.{bpac-over, bpac-among}
use Rattle.views.proofs.Calls.{found_as, same-found}
use borrow.Author.Rules.{rules}
use Rattle.views.proofs.bpacarea.bpac_from.Goals as goal

pub returns-then-field-id : goal.returns-then-field-id
returns-then-field-id c = search (bpac-over, rules)

pub returns-in-None : goal.returns-in-None
returns-in-None c = search (bpac-among, found_as bpac_found, rules)

pub returns-in-Some : goal.returns-in-Some
returns-in-Some c = search (bpac-among, found_as bpac_found, same-found, rules)
