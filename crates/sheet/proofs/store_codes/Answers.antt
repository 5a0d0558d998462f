-- Each by its own positions; no other type has a layout.
use Rattle.sheet.proofs.Reading.{filled-kind, filled-other}
use Rattle.sheet.proofs.StoringGad.{filled-gad}
use Rattle.sheet.proofs.StoringBpac.{filled-bpac}
use borrow.Author.Rules.{rules}
use Rattle.sheet.proofs.store_codes.Goals as goal

pub returns-then-kind-eq0 : goal.returns-then-kind-eq0
returns-then-kind-eq0 c = search (filled-kind, rules)

pub returns-then-kind-eq1 : goal.returns-then-kind-eq1
returns-then-kind-eq1 c = search (filled-kind, rules)

pub returns-then-kind-eq2 : goal.returns-then-kind-eq2
returns-then-kind-eq2 c = search (filled-gad, rules)

pub returns-then-kind-eq3 : goal.returns-then-kind-eq3
returns-then-kind-eq3 c = search (filled-bpac, rules)

pub returns-else-kind-eq3 : goal.returns-else-kind-eq3
returns-else-kind-eq3 c = search (filled-other, rules)
