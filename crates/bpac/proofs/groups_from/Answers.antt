-- With n not 0 the state counts one less.
use Rattle.bpac.specs.Machine.{groups_none, groups-more}
use borrow.Author.Rules.{rules}
use Rattle.bpac.proofs.groups_from.Goals as goal

pub returns-then-groups-eq0 : goal.returns-then-groups-eq0
returns-then-groups-eq0 c = search (groups_none, rules)

pub returns : goal.returns
returns c = search (groups-more, rules)
