-- The last group has what is left, any other 64 bits.
use Rattle.bpac.specs.Machine.{group-last, group-more}
use borrow.Author.Rules.{rules}
use Rattle.bpac.proofs.group_field.Goals as goal

pub returns-then-groups-eq0 : goal.returns-then-groups-eq0
returns-then-groups-eq0 c = search (group-last, rules)

pub returns : goal.returns
returns c = search (group-more, rules)
