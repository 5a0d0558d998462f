-- Its fields in the order of table 6.16.
use Rattle.sheet.proofs.Storing.{troposphere-there, troposphere-absent}
use borrow.Author.Rules.{rules}
use Rattle.sheet.proofs.store.troposphere.Goals as goal

pub returns-then-blocks-ge1 : goal.returns-then-blocks-ge1
returns-then-blocks-ge1 c = search (troposphere-there, troposphere-absent, rules)

pub returns : goal.returns
returns c = search (troposphere-there, troposphere-absent, rules)
