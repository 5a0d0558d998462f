-- Its fields in the order of table 6.19; a mask has as many satellites as bits that are set.
use Rattle.sheet.proofs.Storing.{mask-near, ionosphere-there, ionosphere-absent}
use borrow.Author.Rules.{rules}
use Rattle.sheet.proofs.store.ionosphere.Goals as goal

pub slants-requires : goal.slants-requires
slants-requires c = search (mask-near, rules)

pub returns-then-blocks-ge1 : goal.returns-then-blocks-ge1
returns-then-blocks-ge1 c = search (ionosphere-there, ionosphere-absent, rules)

pub returns : goal.returns
returns c = search (ionosphere-there, ionosphere-absent, rules)
