-- Its seven codes are parts of the 47 bits, which are there if the message is accepted.
use Rattle.sheet.proofs.StoringGad.{block-stored}
use borrow.Author.Rules.{rules}
use Rattle.sheet.proofs.store_gad.block.Goals as goal

pub returns : goal.returns
returns c = search (block-stored, rules)
