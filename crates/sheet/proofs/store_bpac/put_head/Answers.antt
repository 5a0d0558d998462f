-- Each code in its entry, one after the other.
use Rattle.sheet.proofs.StoringBpac.{head-put}
use borrow.Author.Rules.{rules}
use Rattle.sheet.proofs.store_bpac.put_head.Goals as goal

pub returns : goal.returns
returns c = search (head-put, rules)
