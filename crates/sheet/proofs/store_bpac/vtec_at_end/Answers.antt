-- Its quality and its size are parts of 12 bits, which are there if the message is accepted; its residual has 7 bits or 11.
use Rattle.sheet.proofs.StoringBpac.{vtec-small, vtec-large}
use borrow.Author.Rules.{rules}
use Rattle.sheet.proofs.store_bpac.vtec_at_end.Goals as goal

pub returns-then-size-eq0 : goal.returns-then-size-eq0
returns-then-size-eq0 c = search (vtec-small, rules)

pub returns : goal.returns
returns c = search (vtec-large, rules)
