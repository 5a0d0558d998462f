-- Its codes are parts of the 43 bits, which are there if the message is accepted; behind them its nodes.
use Rattle.sheet.proofs.StoringBpac.{area-stored}
use borrow.Author.Rules.{rules}
use Rattle.sheet.proofs.store_bpac.area.Goals as goal

pub returns : goal.returns
returns c = search (area-stored, rules)
