-- Nothing is kept aside: the answer is the same.
use Rattle.sheet.proofs.Writing.{judge-kept}
use borrow.Author.Rules.{rules}
use Rattle.sheet.proofs.judge_sheet.Goals as goal

pub returns : goal.returns
returns c = search (judge-kept, rules)
