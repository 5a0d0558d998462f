-- What the pass comes to is what the layout's reading says.
use Rattle.sheet.proofs.Reading.{pass-judged}
use borrow.Author.Rules.{rules}
use Rattle.sheet.proofs.judge_from.Goals as goal

pub returns : goal.returns
returns c = search (pass-judged, rules)
