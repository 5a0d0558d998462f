-- At the stream's end its `finish`, else its `call`.
use Rattle.prepare.proofs.Moving.{ended-answer, ended-bytes, portion-answer, portion-bytes}
use borrow.Author.Rules.{rules}
use Rattle.prepare.proofs.listen.Goals as goal

pub returns-then-ended : goal.returns-then-ended
returns-then-ended c = search (ended-answer, ended-bytes, rules)

pub returns : goal.returns
returns c = search (portion-answer, portion-bytes, rules)
