-- Each part has bits of its own (Laws.antt).
use Rattle.export.proofs.Laws.{answer-made}
use borrow.Author.Rules.{rules}
use Rattle.export.proofs.numbers.answer_of.Goals as goal

pub returns : goal.returns
returns c = search (answer-made, rules)
