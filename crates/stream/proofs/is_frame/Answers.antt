-- Each arm is a case of the definition.
use borrow.Author.Rules.{rules}
use Rattle.stream.proofs.Judging.{frame-case}
use Rattle.stream.proofs.is_frame.Goals as goal

pub returns-in-Accepted : goal.returns-in-Accepted
returns-in-Accepted c = search (frame-case, rules)
