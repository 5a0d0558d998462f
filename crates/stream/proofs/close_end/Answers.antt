-- Noise that is left is told, and then all is (Ending.antt).
use Rattle.stream.proofs.Ending.{last-said, done-said}
use borrow.Author.Rules.{rules}
use Rattle.stream.proofs.close_end.Goals as goal

pub returns-then-untold-gt0 : goal.returns-then-untold-gt0
returns-then-untold-gt0 c = search (last-said, rules)

pub returns : goal.returns
returns c = search (done-said, rules)
