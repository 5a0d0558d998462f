-- `biases_at`: as many biases as their masks have bits.
use Rattle.views.proofs.Ocbs.{biases-are}
use borrow.Author.Rules.{rules}
use Rattle.views.proofs.satellites.biases_at.Goals as goal

pub returns : goal.returns
returns c = search (biases-are, rules)
