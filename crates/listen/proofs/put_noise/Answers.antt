-- The parts of the line are put one behind the other.
use Rattle.listen.proofs.Lines.{noise-is}
use Rattle.listen.specs.Lengths.{noise-short}
use borrow.Author.Rules.{rules}
use Rattle.listen.proofs.put_noise.Goals as goal

pub returns : goal.returns
returns c = search (noise-is, noise-short, rules)
