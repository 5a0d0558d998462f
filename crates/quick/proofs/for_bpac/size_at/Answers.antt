-- SF081 has one bit.
use Rattle.quick.specs.Bpac.{size_is}
use borrow.Author.Rules.{rules}
use Rattle.quick.proofs.for_bpac.size_at.Goals as goal

pub returns : goal.returns
returns c = search (size_is, rules)
