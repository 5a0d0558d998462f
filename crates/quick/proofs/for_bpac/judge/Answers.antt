-- All areas, and whether their bits are there.
use Rattle.quick.specs.Bpac.{bpac-is}
use borrow.Author.Rules.{rules}
use Rattle.quick.proofs.for_bpac.judge.Goals as goal

pub returns : goal.returns
returns c = search (bpac-is, rules)
