-- The test is that of `codes_after`.
use Rattle.quick.specs.Ocb.{codes-in, codes-out}
use borrow.Author.Rules.{rules}
use Rattle.quick.proofs.for_ocb.codes_behind.Goals as goal

pub returns-then-codes_fit : goal.returns-then-codes_fit
returns-then-codes_fit c = search (codes-in, rules)

pub returns : goal.returns
returns c = search (codes-out, rules)
