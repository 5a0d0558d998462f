use Rattle.bits.proofs.Steps.{nothing-got, reading-first, reading-on, reading-end}
use borrow.Author.Rules.{rules}
use Rattle.bits.proofs.get_by_bytes.Goals as goal

pub returns-then-not-is_there : goal.returns-then-not-is_there
returns-then-not-is_there c = search (nothing-got, rules)

pub loop-k-init : goal.loop-k-init
loop-k-init c = search (reading-first, rules)

pub loop-k-preserved : goal.loop-k-preserved
loop-k-preserved c = search (reading-on, rules)

pub returns : goal.returns
returns c = search (reading-end, rules)
