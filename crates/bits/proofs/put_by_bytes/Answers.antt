use Rattle.bits.proofs.Steps.{not-here, nothing_put, writing-first, writing-on, all_here, writing-end}
use borrow.Author.Rules.{rules}
use Rattle.bits.proofs.put_by_bytes.Goals as goal

pub returns-then-not-is_there : goal.returns-then-not-is_there
returns-then-not-is_there c = search (not-here, nothing_put, rules)

pub loop-k-init : goal.loop-k-init
loop-k-init c = search (writing-first, rules)

pub loop-k-preserved : goal.loop-k-preserved
loop-k-preserved c = search (writing-on, rules)

pub returns : goal.returns
returns c = search (all_here, writing-end, rules)
