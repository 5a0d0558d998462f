-- The places at the start are the numbers.
use mathlib.Core.Path.{refl}
use Rattle.export.specs.Stored.{stored-none, stored-all}
use Rattle.export.proofs.Laws.{put-more, put_all}
use borrow.Author.Rules.{rules}
use Rattle.export.proofs.numbers.put.Goals as goal

pub returns-then-out-numbers : goal.returns-then-out-numbers
returns-then-out-numbers c = search (stored-none, rules)

pub loop-i-init : goal.loop-i-init
loop-i-init c = (refl, search rules)

pub loop-i-preserved : goal.loop-i-preserved
loop-i-preserved c = (search (put-more, rules), search rules)

pub returns : goal.returns
returns c = search (stored-all, put_all, rules)
