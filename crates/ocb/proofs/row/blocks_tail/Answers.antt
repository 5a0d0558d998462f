-- The clock block is three cells, then comes what follows it.
use Rattle.layout.specs.Tests.{if-other}
use Rattle.ocb.specs.Rows.{clock-word}
use borrow.Author.Rules.{rules}
use Rattle.ocb.proofs.row.blocks_tail.Goals as goal

pub returns-then-clock-eq1 : goal.returns-then-clock-eq1
returns-then-clock-eq1 c = search (clock-word, rules)

pub returns : goal.returns
returns c = search (if-other, rules)
