use Rattle.book.proofs.Reading.{seek-start, seek-end, seek_found, seek-turn}
use borrow.Author.Rules.{rules}
use Rattle.book.proofs.place.Goals as goal

pub loop-i-init : goal.loop-i-init
loop-i-init c = search (seek-start, rules)

pub returns-then-bytes-i : goal.returns-then-bytes-i
returns-then-bytes-i c = search (seek_found, rules)

pub loop-i-preserved : goal.loop-i-preserved
loop-i-preserved c = search (seek-turn, rules)

pub returns : goal.returns
returns c = search (seek-end, rules)
