use Rattle.book.proofs.Searching.{seek-anew, reached-as}
use Rattle.book.proofs.Taking.{fill_start, fill-length, fill-long, fill-fits, fill-image, fill-room, fill_end, fill-turn, fill-place}
use borrow.Author.Rules.{rules}
use Rattle.book.proofs.insert_all.Goals as goal

pub loop-i-init : goal.loop-i-init
loop-i-init c = search (fill_start, seek-anew, rules)

pub seek-at-requires : goal.seek-at-requires
seek-at-requires c = search (fill-fits, rules)

pub add-held-requires-clause-image : goal.add-held-requires-clause-image
add-held-requires-clause-image c = (search (fill-image, rules), search rules, search (fill-long, rules), search rules)

pub add-held-requires-clause-reached : goal.add-held-requires-clause-reached
add-held-requires-clause-reached c = (search (reached-as, rules), search (fill-room, rules))

pub loop-i-preserved : goal.loop-i-preserved
loop-i-preserved c = (search (fill-turn, rules), search (fill-place, rules), search rules)

pub shape_of-bytes : goal.shape_of-bytes
shape_of-bytes c = search (fill-length, rules)

pub returns : goal.returns
returns c = search (fill_end, rules)
