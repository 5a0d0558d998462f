-- `seek`: the areas before the last place have IDs below one that is above all before it.
use Rattle.book.proofs.Searching.{seek-anew, seek-on}
use borrow.Author.Rules.{rules}
use Rattle.book.proofs.seek.Goals as goal

pub reach-requires : goal.reach-requires
reach-requires c = search (seek-anew, rules)

pub reach-requires-2 : goal.reach-requires-2
reach-requires-2 c = search (seek-on, rules)
