-- `add`: an area whose ID is there stays as it is; another takes its place.
use Rattle.book.proofs.Searching.{reached-by}
use Rattle.book.proofs.Taking.{add_same, add_kept, add-new, add-more, add-room, add-fits, add-put}
use borrow.Author.Rules.{rules}
use Rattle.book.proofs.add.Goals as goal

pub look_at-requires : goal.look_at-requires
look_at-requires c = search (reached-by, rules)

pub insert-requires-clause-image : goal.insert-requires-clause-image
insert-requires-clause-image c = (search rules, search (add-room, rules), search (add-fits, rules))

pub insert-requires-clause-reached : goal.insert-requires-clause-reached
insert-requires-clause-reached c = (search rules, search (add-new, rules))

pub returns-then-is_some : goal.returns-then-is_some
returns-then-is_some c = search (add_same, add_kept, rules)

pub returns : goal.returns
returns c = search (add-more, add-put, rules)
