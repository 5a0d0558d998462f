-- `look_in`: the area at the first place with the ID.
use Rattle.book.proofs.Searching.{place_none, place_found}
use borrow.Author.Rules.{rules}
use Rattle.book.proofs.look_in.Goals as goal

pub returns-then-i-count : goal.returns-then-i-count
returns-then-i-count c = search (place_found, rules)

pub returns : goal.returns
returns c = search (place_none, rules)
