-- Each code in its entry, one after the other.
use Rattle.sheet.proofs.StoringGad.{place-put}
use borrow.Author.Rules.{rules}
use Rattle.sheet.proofs.store_gad.put_place.Goals as goal

pub returns : goal.returns
returns c = search (place-put, rules)
