-- A case for each kind of entry.
use Rattle.exportentries.specs.Entries.{numbers_of_entry}
use Rattle.exportentries.proofs.Laws.{opened_in, entry_of}
use borrow.Author.Rules.{rules}
use Rattle.exportentries.proofs.put_entry.Goals as goal

pub put_opened-requires : goal.put_opened-requires
put_opened-requires c = search (opened_in, rules)

pub returns-in-Opened : goal.returns-in-Opened
unfolding numbers_of_entry
returns-in-Opened c = search (entry_of, rules)

pub returns-in-Placed : goal.returns-in-Placed
unfolding numbers_of_entry
returns-in-Placed c = search (entry_of, rules)

pub returns-in-LeftOut : goal.returns-in-LeftOut
unfolding numbers_of_entry
returns-in-LeftOut c = search (entry_of, rules)
