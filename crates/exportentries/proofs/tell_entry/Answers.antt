-- A case for each answer.
use Rattle.exportentries.specs.Entries.{told_entry}
use Rattle.export.proofs.Laws.{number_in, numbers-in, laid_none}
use Rattle.exportentries.proofs.Laws.{answer-in}
use borrow.Author.Rules.{rules}
use Rattle.exportentries.proofs.tell_entry.Goals as goal

pub put_entry-requires : goal.put_entry-requires
put_entry-requires c = search (answer-in, rules)

pub returns-in-Ok : goal.returns-in-Ok
unfolding told_entry
returns-in-Ok c = search (number_in told_entry, numbers-in told_entry, rules)

pub returns-in-Err : goal.returns-in-Err
unfolding told_entry
returns-in-Err c = search (number_in told_entry, numbers-in told_entry, laid_none, rules)
