-- A case for each answer.
use Rattle.exportentries.specs.Entries.{told_satellite}
use Rattle.export.proofs.Laws.{number_in, numbers-in, laid_none}
use borrow.Author.Rules.{rules}
use Rattle.exportentries.proofs.tell_satellite.Goals as goal

pub returns-in-Ok : goal.returns-in-Ok
unfolding told_satellite
returns-in-Ok c = search (number_in told_satellite, numbers-in told_satellite, rules)

pub returns-in-Err : goal.returns-in-Err
unfolding told_satellite
returns-in-Err c = search (number_in told_satellite, numbers-in told_satellite, laid_none, rules)
