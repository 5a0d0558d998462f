-- Tray, desk and whether it is an event are the answer's.
use Rattle.runlog.proofs.Telling.{spoken-is}
use borrow.Author.Rules.{rules}
use Rattle.runlog.proofs.hearing.told.Goals as goal

pub returns : goal.returns
returns c = search (spoken-is, rules)
